-- What it costs to begin the answers of a query, and why it is refused.
use Rattle.std.specs.Prelude.{◌≡◌, ◌≢◌, ℕ, ◌+◌, ◌<◌, ◌≤◌, Bool, true, false, List, length, Option, Some, None, IsTrue}
use Rattle.span_core.specs.declared.span.Span.{Span}
use Rattle.span_core.specs.declared.kept.Kept.{Kept}
use Rattle.span_core.specs.Lists.{Has}
use Rattle.spanner_model.specs.Expression.{QueryTree}
use Rattle.spanner_model.specs.Answers.{SpanRow}
use Rattle.marked_automaton.specs.Automaton.{Automaton}
use Rattle.automaton_reading.specs.Reading.{edges_K, weight_K}
use Rattle.query_automaton.specs.QueryAutomaton.{of_query}
use Rattle.one_pass.specs.Builds.{build}
use Rattle.one_pass.specs.Weights.{WeighsWithin}
use Rattle.spanner_engine.specs.Touching.{HasMinus, SomeAtomOf, TouchedOf, sum_atoms_of}
use Rattle.segment_filter.specs.Touching.{IsSetOf}
use Rattle.segment_filter.specs.Costs.{atom_weight, touching_steps}
use Rattle.spanner_engine.specs.declared.beginning.BeginFault.{BeginFault}
use Rattle.spanner_engine.specs.declared.beginning.BeginFault.TheVariants.{CursorOther, CursorPlace, Filter, Table, OutOfMemory}

-- some span of the row ends past n
abbrev pub EndsPast : ℕ → SpanRow → Type 0
EndsPast n row = (s : Span) × Has row (Some s) × (n < s.end)

-- the row that a cursor keeps, where there is a cursor
abbrev pub row_kept : Option Kept → Option SpanRow
row_kept None = None
row_kept (Some kept) = Some kept.row

-- the cursor keeps this length, and n is another
abbrev pub KeepsOther : ℕ → Option Kept → ℕ → Type 0
KeepsOther n None other = ⊥
KeepsOther n (Some kept) other = (kept.length ≡ Some other) × (other ≢ n)

-- the cursor keeps no length, and a span of its row ends past n
abbrev pub IsPast : ℕ → Option Kept → Type 0
IsPast n None = ⊥
IsPast n (Some kept) = (kept.length ≡ None) × EndsPast n kept.row

-- the positions at which a document is read: all of them, or with the filter those that some atom of the query's text touches; where a
-- difference stands in that text, these are all of them too
abbrev pub IsReadAt : Bool → QueryTree → List ℕ → ℕ → Type 0
IsReadAt false q d i = i ≤ length d
IsReadAt true q d i = TouchedOf q d i

-- K is the set of these
abbrev pub AreRead : Bool → QueryTree → List ℕ → (ℕ → Bool) → Type 0
AreRead filter q d K = IsSetOf K (IsReadAt filter q d)

-- the automaton that numbers are counted on: that of the query, with nothing left out
abbrev pub counted : QueryTree → Automaton
counted q = (of_query q).graph

-- what a table weighs that holds all that reading the document at these positions needs
abbrev pub table_weight : QueryTree → List ℕ → (ℕ → Bool) → ℕ
table_weight q d K = weight_K (counted q) d K

-- what reading the document with this automaton at the positions must hold weighs no more than the limit
abbrev pub IsReadWithin : Automaton → QueryTree → List ℕ → Bool → ℕ → Type 0
IsReadWithin A q d filter limit = (K : ℕ → Bool) → AreRead filter q d K → WeighsWithin A d K limit

-- to find the positions, at most; nothing where all are read
abbrev pub filter_steps : Bool → QueryTree → List ℕ → ℕ
filter_steps false q d = 0
filter_steps true q d = sum_atoms_of (λ a. touching_steps a d) q

-- some atom of the query's text passes the limit
abbrev pub HasHeavyAtom : QueryTree → List ℕ → ℕ → Type 0
HasHeavyAtom q d limit = SomeAtomOf (λ a. limit < atom_weight a d) q

-- one step for each cell, to go to the place after a row; none where no row is given
abbrev pub cells_sought : ℕ → Option SpanRow → ℕ
cells_sought cells None = 0
cells_sought cells (Some row) = cells

-- to find the positions; to build the rows, of which each cell comes of an edge, but one; and to go to the place after a row
abbrev pub begin_steps : Bool → QueryTree → List ℕ → (ℕ → Bool) → Option SpanRow → ℕ
begin_steps filter q d K after =
    filter_steps filter q d + build (counted q) d K + cells_sought (edges_K (counted q) d K + 1) after

-- why nothing is begun: the cursor keeps another length than the document's; or it keeps none, and a span ends past the document; some
-- atom of a text without differences, or reading at the positions, weighs more than the limit; want of memory has no cause
abbrev pub IsBeginFault : QueryTree → List ℕ → Bool → Option Kept → ℕ → BeginFault → Type 0
IsBeginFault q d filter after limit (CursorOther kept found) = KeepsOther (length d) after kept × (found ≡ length d)
IsBeginFault q d filter after limit CursorPlace = IsPast (length d) after
IsBeginFault q d filter after limit (Filter weight) = IsTrue filter × ¬ HasMinus q × SomeAtomOf (λ a. (limit < weight) × (weight ≤ atom_weight a d)) q
IsBeginFault q d filter after limit (Table weight) =
    (limit < weight) × ((K : ℕ → Bool) → AreRead filter q d K → weight ≤ table_weight q d K)
IsBeginFault q d filter after limit OutOfMemory = Unit {0}
