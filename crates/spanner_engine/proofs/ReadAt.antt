-- The positions at which a document is read, as sets.
use Rattle.std.proofs.Common.{◌≡◌, ℕ, ◌+◌, ◌<◌, ◌≤◌, ◌⊎◌, ◌↔◌, Bool, true, false, List, [], ◌∷◌, length, Option, Some, None, inl, inr, subst, arith, Fits, w8, slice_index_or}
use Rattle.std.proofs.lemmas.Bool.{true≢false}
use Rattle.std.specs.Bool.{one_answer}
use Rattle.span_core.specs.Intervals.{Covers}
use Rattle.span_core.specs.Lists.{Has}
use Rattle.spanner_model.specs.Answers.{IsRest, SpanRow}
use Rattle.spanner_model.specs.Expression.{AtomTree, ExprTree, QueryTree, atom, join, join_end, minus, named, project, union, union_end}
use Rattle.marked_automaton.specs.Automaton.{IsMarked, Marked}
use Rattle.automaton_reading.specs.Reading.{edges_K}
use Rattle.query_automaton.specs.CompiledQuery.{IsCompiled}
use Rattle.enumerator.specs.Enumeration.{AreInBlockOrder, AreRowsOf, IsWordOfRow}
use Rattle.segment_filter.specs.Touching.{Contains, IsSetOf}
use Rattle.spanner_engine.specs.Touching.{HasMinus, SomeAtom, TouchedOf}
use Rattle.set_table.specs.declared.fault.TableFault.{TableFault}
use Rattle.set_table.specs.declared.fault.TableFault.TheVariants.{Full}
use Rattle.one_pass.specs.Builds.{build}
use Rattle.one_pass.specs.Faults.{IsReadFault}
use Rattle.one_pass.specs.Places.{AreReadWords, is_touched}
use Rattle.one_pass.specs.Weights.{WeighsWithin}
use Rattle.one_pass.specs.Words.{Word}
use Rattle.one_pass.proofs.LawProofs.{touched_covers, covers_touched}
use Rattle.spanner_engine.specs.Caching.{rebuild}
use Rattle.one_pass.specs.declared.known_table.KeptTable.{KeptTable}
use Rattle.spanner_engine.specs.Begun.{AreRead, IsReadAt, IsReadWithin, begin_steps, cells_sought, counted, filter_steps, table_weight}
use Rattle.spanner_engine.specs.Left.{AreLeft}
use Rattle.spanner_engine.proofs.FromWords.{answers_listed, cells_within, read_fault, rows_to_list, steps_within}

-- ---- sets

-- two sets of the same positions are the same
pub same_set : (P : ℕ → Type 0) (K J : ℕ → Bool) → IsSetOf K P → IsSetOf J P → K ≡ J
same_set P K J k j = let at : (i : ℕ) → K i ≡ J i = λ i. one_answer (K i) (J i) (k i) (j i) in λ x i. at i x

-- ---- within the document

-- what follows for each atom
some_then : (P : AtomTree → Type 0) (X : Type 0) → ((a : AtomTree) → P a → X) → (e : ExprTree) → SomeAtom P e → X
some_then P X then_ (atom a) h = then_ a h
some_then P X then_ (named k) h = absurd h
some_then P X then_ union_end h = absurd h
some_then P X then_ (union e rest) (inl h) = some_then P X then_ e h
some_then P X then_ (union e rest) (inr h) = some_then P X then_ rest h
some_then P X then_ join_end h = absurd h
some_then P X then_ (join e rest) (inl h) = some_then P X then_ e h
some_then P X then_ (join e rest) (inr h) = some_then P X then_ rest h
some_then P X then_ (project names e) h = some_then P X then_ e h
some_then P X then_ (minus e g) (inl h) = some_then P X then_ e h
some_then P X then_ (minus e g) (inr h) = some_then P X then_ g h

pub touched_within : (q : QueryTree) (d : List ℕ) (i : ℕ) → TouchedOf q d i → i ≤ length d
touched_within q d i (inl (inl h)) = some_then _ (i ≤ length d) (λ a p. omega (arith, p.4, p.8)) h.0.1 h.2
touched_within q d i (inl (inr h)) = some_then _ (i ≤ length d) (λ a p. omega (arith, p.4, p.8)) q.body h
touched_within q d i (inr h) = h.1

pub read_within : (filter : Bool) (q : QueryTree) (d : List ℕ) (i : ℕ) → IsReadAt filter q d i → i ≤ length d
read_within false q d i h = h
read_within true q d i h = touched_within q d i h

-- without the filter, and where a difference stands in the text, all of the document is read
pub read_whole : (filter : Bool) (q : QueryTree) (d : List ℕ) → (filter ≡ false) ⊎ HasMinus q → (i : ℕ) → (i ≤ length d) ↔ IsReadAt filter q d i
read_whole false q d why i = (λ h. h, λ h. h)
read_whole true q d (inl not) i = absurd (true≢false not)
read_whole true q d (inr has) i = (λ h. inr (has, h), λ h. touched_within q d i h)

-- the positions from 0 to n
pub covers_whole : (parts : List (ℕ × ℕ)) (n i : ℕ) → parts ≡ (0, n) ∷ [] → Covers parts i ↔ (i ≤ n)
covers_whole parts n i is = (
  λ h. elim (rw is at h) as (λ _. i ≤ n) [ inl p ↦ p.1 | inr q ↦ absurd q ],
  λ h. rw is (inl (omega arith, h)),
)

pub touched_read : (filter : Bool) (q : QueryTree) (d : List ℕ) (i : ℕ) → TouchedOf q d i → IsReadAt filter q d i
touched_read false q d i h = touched_within q d i h
touched_read true q d i h = h

-- ---- the set of the positions that are read

module _ (filter : Bool) (q : QueryTree) (d : List ℕ) (parts : List (ℕ × ℕ)) (read : (i : ℕ) → Covers parts i ↔ IsReadAt filter q d i) where
  abbrev K : ℕ → Bool
  K = is_touched parts

  are_read : AreRead filter q d K
  are_read i = (λ h. (read i).0 (touched_covers parts i h), λ h. covers_touched parts i ((read i).1 h))

  pub parts_within : (i : ℕ) → Covers parts i → i ≤ length d
  parts_within i h = read_within filter q d i ((read i).0 h)

  parts_contain : Contains K (TouchedOf q d)
  parts_contain i h = (are_read i).1 (touched_read filter q d i h)

  -- what holds of it holds of each such set
  for_each : (P : (ℕ → Bool) → Type 0) → P K → (J : ℕ → Bool) → AreRead filter q d J → P J
  for_each P given J are = subst P (same_set (IsReadAt filter q d) K J are_read are) given

  sought_most : (cells most : ℕ) (after : Option SpanRow) → cells ≤ most → cells_sought cells after ≤ cells_sought most after
  sought_most cells most None le = omega arith
  sought_most cells most (Some row) le = le

  -- by the automaton of the query
  module _ (A : Marked) (made : IsCompiled q A) (marked : IsMarked A) where
    pub read_limit : (limit : ℕ) → WeighsWithin A.graph d K limit → IsReadWithin A.graph q d filter limit
    read_limit limit le = for_each (λ J. WeighsWithin A.graph d J limit) le

    pub table_cause : (limit weight : ℕ) (fault : TableFault) → fault ≡ Full weight → IsReadFault A.graph K d limit fault →
        (limit < weight) × ((J : ℕ → Bool) → AreRead filter q d J → weight ≤ table_weight q d J)
    table_cause limit weight fault full cause =
        let told = subst (IsReadFault (counted q) K d limit) full (read_fault q A made marked d K limit fault cause) in
        (told.0, for_each (λ J. weight ≤ table_weight q d J) told.1)

    -- where reading ends early
    pub steps_read : (kept : Option KeptTable) (old found new : ℕ) (after : Option SpanRow) → found ≤ old + filter_steps filter q d →
        new ≤ found + rebuild kept A.graph d K + build A.graph d K →
        (J : ℕ → Bool) → AreRead filter q d J → new ≤ old + rebuild kept (counted q) d J + begin_steps filter q d J after
    steps_read kept old found new after first next =
        let built = steps_within q A made marked d K kept found new next in
        for_each (λ J. new ≤ old + rebuild kept (counted q) d J + begin_steps filter q d J after) (omega (arith, first, built))

    pub steps_sought : (kept : Option KeptTable) (old found built new cells many : ℕ) (after : Option SpanRow) → found ≤ old + filter_steps filter q d →
        built ≤ found + rebuild kept A.graph d K + build A.graph d K → cells ≡ many → many ≤ edges_K A.graph d K + 1 → new ≤ built + cells_sought cells after →
        (J : ℕ → Bool) → AreRead filter q d J → new ≤ old + rebuild kept (counted q) d J + begin_steps filter q d J after
    steps_sought kept old found built new cells many after first next is few last =
        let read = steps_within q A made marked d K kept found built next in
        let most = sought_most cells (edges_K (counted q) d K + 1) after (cells_within q A made marked d K cells many is few) in
        for_each (λ J. new ≤ old + rebuild kept (counted q) d J + begin_steps filter q d J after) (omega (arith, first, read, last, most))

    module _ (bytes : (i : ℕ) → Fits w8 (slice_index_or d i 0)) (words : List Word) (listed : AreReadWords A.graph K d words)
        (v : ℕ) (names : List (List ℕ)) (many : v ≡ length names) (named : names ≡ A.names) where
      pub rows_listed : (w : Word) → Has words w → IsWordOfRow v w
      rows_listed = rows_to_list q A made marked d K parts_contain bytes words listed v names many named

      pub answers_left : (whole rest : List SpanRow) (after : Option SpanRow) → AreRowsOf v words whole → AreInBlockOrder whole → IsRest after whole rest → AreLeft q d A.names after rest
      answers_left whole rest after are order behind = (whole, answers_listed q A made marked d K parts_contain bytes words listed v names many named whole are order, behind)
