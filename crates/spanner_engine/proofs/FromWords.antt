-- From a document that is read at what the atoms of a query touch to the rows of an enumerator.
use Rattle.std.proofs.Common.{◌≡◌, ℕ, ◌+◌, ◌≤◌, Bool, List, Option, None, Some, length, arith, Fits, w8, slice_index_or}
use Rattle.std.proofs.lemmas.Option.{get_or_from_slice_get}
use Rattle.span_core.specs.Lists.{Has}
use Rattle.spanner_model.specs.Expression.{QueryTree}
use Rattle.spanner_model.specs.Answers.{AreAnswers, SpanRow}
use Rattle.marked_automaton.specs.Automaton.{IsMarked, Marked}
use Rattle.place_automaton.specs.Atom.{AreBytes}
use Rattle.automaton_reading.specs.Reading.{edges_K}
use Rattle.query_automaton.specs.CompiledQuery.{IsCompiled}
use Rattle.set_table.specs.declared.fault.TableFault.{TableFault}
use Rattle.set_table.specs.declared.fault.TableFault.TheVariants.{Full, OutOfMemory}
use Rattle.enumerator.specs.Enumeration.{AreInBlockOrder, AreRowsOf, IsWordOfRow}
use Rattle.segment_filter.specs.Touching.{Contains}
use Rattle.spanner_engine.specs.Touching.{TouchedOf}
use Rattle.spanner_engine.proofs.QueryWaiting.{query_reading}
use Rattle.one_pass.specs.Builds.{build}
use Rattle.one_pass.specs.Faults.{IsReadFault}
use Rattle.one_pass.specs.Places.{AreReadWords}
use Rattle.one_pass.specs.Words.{Word}
use Rattle.spanner_engine.specs.Begun.{counted}
use Rattle.spanner_engine.specs.Caching.{rebuild}
use Rattle.one_pass.specs.declared.known_table.KeptTable.{KeptTable}
use Rattle.spanner_engine.specs.Laws.{CostsNoMore, ReadsAnswers}
use Rattle.spanner_engine.proofs.Costs.{reduct_costs}
use Rattle.spanner_engine.proofs.RowLaws.{rows_are_answers, words_are_of_rows}

pub bytes_of : (d : List ℕ) → ((i : ℕ) → Fits w8 (slice_index_or d i 0)) → AreBytes d
bytes_of d fits i b e = let f = fits i in rw (← get_or_from_slice_get d i b 0 e) (omega (arith, f))

-- ---- in the shapes of the code

sums : (old new a b c e : ℕ) → new ≤ old + a + b → a ≤ c → b ≤ e → new ≤ old + c + e
sums old new a b c e le first second = omega (arith, le, first, second)

one_more : (cells many a b : ℕ) → cells ≡ many → many ≤ a + 1 → a ≤ b → cells ≤ b + 1
one_more cells many a b is le less = omega (arith, is, le, less)

module _ (q : QueryTree) (A : Marked) (made : IsCompiled q A) (marked : IsMarked A) (d : List ℕ) (K : ℕ → Bool) where
  -- a compiled query costs no more than its counted automaton
  costs : CostsNoMore A.graph (counted q) d K
  costs = reduct_costs A (counted q) marked made.reduces.1 d K

  pub read_fault : (limit : ℕ) (e : TableFault) → IsReadFault A.graph K d limit e → IsReadFault (counted q) K d limit e
  read_fault limit (Full w) h = (let c = costs.weights in (h.0, omega (arith, h.1, c)))
  read_fault limit OutOfMemory h = tt

  rebuild_within : (kept : Option KeptTable) → rebuild kept A.graph d K ≤ rebuild kept (counted q) d K
  rebuild_within None = omega arith
  rebuild_within (Some k) = costs.steps

  pub steps_within : (kept : Option KeptTable) (old new : ℕ) → new ≤ old + rebuild kept A.graph d K + build A.graph d K →
      new ≤ old + rebuild kept (counted q) d K + build (counted q) d K
  steps_within kept old new le =
      sums old new (rebuild kept A.graph d K) (build A.graph d K) (rebuild kept (counted q) d K) (build (counted q) d K) le (rebuild_within kept) costs.steps

  pub cells_within : (cells many : ℕ) → cells ≡ many → many ≤ edges_K A.graph d K + 1 → cells ≤ edges_K (counted q) d K + 1
  cells_within cells many is le = one_more cells many (edges_K A.graph d K) (edges_K (counted q) d K) is le costs.edges

  module _ (touched : Contains K (TouchedOf q d)) (bytes : (i : ℕ) → Fits w8 (slice_index_or d i 0)) (words : List Word) (read : AreReadWords A.graph K d words)
      (v : ℕ) (names : List (List ℕ)) (many : v ≡ length names) (named : names ≡ A.names) where
    reads : ReadsAnswers q A d K
    reads w = query_reading q made.sound A marked made.reduces d (bytes_of d bytes) K touched w

    width : v ≡ length A.names
    width = rw (← named) many

    pub rows_to_list : (w : Word) → Has words w → IsWordOfRow v w
    rows_to_list w h =
        rw width (words_are_of_rows q A d K reads words read w h)

    pub answers_listed : (whole : List SpanRow) → AreRowsOf v words whole → AreInBlockOrder whole → AreAnswers q d A.names whole
    answers_listed whole are order = rows_are_answers q A d K reads words read whole (rw (← width) are) order
