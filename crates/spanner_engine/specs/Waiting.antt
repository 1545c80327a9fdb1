-- Laws of reading a query's automaton where its atoms touch.
use Rattle.std.specs.Prelude.{◌≡◌, ℕ, ◌↔◌, Bool, List}
use Rattle.spanner_model.specs.Captures.{Mapping, row_of}
use Rattle.spanner_model.specs.Expression.{QueryTree}
use Rattle.spanner_model.specs.Answer.{IsAnswer}
use Rattle.spanner_model.specs.Sound.{IsSound}
use Rattle.marked_automaton.specs.Automaton.{Automaton, IsMarked, IsWhole, Marked}
use Rattle.marked_automaton.specs.Marks.{remarked}
use Rattle.marked_automaton.specs.Reduct.{Reduces, ReducesMarked}
use Rattle.automaton_reading.specs.Chosen.{IsReadWith}
use Rattle.place_automaton.specs.Atom.{AreBytes}
use Rattle.place_automaton.specs.Words.{IsWordOf}
use Rattle.algebra.specs.Operations.{union_of, join_of}
use Rattle.query_automaton.specs.QueryAutomaton.{of_query}
use Rattle.segment_filter.specs.Idling.{WaitsOutside}
use Rattle.segment_filter.specs.Touching.{Contains}
use Rattle.spanner_engine.specs.Touching.{TouchedOf}

-- what is made of automata that only wait outside of K does too
abbrev pub UnionWaits : Type 0
UnionWaits =
    (A B : Automaton) → IsWhole A → IsWhole B → (d : List ℕ) (K : ℕ → Bool) →
    WaitsOutside A d K → WaitsOutside B d K → WaitsOutside (union_of A B) d K

abbrev pub ProjectionWaits : Type 0
ProjectionWaits =
    (A : Automaton) (e : ℕ → ℕ) → e 0 ≡ 0 → (d : List ℕ) (K : ℕ → Bool) → WaitsOutside A d K → WaitsOutside (remarked e A) d K

abbrev pub JoinWaits : Type 0
JoinWaits =
    (agree : ℕ → ℕ → Bool) (both : ℕ → ℕ → ℕ) (A B : Automaton) → IsWhole A → IsWhole B → both 0 0 ≡ 0 → (d : List ℕ) (K : ℕ → Bool) →
    WaitsOutside A d K → WaitsOutside B d K → WaitsOutside (join_of agree both A B) d K

abbrev pub ReductWaits : Type 0
ReductWaits = (A B : Automaton) → Reduces A B → (d : List ℕ) (K : ℕ → Bool) → WaitsOutside B d K → WaitsOutside A d K

-- the automaton of a query, where K has the positions that its atoms touch
abbrev pub QueryWaits : Type 0
QueryWaits =
    (q : QueryTree) → IsSound q → (d : List ℕ) (K : ℕ → Bool) → Contains K (TouchedOf q d) → WaitsOutside (of_query q).graph d K

-- reading a reduct of it there finds the words of the rows of the query's answers, and no others
abbrev pub QueryReading : Type 0
QueryReading =
    (q : QueryTree) → IsSound q → (A : Marked) → IsMarked A → ReducesMarked A (of_query q) →
    (d : List ℕ) → AreBytes d → (K : ℕ → Bool) → Contains K (TouchedOf q d) → (w : ℕ → ℕ) →
    IsReadWith A.graph K d w ↔ ((m : Mapping) × IsAnswer q d m × IsWordOf (row_of A.names m) d w)
