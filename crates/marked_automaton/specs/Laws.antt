-- Laws of automata and of their reducts.
use Rattle.std.specs.Prelude.{◌≡◌, ℕ, ◌≤◌, ◌↔◌, List, length, reverse}
use Rattle.std.specs.FinSet as set
use Rattle.std.specs.List.Sorted.{IsPermutation}
use Rattle.spanner_model.specs.Captures.{VarName}
use Rattle.span_core.specs.Lists.{Has, AreDistinct}
use Rattle.marked_automaton.specs.declared.way.Way.{Way}
use Rattle.marked_automaton.specs.declared.way.Stop.{Stop}
use Rattle.marked_automaton.specs.Automaton.{Automaton, Accepts, IsBlockOf, IsWhole, TakesNoMarks, reversed}
use Rattle.marked_automaton.specs.Marks.{left_of, remarked}
use Rattle.marked_automaton.specs.Reduct.{Rearranges, Reduces}

-- each whole automaton is a reduct of itself
abbrev pub ReductOfItself : Type 0
ReductOfItself = (A : Automaton) → IsWhole A → Reduces A A

abbrev pub ReductOfReduct : Type 0
ReductOfReduct = (A B C : Automaton) → Reduces A B → Reduces B C → Reduces A C

-- a permutation of the ways changes nothing but their order
abbrev pub RearrangedByPermutation : Type 0
RearrangedByPermutation =
    (B : Automaton) (ways : List Way) → IsWhole B → IsPermutation B.ways ways →
    Rearranges (record { states = B.states; starts = B.starts; ways = ways; stops = B.stops; idle = B.idle }) B

-- what differs in the order of its ways is a reduct
abbrev pub RearrangedIsReduct : Type 0
RearrangedIsReduct = (A B : Automaton) → Rearranges A B → Reduces A B

-- a reduct accepts what it reduces accepts
abbrev pub ReductAccepts : Type 0
ReductAccepts = (A B : Automaton) → Reduces A B → (d : List ℕ) (w : ℕ → ℕ) → Accepts A d w ↔ Accepts B d w

-- each way has some byte
abbrev pub WaysHaveBytes : Automaton → Type 0
WaysHaveBytes A = (y : Way) → Has A.ways y → ¬ (y.bytes ≡ set.empty)

-- a reduct has no more states, no more ways and no more ends
abbrev pub ReductIsNoLarger : Type 0
ReductIsNoLarger =
    (A B : Automaton) → IsWhole A → WaysHaveBytes A → Reduces A B →
    (A.states ≤ B.states) × (length A.ways ≤ length B.ways) × (length A.stops ≤ length B.stops)

-- what a projection of a reduct reduces
abbrev pub ReductOfProjection : Type 0
ReductOfProjection = (A B : Automaton) (m : ℕ → ℕ) → Reduces A B → Reduces (remarked m A) (remarked m B)

-- the blocks of ways and ends are over so many variables
pub record AreBlocksOf (v : ℕ) (A : Automaton) : Type 0 where
  pub ways : (y : Way) → Has A.ways y → IsBlockOf v y.marks
  pub stops : (x : Stop) → Has A.stops x → IsBlockOf v x.marks

-- a projection that keeps all variables changes nothing
abbrev pub KeepingLaw : Type 0
KeepingLaw =
    (names : List VarName) (A : Automaton) → AreDistinct names → AreBlocksOf (length names) A → remarked (left_of names names) A ≡ A

-- two words are the same on the document
abbrev pub AgreeOn : List ℕ → (ℕ → ℕ) → (ℕ → ℕ) → Type 0
AgreeOn d w v = (p : ℕ) → p ≤ length d → w p ≡ v p

-- the words of a projection are what is left of the words
abbrev pub ProjectionLaw : Type 0
ProjectionLaw =
    (A : Automaton) (e : ℕ → ℕ) (d : List ℕ) (w : ℕ → ℕ) →
    Accepts (remarked e A) d w ↔ ((v : ℕ → ℕ) × Accepts A d v × AgreeOn d w (λ p. e (v p)))

-- turned round, an automaton without markers accepts the documents turned round
abbrev pub ReversalLaw : Type 0
ReversalLaw =
    (A : Automaton) → TakesNoMarks A → (d : List ℕ) →
    Accepts (reversed A) (reverse d) (λ i. 0) ↔ Accepts A d (λ i. 0)
