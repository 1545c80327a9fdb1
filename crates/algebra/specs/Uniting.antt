-- The union of automata over any names: each part is taken over the names of both.
use Rattle.std.specs.Prelude.{◌≡◌, ℕ, ◌⊎◌, ◌↔◌, List}
use Rattle.spanner_model.specs.Captures.{VarName}
use Rattle.span_core.specs.Lists.{AreDistinct}
use Rattle.marked_automaton.specs.Automaton.{Accepts, Automaton, IsMarked, IsWhole, Marked}
use Rattle.marked_automaton.specs.Laws.{AgreeOn}
use Rattle.marked_automaton.specs.Marks.{left_of, remarked}
use Rattle.algebra.specs.Operations.{union_of}

-- the blocks of A as blocks over these names
abbrev pub graph_over : List VarName → Marked → Automaton
graph_over all A = remarked (left_of A.names all) A.graph

-- P is A over these names
pub record IsOver (all : List VarName) (A P : Marked) : Type 0 where
  pub names : P.names ≡ all
  pub graph : P.graph ≡ graph_over all A

-- the union over these names
abbrev pub union_over : Marked → Marked → List VarName → Automaton
union_over A B all = union_of (graph_over all A) (graph_over all B)

-- the word is what a word of A is over these names
abbrev pub IsAcceptedOver : List VarName → Marked → List ℕ → (ℕ → ℕ) → Type 0
IsAcceptedOver all A d w = (v : ℕ → ℕ) × Accepts A.graph d v × AgreeOn d w (λ p. left_of A.names all (v p))

abbrev pub UnionOverLaw : Type 0
UnionOverLaw =
    (A B : Marked) (all : List VarName) → IsWhole A.graph → IsWhole B.graph → (d : List ℕ) (w : ℕ → ℕ) →
    Accepts (union_over A B all) d w ↔ (IsAcceptedOver all A d w ⊎ IsAcceptedOver all B d w)

-- over the names that both have, blocks stay as they are
abbrev pub UnionOverSameNames : Type 0
UnionOverSameNames =
    (A B : Marked) → AreDistinct A.names → A.names ≡ B.names → IsMarked A → IsMarked B → union_over A B A.names ≡ union_of A.graph B.graph
