-- Paths of ways over bytes, and states that lead back to themselves.
use Rattle.std.specs.Prelude.{◌≡◌, ℕ, List, [], ◌∷◌}
use Rattle.span_core.specs.Lists.{Has}
use Rattle.marked_automaton.specs.declared.way.Way.{Way}
use Rattle.marked_automaton.specs.Automaton.{HasByte}

-- some path of ways leads on these bytes from the state p to the state q, by these marks, one number for each byte
abbrev pub IsPath : List Way → ℕ → List ℕ → List ℕ → ℕ → Type 0
IsPath ways p [] marks q = (marks ≡ []) × (p ≡ q)
IsPath ways p (b ∷ bytes) marks q =
    (y : Way) × Has ways y × (y.from ≡ p) × HasByte y.bytes b × (rest : List ℕ) × (y.marks ∷ rest ≡ marks) × IsPath ways y.to bytes rest q

-- none of them are marks
abbrev pub AreNone : List ℕ → Type 0
AreNone [] = Unit {0}
AreNone (m ∷ marks) = (m ≡ 0) × AreNone marks

-- over these bytes the states lead to themselves alone, without marks, and to each of them
pub record ComeBack (ways : List Way) (states bytes : List ℕ) : Type 0 where
  pub only : (p : ℕ) → Has states p → (marks : List ℕ) (q : ℕ) → IsPath ways p bytes marks q → AreNone marks × Has states q
  pub each : (q : ℕ) → Has states q → (p : ℕ) × Has states p × (marks : List ℕ) × IsPath ways p bytes marks q
