-- Which positions of a document the atoms of a query touch.
use Rattle.std.specs.Prelude.{ℕ, ◌+◌, ◌≤◌, ◌⊎◌, List, length}
use Rattle.std.specs.List.{sum_by}
use Rattle.span_core.specs.Lists.{Has}
use Rattle.spanner_model.specs.Captures.{VarName}
use Rattle.spanner_model.specs.Expression.{AtomTree, ExprTree, QueryTree, atom, named, union_end, union, join_end, join, project, minus}
use Rattle.segment_filter.specs.Touching.{IsTouchedBy}

-- it holds of some atom of the expression
abbrev pub SomeAtom : (AtomTree → Type 0) → ExprTree → Type 0
SomeAtom P (atom a) = P a
SomeAtom P (named k) = ⊥
SomeAtom P union_end = ⊥
SomeAtom P (union e rest) = SomeAtom P e ⊎ SomeAtom P rest
SomeAtom P join_end = ⊥
SomeAtom P (join e rest) = SomeAtom P e ⊎ SomeAtom P rest
SomeAtom P (project names e) = SomeAtom P e
SomeAtom P (minus e g) = SomeAtom P e ⊎ SomeAtom P g

-- of some atom of the query's text, be it of a let, named or not, or of the body
abbrev pub SomeAtomOf : (AtomTree → Type 0) → QueryTree → Type 0
SomeAtomOf P q = ((l : VarName × ExprTree) × Has q.lets l × SomeAtom P l.1) ⊎ SomeAtom P q.body

-- what the atoms of the expression come to together
abbrev pub sum_atoms : (AtomTree → ℕ) → ExprTree → ℕ
sum_atoms m (atom a) = m a
sum_atoms m (named k) = 0
sum_atoms m union_end = 0
sum_atoms m (union e rest) = sum_atoms m e + sum_atoms m rest
sum_atoms m join_end = 0
sum_atoms m (join e rest) = sum_atoms m e + sum_atoms m rest
sum_atoms m (project names e) = sum_atoms m e
sum_atoms m (minus e g) = sum_atoms m e + sum_atoms m g

-- and those of the query's text
abbrev pub sum_atoms_of : (AtomTree → ℕ) → QueryTree → ℕ
sum_atoms_of m q = sum_by (λ (l : VarName × ExprTree). sum_atoms m l.1) q.lets + sum_atoms m q.body

-- a difference stands in the expression
abbrev pub HasMinusIn : ExprTree → Type 0
HasMinusIn (atom a) = ⊥
HasMinusIn (named k) = ⊥
HasMinusIn union_end = ⊥
HasMinusIn (union e rest) = HasMinusIn e ⊎ HasMinusIn rest
HasMinusIn join_end = ⊥
HasMinusIn (join e rest) = HasMinusIn e ⊎ HasMinusIn rest
HasMinusIn (project names e) = HasMinusIn e
HasMinusIn (minus e g) = Unit {0}

-- in the query's text
abbrev pub HasMinus : QueryTree → Type 0
HasMinus q = ((l : VarName × ExprTree) × Has q.lets l × HasMinusIn l.1) ⊎ HasMinusIn q.body

-- some atom of the query's text touches the position; where a difference stands in the text, each is touched
abbrev pub TouchedOf : QueryTree → List ℕ → ℕ → Type 0
TouchedOf q d i = SomeAtomOf (λ a. IsTouchedBy a d i) q ⊎ (HasMinus q × (i ≤ length d))
