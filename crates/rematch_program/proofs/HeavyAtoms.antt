-- What holds of some atom of a query.
use Rattle.std.proofs.Common.{ℕ, ◌<◌, ◌≤◌, inl, inr, List, arith}
use Rattle.spanner_model.specs.Expression.{AtomTree, ExprTree, QueryTree, atom, named, union_end, union, join_end, join, minus, project}
use Rattle.spanner_engine.specs.Touching.{SomeAtom, SomeAtomOf}
use Rattle.segment_filter.specs.Costs.{atom_weight}
use Rattle.spanner_engine.specs.Begun.{HasHeavyAtom}

module _ (P Q : AtomTree → Type 0) (then_ : (a : AtomTree) → P a → Q a) where
  some_then : (e : ExprTree) → SomeAtom P e → SomeAtom Q e
  some_then (atom a) h = then_ a h
  some_then (named k) h = absurd h
  some_then union_end h = absurd h
  some_then (union e rest) (inl h) = inl (some_then e h)
  some_then (union e rest) (inr h) = inr (some_then rest h)
  some_then join_end h = absurd h
  some_then (join e rest) (inl h) = inl (some_then e h)
  some_then (join e rest) (inr h) = inr (some_then rest h)
  some_then (project names e) h = some_then e h
  some_then (minus e g) (inl h) = inl (some_then e h)
  some_then (minus e g) (inr h) = inr (some_then g h)

  some_of_then : (q : QueryTree) → SomeAtomOf P q → SomeAtomOf Q q
  some_of_then q (inl (l, has, h)) = inl (l, has, some_then l.1 h)
  some_of_then q (inr h) = inr (some_then q.body h)

-- a weight that passes the limit, and is no more than that of some atom
pub heavy_atom : (q : QueryTree) (d : List ℕ) (limit weight : ℕ) → SomeAtomOf (λ a. (limit < weight) × (weight ≤ atom_weight a d)) q → HasHeavyAtom q d limit
heavy_atom q d limit weight some =
    some_of_then (λ a. (limit < weight) × (weight ≤ atom_weight a d)) (λ a. limit < atom_weight a d)
    (λ a h. let (over, within) = h in omega (arith, over, within)) q some
