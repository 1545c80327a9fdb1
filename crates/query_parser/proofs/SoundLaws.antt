-- What is spelled is formed, and what is formed and passes the checks is sound.
use Rattle.std.proofs.Common.{ℕ}
use Rattle.spanner_model.specs.Captures.{VarName}
use Rattle.spanner_model.specs.Expression.{ExprTree, atom, named, union_end, union, join_end, join, project, minus}
use Rattle.spanner_model.specs.Sound.{IsSoundExpr, AreUnited, AreJoined}
use Rattle.query_parser.specs.TreeFaults.{Passes}
use Rattle.query_parser.specs.Formed.{IsFormed, AreUnitedFormed, AreJoinedFormed}

mutual
  pub sound_expr : (V S : ℕ → VarName → Type 0) (n : ℕ) (e : ExprTree) → IsFormed n e → Passes V S e → IsSoundExpr V S n e
  sound_expr V S n (atom a) b p = (b, p)
  sound_expr V S n (named k) b p = b
  sound_expr V S n union_end b p = b
  sound_expr V S n (union e rest) b p = (sound_expr V S n e b.0 p.0, united V S n rest b.1 p.1, b.2)
  sound_expr V S n join_end b p = b
  sound_expr V S n (join e rest) b p = (sound_expr V S n e b.0 p.0, joined V S n rest b.1 p.1, b.2, p.2)
  sound_expr V S n (project names e) b p = (sound_expr V S n e b.0 p.0, (λ x h. (p.1 x h, b.1 x h)), b.2.ascending)
  sound_expr V S n (minus e g) b p = (sound_expr V S n e b.0 p.0, sound_expr V S n g b.1 p.1, p.2)

  united : (V S : ℕ → VarName → Type 0) (n : ℕ) (e : ExprTree) → AreUnitedFormed n e → Passes V S e → AreUnited V S n e
  united V S n union_end b p = tt
  united V S n (union e rest) b p = (sound_expr V S n e b.0 p.0, united V S n rest b.1 p.1)
  united V S n e b p = absurd b

  joined : (V S : ℕ → VarName → Type 0) (n : ℕ) (e : ExprTree) → AreJoinedFormed n e → Passes V S e → AreJoined V S n e
  joined V S n join_end b p = tt
  joined V S n (join e rest) b p = (sound_expr V S n e b.0 p.0, joined V S n rest b.1 p.1, p.2)
  joined V S n e b p = absurd b

mutual
  pub sound_passes : (V S : ℕ → VarName → Type 0) (n : ℕ) (e : ExprTree) → IsSoundExpr V S n e → Passes V S e
  sound_passes V S n (atom a) b = b.1
  sound_passes V S n (named k) b = tt
  sound_passes V S n union_end b = tt
  sound_passes V S n (union e rest) b = (sound_passes V S n e b.0, united_passes V S n rest b.1)
  sound_passes V S n join_end b = tt
  sound_passes V S n (join e rest) b = (sound_passes V S n e b.0, joined_passes V S n rest b.1, b.3)
  sound_passes V S n (project names e) b = (sound_passes V S n e b.0, λ x h. (b.1 x h).0)
  sound_passes V S n (minus e g) b = (sound_passes V S n e b.0, sound_passes V S n g b.1, b.2)

  united_passes : (V S : ℕ → VarName → Type 0) (n : ℕ) (e : ExprTree) → AreUnited V S n e → Passes V S e
  united_passes V S n union_end b = tt
  united_passes V S n (union e rest) b = (sound_passes V S n e b.0, united_passes V S n rest b.1)
  united_passes V S n e b = absurd b

  joined_passes : (V S : ℕ → VarName → Type 0) (n : ℕ) (e : ExprTree) → AreJoined V S n e → Passes V S e
  joined_passes V S n join_end b = tt
  joined_passes V S n (join e rest) b = (sound_passes V S n e b.0, joined_passes V S n rest b.1, b.2)
  joined_passes V S n e b = absurd b
