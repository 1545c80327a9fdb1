use Rattle.std.proofs.Common.{◌≡◌, ℕ, ◌&&◌, ap}
use Rattle.std.specs.Prelude.{◌==◌}
use Rattle.std.specs.Bool.{Decides}
use Rattle.std.proofs.lemmas.Bool.{and_parts, and_from, eqb-true, eq-eqb}
use Rattle.std.proofs.lemmas.Slice.Eq.{slice_eq-Decides}
use Rattle.unicode_classes.proofs.ranges.are_equal.Goals as goal

same_range : (a b : ℕ × ℕ) → Decides ((a.0 == b.0) && (a.1 == b.1)) (a ≡ b)
same_range a b = (
  λ h. (let p = and_parts (a.0 == b.0) (a.1 == b.1) h in λ i. (eqb-true a.0 b.0 p.0 i, eqb-true a.1 b.1 p.1 i)),
  λ e. and_from (a.0 == b.0) (a.1 == b.1) (eq-eqb a.0 b.0 (ap (λ (x : ℕ × ℕ). x.0) e)) (eq-eqb a.1 b.1 (ap (λ (x : ℕ × ℕ). x.1) e)),
)

pub returns : goal.returns
returns c = slice_eq-Decides {E = λ a b. (a.0 == b.0) && (a.1 == b.1)} same_range c.args.a.now c.args.b.now c.eq.result c.eq.ensures
