use Rattle.std.proofs.Common.{◌≡◌, ℕ, ◌⊎◌, take}
use Rattle.span_core.specs.Lists.{Has, IsPrefixOf}
use Rattle.plain_spanner.specs.Listed.{Tells, FromSome}
use Rattle.plain_spanner.proofs.repeats.Reached.add_all.Given as goal

abbrev pub invariant-loop-end : goal.invariant-loop-end
invariant-loop-end l =
    Tells (Has l.self.ends.items) (λ j. Has l.initial.self.ends.items j ⊎ FromSome (λ (x : ℕ) (y : ℕ). x ≡ y) (take l.end-index l.ends) j)
    × IsPrefixOf l.initial.self.ends.items l.self.ends.items
