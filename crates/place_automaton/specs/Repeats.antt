-- Repetitions with no least number above their greatest.
use Rattle.std.specs.Prelude.{◌≤◌}
use Rattle.std.specs.Option.{ForSome}
use Rattle.spanner_model.specs.WellBuilt.{IsWellBuilt}
use Rattle.spanner_model.specs.Tree.{Tree, empty, one, cat_end, cat, alt_end, alt, rep, cap}

-- each repetition's least number is at most its greatest
abbrev pub HasOrderedRepeats : Tree → Type 0
HasOrderedRepeats empty = Unit {0}
HasOrderedRepeats (one set) = Unit {0}
HasOrderedRepeats cat_end = Unit {0}
HasOrderedRepeats (cat f rest) = HasOrderedRepeats f × HasOrderedRepeats rest
HasOrderedRepeats alt_end = Unit {0}
HasOrderedRepeats (alt f rest) = HasOrderedRepeats f × HasOrderedRepeats rest
HasOrderedRepeats (rep f least most) = HasOrderedRepeats f × ForSome most (λ b. least ≤ b)
HasOrderedRepeats (cap x f) = HasOrderedRepeats f

abbrev pub WellBuiltRepeats : Type 0
WellBuiltRepeats = (f : Tree) → IsWellBuilt f → HasOrderedRepeats f
