-- Well built formulas have ordered repetitions.
use Rattle.spanner_model.specs.Tree.{Tree, empty, one, cat_end, cat, alt_end, alt, rep, cap}
use Rattle.spanner_model.specs.WellBuilt.{IsBuilt, AreParts, AreArms}
use Rattle.place_automaton.specs.Repeats.{HasOrderedRepeats, WellBuiltRepeats}

mutual
  built_repeats : (f : Tree) → IsBuilt f → HasOrderedRepeats f
  built_repeats empty h = tt
  built_repeats (one set) h = tt
  built_repeats cat_end h = tt
  built_repeats (cat f rest) h = (built_repeats f h.0, parts_repeats rest h.1)
  built_repeats alt_end h = tt
  built_repeats (alt f rest) h = (built_repeats f h.0, arms_repeats rest h.1)
  built_repeats (rep f least most) h = (built_repeats f h.0, λ b e. (h.1.1 b e).0)
  built_repeats (cap x f) h = built_repeats f h.0

  parts_repeats : (f : Tree) → AreParts f → HasOrderedRepeats f
  parts_repeats cat_end h = tt
  parts_repeats (cat f rest) h = (built_repeats f h.0, parts_repeats rest h.1)
  parts_repeats empty h = absurd h
  parts_repeats (one set) h = absurd h
  parts_repeats alt_end h = absurd h
  parts_repeats (alt f rest) h = absurd h
  parts_repeats (rep f least most) h = absurd h
  parts_repeats (cap x f) h = absurd h

  arms_repeats : (f : Tree) → AreArms f → HasOrderedRepeats f
  arms_repeats alt_end h = tt
  arms_repeats (alt f rest) h = (built_repeats f h.0, arms_repeats rest h.1)
  arms_repeats empty h = absurd h
  arms_repeats (one set) h = absurd h
  arms_repeats cat_end h = absurd h
  arms_repeats (cat f rest) h = absurd h
  arms_repeats (rep f least most) h = absurd h
  arms_repeats (cap x f) h = absurd h

pub ordered_repeats : WellBuiltRepeats
ordered_repeats f h = built_repeats f h.0
