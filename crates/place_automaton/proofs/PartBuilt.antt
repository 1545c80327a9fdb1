-- The classes and the repetitions of parts that are well built.
use Rattle.std.proofs.Common.{List, [], ◌∷◌, inl, inr, refl}
use Rattle.span_core.specs.Lists.{Has}
use Rattle.spanner_model.specs.Tree.{Tree, cat_all}
use Rattle.spanner_model.specs.WellBuilt.{IsWellBuilt}
use Rattle.place_automaton.specs.Repeats.{HasOrderedRepeats}
use Rattle.place_automaton.proofs.BuiltRepeats.{ordered_repeats}
use Rattle.place_automaton.proofs.FineLaws.{HasClasses, built_classes}

pub all_classes : (ts : List Tree) → ((t : Tree) → Has ts t → IsWellBuilt t) → HasClasses (cat_all ts)
all_classes [] b = tt
all_classes (t ∷ ts) b = (built_classes t (b t (inl refl)).0, all_classes ts (λ u h. b u (inr h)))

pub all_ordered : (ts : List Tree) → ((t : Tree) → Has ts t → IsWellBuilt t) → HasOrderedRepeats (cat_all ts)
all_ordered [] b = tt
all_ordered (t ∷ ts) b = (ordered_repeats t (b t (inl refl)), all_ordered ts (λ u h. b u (inr h)))
