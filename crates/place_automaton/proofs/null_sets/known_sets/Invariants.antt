use Rattle.std.proofs.Common.{◌≡◌, ℕ, take}
use Rattle.std.specs.Prelude.{nat_eq}
use Rattle.std.specs.List.{list_any}
use Rattle.std.specs.HashSet.{contains}
use Rattle.place_automaton.proofs.null_sets.known_sets.Given as goal

abbrev pub invariant-loop-set : goal.invariant-loop-set
invariant-loop-set l = (m : ℕ) → contains nat_eq l.known m ≡ list_any (nat_eq m) (take l.set-index l.sets.items)
