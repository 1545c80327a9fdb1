use Rattle.std.proofs.Common.{◌≡◌, ◌++◌, ℕ, List, length}
use Rattle.std.specs.Prelude.{nat_eq, reverse}
use Rattle.std.specs.List.{list_any}
use Rattle.std.specs.HashSet.{contains}
use Rattle.place_automaton.specs.Places.{either_once}
use Rattle.place_automaton.proofs.null_sets.new_sets.Given as goal

abbrev pub invariant-loop-marks : goal.invariant-loop-marks
invariant-loop-marks l =
    (done : List ℕ) × (l.fn.front.items ≡ l.front.items ++ done)
    × ((ns : List ℕ) → ((m : ℕ) → contains nat_eq l.fn.known m ≡ list_any (nat_eq m) ns) →
    (reverse l.new.items ++ ns ≡ either_once done ns) × ((m : ℕ) → contains nat_eq l.known m ≡ list_any (nat_eq m) (either_once done ns)))

abbrev pub decreases-loop-marks : goal.decreases-loop-marks
decreases-loop-marks l = length l.front.items
