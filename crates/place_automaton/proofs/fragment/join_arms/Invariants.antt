use Rattle.std.proofs.Common.{◌≡◌, ◌++◌, List, length, take}
use Rattle.std.specs.List.{flat_map}
use Rattle.place_automaton.specs.Sides.{Sides, any_null}
use Rattle.place_automaton.proofs.fragment.join_arms.Given as goal

abbrev pub invariant-loop-fragment : goal.invariant-loop-fragment
invariant-loop-fragment l =
    (l.first.items ≡ flat_map (λ (P : Sides). P.first) (take l.fragment-index l.fn.fragments.items))
    × (l.last.items ≡ flat_map (λ (P : Sides). P.last) (take l.fragment-index l.fn.fragments.items))

abbrev pub invariant-loop-fragment-2 : goal.invariant-loop-fragment-2
invariant-loop-fragment-2 l =
    (done : List Sides) × (l.fn.fragments.items ≡ l.fragments.items ++ done) × (l.null.items ≡ any_null done)

abbrev pub decreases-loop-fragment-2 : goal.decreases-loop-fragment-2
decreases-loop-fragment-2 l = length l.fragments.items
