use Rattle.std.proofs.Common.{◌≡◌, ◌-◌, ◌++◌, List, length}
use Rattle.place_automaton.specs.Sides.{Sides, row_sides, row_ways}
use Rattle.place_automaton.proofs.fragment.join_row.Given as goal

abbrev pub invariant-loop-fragment : goal.invariant-loop-fragment
invariant-loop-fragment l =
    (done : List Sides) × (l.fn.fragments.items ≡ l.fragments.items ++ done)
    × (l.row ≡ row_sides (l.required - length l.fragments.items) done l.fn.rest)
    × (l.ways.items ≡ l.fn.ways.items ++ row_ways (l.required - length l.fragments.items) done l.fn.rest)

abbrev pub decreases-loop-fragment : goal.decreases-loop-fragment
decreases-loop-fragment l = length l.fragments.items
