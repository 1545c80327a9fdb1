use Rattle.std.proofs.Common.{◌≡◌, ◌+◌, ◌≤◌, ◌-◌, length, take}
use Rattle.enumerator.specs.Ends.{AreTaken}
use Rattle.enumerator.proofs.ends.take_ends.Given as goal

abbrev pub invariant-loop-count : goal.invariant-loop-count
invariant-loop-count g l =
    AreTaken l.fn.lists.store l.fn.v l.fn.before l.fn.marks l.fn.start l.fn.entry (take l.count l.ends) l.last l.later
    × (l.count ≤ l.fn.most) × (length l.ends ≡ 16) × (l.steps ≤ l.fn.steps + l.count) × (l.fn.start ≤ l.last)

abbrev pub decreases-loop-count : goal.decreases-loop-count
decreases-loop-count g l = l.fn.most - l.count
