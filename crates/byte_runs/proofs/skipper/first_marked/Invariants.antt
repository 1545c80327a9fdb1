use Rattle.std.proofs.Common.{◌-◌, ◌≤◌, length}
use Rattle.memchr.specs.Find.{Nowhere, Passes}
use Rattle.byte_runs.specs.Runs.{is_marked}
use Rattle.byte_runs.proofs.skipper.first_marked.Given as goal

abbrev pub invariant-loop-place : goal.invariant-loop-place
invariant-loop-place l = (l.place ≤ length l.bytes) × Nowhere (Passes (is_marked l.marks) l.bytes) 0 l.place

abbrev pub decreases-loop-place : goal.decreases-loop-place
decreases-loop-place l = length l.bytes - l.place

abbrev pub invariant-loop-place-2 : goal.invariant-loop-place-2
invariant-loop-place-2 l = Nowhere (Passes (is_marked l.marks) l.bytes) 0 l.place

abbrev pub decreases-loop-place-2 : goal.decreases-loop-place-2
decreases-loop-place-2 l = length l.bytes - l.place
