use Rattle.memchr.specs.Find.{Nowhere, Passes}
use Rattle.byte_runs.specs.Runs.{is_outside}
use Rattle.byte_runs.proofs.skipper.Skipper.first_outside_new.Given as goal

abbrev pub invariant-loop-place : goal.invariant-loop-place
invariant-loop-place l = Nowhere (Passes (is_outside l.set) l.bytes) 0 l.place
