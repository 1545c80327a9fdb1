use Rattle.std.proofs.Common.{◌≤◌, ◌-◌}
use Rattle.spanner_model.specs.Passing.{known}
use Rattle.session_server.proofs.Lines.{ServedSoFar}
use Rattle.session_server.proofs.serving.serve_on.Given as goal

abbrev pub invariant-loop-line : goal.invariant-loop-line
invariant-loop-line g l = record {
  so_far : ServedSoFar (known l.tests g.J.Judge.judges) l.most
      (g.R.Source.told l.fn.source).bytes (g.R.Source.told l.source).bytes (g.O.Sink.told l.fn.out).bytes (g.O.Sink.told l.out).bytes l.served l.sessions.items;
  faults : (g.R.Source.told l.fn.source).faults ≤ (g.R.Source.told l.source).faults;
  puts : (g.O.Sink.told l.fn.out).faults ≤ (g.O.Sink.told l.out).faults;
}

abbrev pub decreases-loop-line : goal.decreases-loop-line
decreases-loop-line g l = l.most - l.served
