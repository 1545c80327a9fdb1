use Rattle.std.proofs.Common.{sym, subst}
use Rattle.one_pass.specs.Ahead.{KnowsWaiting}
use Rattle.one_pass.specs.Passes.{IsOpen}
use Rattle.one_pass.proofs.OpenLaws.{open_ready, ready_open}
use Rattle.one_pass.proofs.pieces.advance.Goals as goal

pub read-requires-clause-goes_on : goal.read-requires-clause-goes_on
read-requires-clause-goes_on g c = record {
  ready = open_ready c.is_table.ensures c.is_graph.ensures.sources c.requires.open;
  known = c.new.ensures c.args.table.now;
  waits = subst (KnowsWaiting c.args.table.now.graph.ways) (sym c.new-2.ensures) tt;
}

pub returns-in-Err-clause-stopped : goal.returns-in-Err-clause-stopped
returns-in-Err-clause-stopped g c = c.in-Err.ensures.given_up.stopped

pub returns-in-Err-clause-cause : goal.returns-in-Err-clause-cause
returns-in-Err-clause-cause g c = c.in-Err.ensures.given_up.cause

pub returns-clause-read : goal.returns-clause-read
returns-clause-read g c = c.in_default.ensures.read.read

pub returns-clause-open : goal.returns-clause-open
returns-clause-open g c =
    subst (λ j. IsOpen c.read.new.table c.read.new.self.graph j) c.in_default.ensures.at
    (ready_open c.in_default.ensures.read.goes_on.ready)
