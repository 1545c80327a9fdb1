use Rattle.std.proofs.Common.{sym, subst}
use Rattle.one_pass.specs.Ahead.{KnowsWaiting}
use Rattle.one_pass.proofs.OpenLaws.{begun_is, open_first, open_ready}
use Rattle.one_pass.proofs.pass.Pass.begin_with.Goals as goal

pub returns-clause-begun : goal.returns-clause-begun
returns-clause-begun g c =
    let e = c.in_ok-graph.ensures in
    begun_is e.sources e.begun.2 c.start.ensures.zero e.steps

pub returns-clause-goes_on : goal.returns-clause-goes_on
returns-clause-goes_on g c =
    let e = c.in_ok-graph.ensures in
    record {
      ready = open_ready c.start.ensures.tabled c.is_graph.ensures.sources (open_first c.start.ensures.tabled c.start.ensures.zero e.sources e.targets e.begun.0);
      known = c.requires.known;
      waits = subst (KnowsWaiting c.args.table.now.graph.ways) (sym c.new.ensures) tt;
    }
