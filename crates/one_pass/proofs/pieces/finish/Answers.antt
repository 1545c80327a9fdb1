use Rattle.std.proofs.Common.{sym, subst}
use Rattle.std.proofs.lemmas.Result.{IfErr-weaker}
use Rattle.one_pass.specs.Ahead.{KnowsWaiting}
use Rattle.one_pass.proofs.OpenLaws.{open_ready}
use Rattle.one_pass.proofs.pieces.finish.Goals as goal

pub end-requires : goal.end-requires
end-requires g c = record {
  ready = open_ready c.is_table.ensures c.is_graph.ensures.sources c.requires.open;
  known = c.new.ensures c.args.table.now;
  waits = subst (KnowsWaiting c.args.table.now.graph.ways) (sym c.new-2.ensures) tt;
}

pub returns-clause-ended : goal.returns-clause-ended
returns-clause-ended g c = c.end.ensures.ended

pub returns-clause-stopped : goal.returns-clause-stopped
returns-clause-stopped g c = IfErr-weaker c.end.result _ _ (λ e up. up.stopped) c.end.ensures.given_up

pub returns-clause-cause : goal.returns-clause-cause
returns-clause-cause g c = IfErr-weaker c.end.result _ _ (λ e up. up.cause) c.end.ensures.given_up
