use Rattle.std.proofs.Common.{sym, subst}
use Rattle.span_core.specs.Lists.{Has}
use Rattle.span_core.proofs.HasLaws.{Has-get_or}
use Rattle.way_exits.proofs.states.loops.Goals as goal

pub returns-then-is_all : goal.returns-then-is_all
returns-then-is_all c is = (
  c.way-item.result,
  subst (Has c.args.ways.now) (sym c.way-item.is) (Has-get_or c.args.ways.now c.loop-way.way-index c.way-item.result c.loop-way-test.true),
  c.if-way-state.true,
  c.is_loop.ensures c.if-is_loop.true,
  c.is_all.ensures c.if-is_all.true,
)
