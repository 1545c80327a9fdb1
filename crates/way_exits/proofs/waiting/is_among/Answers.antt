use Rattle.std.proofs.Common.{sym, subst}
use Rattle.span_core.specs.Lists.{Has}
use Rattle.span_core.proofs.HasLaws.{Has-get_or}
use Rattle.way_exits.specs.Home.{HasAll}
use Rattle.way_exits.specs.Waiting.{IsOf}
use Rattle.way_exits.proofs.waiting.is_among.Goals as goal

pub returns-then-is_same : goal.returns-then-is_same
returns-then-is_same c is =
    let same = c.is_same.ensures c.if-is_same.true in (
      c.one-item.result,
      subst (Has c.args.sets.now) (sym c.one-item.is) (Has-get_or c.args.sets.now c.loop-one.one-index c.one-item.result c.loop-one-test.true),
      subst (λ xs. IsOf xs c.args.set.now) c.as_slice.ensures.value same.0,
      subst (λ xs. HasAll xs c.args.set.now) c.as_slice.ensures.value same.1,
    )
