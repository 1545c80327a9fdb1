use Rattle.set_table.proofs.StayLaws.{one_is, one_to}
use Rattle.set_table.proofs.store.leads_back.Goals as goal

pub returns : goal.returns
returns c =
    let es = c.args.edges.now in
    let k = c.args.set in (
      (λ h. one_is es k c.index-edges-0.result c.index-edges-0-2.result c.if-edges-ne1.false c.if-edges-set.false (c.is_none.ensures.0 h)),
      (λ e. c.is_none.ensures.1 (one_to es k c.index-edges-0-2.result e).1),
    )
