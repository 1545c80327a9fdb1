use Rattle.one_pass.proofs.KnownLaws.{handed_is}
use Rattle.one_pass.proofs.known.handed_to.Goals as goal

pub returns : goal.returns
returns c =
    let asked = c.in_ok-edges.ensures in
    handed_is c.args.table.now c.args.set c.args.byte c.in_ok-edges.edges.now c.index-edges-0.result asked.some asked.asked c.if-edges-ne1.false
    c.index-edges-0.is (c.is_none.ensures.0 c.if-not-is_none.false)
