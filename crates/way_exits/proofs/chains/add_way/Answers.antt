use Rattle.std.proofs.Common.{inr}
use Rattle.way_exits.proofs.AheadLaws.{within_left, within_right}
use Rattle.way_exits.proofs.chains.add_way.Goals as goal

pub returns : goal.returns
returns c is =
    let old = c.args.level.now.bytes in
    let more = c.args.way.now.bytes in
    record {
      bytes = within_left old more c.union-bytes.result c.union-bytes.ensures;
      next = c.put.ensures.kept;
      here = λ _. inr (within_right old more c.union-bytes.result c.union-bytes.ensures, c.put.ensures.there is);
    }
