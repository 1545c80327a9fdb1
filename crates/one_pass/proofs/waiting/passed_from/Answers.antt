use Rattle.std.proofs.Common.{take}
use Rattle.one_pass.proofs.PathLaws.{known_back}
use Rattle.one_pass.proofs.waiting.passed_from.Goals as goal

pub returns-clause-back : goal.returns-clause-back
returns-clause-back c =
    let t = c.args.table.now in
    known_back t c.is_table.ensures c.args.graph.now c.requires.given c.args.waiting.now (take c.next_place.result c.args.bytes.now) (c.knows_layer.ensures c.if-not-knows_layer.false)
    (c.next_place.ensures.back t.graph.ways c.requires.waits)
