use Rattle.one_pass.proofs.BackLaws.{front_back}
use Rattle.one_pass.proofs.search.bytes_over.Goals as goal

pub returns-clause-back : goal.returns-clause-back
returns-clause-back c = front_back c.args.table.now c.args.graph.now c.args.bytes.now c.still_bytes.result c.still_bytes.ensures.within c.still_bytes.ensures.still
