use Rattle.std.proofs.Common.{arith}
use Rattle.row_writer.proofs.LastDigit.{part_copied}
use Rattle.row_writer.proofs.tens.put_copy.Goals as goal

pub returns-clause-text : goal.returns-clause-text
returns-clause-text c =
    part_copied c.args.at c.args.len 64 c.put_bytes-half.result c.args.buffer.now c.put_bytes-half.new.buffer c.args.bytes.now
    (omega arith) (omega arith) (omega arith) c.put_bytes-half.ensures.text
