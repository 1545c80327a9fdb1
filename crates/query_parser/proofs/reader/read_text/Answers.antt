use Rattle.std.proofs.Common.{inr, arith}
use Rattle.query_parser.specs.Faults.{too_long}
use Rattle.query_parser.proofs.ReadLaws.{read_stopped}
use Rattle.query_parser.proofs.reader.read_text.Goals as goal

pub returns-then-text-gt-MOST_TEXT_BYTES : goal.returns-then-text-gt-MOST_TEXT_BYTES
returns-then-text-gt-MOST_TEXT_BYTES c = inr (too_long (omega arith))

pub returns-in-Err : goal.returns-in-Err
returns-in-Err c = read_stopped c.args.text.now c.in-Err.fault (omega arith) c.in-Err.ensures
