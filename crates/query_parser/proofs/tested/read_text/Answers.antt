use Rattle.std.proofs.Common.{inr, arith}
use Rattle.query_parser.specs.Tested.{too_long}
use Rattle.query_parser.proofs.TestedCode.{through_stopped}
use Rattle.query_parser.proofs.tested.read_text.Goals as goal

pub returns-then-text-gt-MOST_TEXT_BYTES : goal.returns-then-text-gt-MOST_TEXT_BYTES
returns-then-text-gt-MOST_TEXT_BYTES c = inr (too_long (omega arith))

pub returns-in-Err : goal.returns-in-Err
returns-in-Err c = through_stopped c.args.text.now c.in-Err.fault (omega arith) c.in-Err.ensures
