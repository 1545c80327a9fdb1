use Rattle.std.proofs.Common.{Ok, Err}
use Rattle.formula_parser.proofs.HexLaws.{hex_read}
use Rattle.formula_parser.proofs.tokens.hex_byte.Goals as goal

pub returns-in-Ok : goal.returns-in-Ok
returns-in-Ok c = hex_read c.args.high c.args.low (Ok c.in-Ok.field-0) c.decode_to_slice.new.out c.in-Ok.ensures.value

pub returns-in-Err : goal.returns-in-Err
returns-in-Err c = hex_read c.args.high c.args.low (Err c.in-Err.field-0) c.decode_to_slice.new.out c.in-Err.ensures.value
