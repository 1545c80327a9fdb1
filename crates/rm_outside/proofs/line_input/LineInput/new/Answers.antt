use Rattle.std.proofs.KnownBytes.{prepend_known-nil}
use Rattle.rm_outside.proofs.line_input.LineInput.new.Goals as goal

pub returns-clause-left : goal.returns-clause-left
returns-clause-left g c = prepend_known-nil (g.R.Reads.told c.args.from).bytes
