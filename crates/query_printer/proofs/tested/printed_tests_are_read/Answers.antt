use Rattle.query_printer.proofs.TestsRead.{tests_read}
use Rattle.query_printer.proofs.tested.printed_tests_are_read.Goals as goal

pub returns : goal.returns
returns c = tests_read
