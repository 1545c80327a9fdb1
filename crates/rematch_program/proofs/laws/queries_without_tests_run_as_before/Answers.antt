use Rattle.rematch_program.proofs.WithoutTestsLaws.{without_tests}
use Rattle.rematch_program.proofs.laws.queries_without_tests_run_as_before.Goals as goal

pub returns : goal.returns
returns c = without_tests
