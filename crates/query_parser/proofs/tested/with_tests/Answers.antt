use Rattle.spanner_model.specs.Tested.{tested_of}
use Rattle.query_parser.proofs.TestedCode.{variable_missing}
use Rattle.query_parser.proofs.tested.with_tests.Goals as goal

pub returns-in-Some : goal.returns-in-Some
returns-in-Some c =
    variable_missing c.args._text.now (tested_of c.args.tested) c.in_ok-vars.vars c.in-Some.var c.requires.short c.requires.spelled c.requires.sound c.in_ok-vars.ensures.1 c.in-Some.ensures
