use Rattle.std.proofs.Common.{arith, rules}
use Rattle.span_core.specs.declared.TheConstants.{MOST_VARIABLES}
use Rattle.span_core.specs.Lists.{AtMost}
use Rattle.spanner_model.specs.Sound.{NameOf}
use Rattle.spanner_model.specs.ExprView.{query_of}
use Rattle.formula_parser.proofs.BuiltLaws.{text_of}
use Rattle.spanner_model.specs.Tested.{tested_of}
use Rattle.query_parser.proofs.TestedCode.{names_many, tested_formed, tested_sound, tree_fails}
use Rattle.query_parser.proofs.tested.checked.Goals as goal

pub names_of-requires : goal.names_of-requires
names_of-requires c = tested_formed c.args.text.now (tested_of c.args.tested) (text_of c.args.text.now (λ i. omega (arith, c.type_inv.text i))) c.requires.spelled

pub returns-in_default : goal.returns-in_default
returns-in_default c =
    let many : ¬ AtMost MOST_VARIABLES (NameOf (query_of c.args.tested.query)) = search (rules, c.in_default.ensures.none, c.in_default.not-Some) in
    names_many c.args.text.now (tested_of c.args.tested) c.requires.short c.requires.spelled many

pub check_query-requires-clause-formed : goal.check_query-requires-clause-formed
check_query-requires-clause-formed c = tested_formed c.args.text.now (tested_of c.args.tested) (text_of c.args.text.now (λ i. omega (arith, c.type_inv.text i))) c.requires.spelled

pub with_tests-requires-clause-sound : goal.with_tests-requires-clause-sound
with_tests-requires-clause-sound c =
    let text = c.args.text.now in
    let few : AtMost MOST_VARIABLES (NameOf (query_of c.args.tested.query)) = (c.in-Some.names, c.in-Some.ensures.few, c.in-Some.ensures.names) in
    tested_sound text (tested_of c.args.tested) (text_of text (λ i. omega (arith, c.type_inv.text i))) c.requires.spelled c.in-Ok.ensures.passes few

pub returns-in-Err : goal.returns-in-Err
returns-in-Err c =
    let few : AtMost MOST_VARIABLES (NameOf (query_of c.args.tested.query)) = (c.in-Some.names, c.in-Some.ensures.few, c.in-Some.ensures.names) in
    tree_fails c.args.text.now (tested_of c.args.tested) c.in-Err.fault c.requires.short c.requires.spelled few c.in-Err.ensures.fault
