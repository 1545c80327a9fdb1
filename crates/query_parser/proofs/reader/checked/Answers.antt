use Rattle.std.proofs.Common.{arith, rules}
use Rattle.span_core.specs.declared.TheConstants.{MOST_VARIABLES}
use Rattle.span_core.specs.Lists.{AtMost}
use Rattle.spanner_model.specs.Sound.{NameOf}
use Rattle.spanner_model.specs.ExprView.{query_of}
use Rattle.formula_parser.proofs.BuiltLaws.{text_of}
use Rattle.query_parser.proofs.ReadLaws.{checked_many, checked_formed, checked_sound, checked_fault}
use Rattle.query_parser.proofs.reader.checked.Goals as goal

pub names_of-requires : goal.names_of-requires
names_of-requires c = checked_formed c.args._text.now (query_of c.args.query) (text_of c.args._text.now (λ i. omega (arith, c.type_inv._text i))) c.requires.spelled

pub returns-in_default : goal.returns-in_default
returns-in_default c =
    let many : ¬ AtMost MOST_VARIABLES (NameOf (query_of c.args.query)) = search (rules, c.in_default.ensures.none, c.in_default.not-Some) in
    checked_many c.args._text.now (query_of c.args.query) c.requires.short c.requires.spelled many

pub check_query-requires-clause-formed : goal.check_query-requires-clause-formed
check_query-requires-clause-formed c = checked_formed c.args._text.now (query_of c.args.query) (text_of c.args._text.now (λ i. omega (arith, c.type_inv._text i))) c.requires.spelled

pub returns-in-Ok : goal.returns-in-Ok
returns-in-Ok c =
    let text = c.args._text.now in
    let few : AtMost MOST_VARIABLES (NameOf (query_of c.args.query)) = (c.in-Some.names, c.in-Some.ensures.few, c.in-Some.ensures.names) in
    (c.requires.short, c.requires.spelled, checked_sound text (query_of c.args.query) (text_of text (λ i. omega (arith, c.type_inv._text i))) c.requires.spelled c.in-Ok.ensures.passes few)

pub returns-in-Err : goal.returns-in-Err
returns-in-Err c =
    let few : AtMost MOST_VARIABLES (NameOf (query_of c.args.query)) = (c.in-Some.names, c.in-Some.ensures.few, c.in-Some.ensures.names) in
    checked_fault c.args._text.now (query_of c.args.query) c.in-Err.fault c.requires.short c.requires.spelled few c.in-Err.ensures.fault
