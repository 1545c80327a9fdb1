use Rattle.std.proofs.Common.{sym, subst}
use Rattle.spanner_model.specs.ExprView.{query_of}
use Rattle.spanner_model.specs.Answers.{AreResultNames}
use Rattle.marked_automaton.specs.Automaton.{Marked}
use Rattle.spanner_model.specs.Tested.{tested_of}
use Rattle.spanner_model.specs.Passing.{known}
use Rattle.spanner_library.proofs.Refused.{only_of, refused_text, refused_unknown}
use Rattle.spanner_library.proofs.prepared.Prepared.read.Goals as goal

pub returns-in-Err-clause-refused : goal.returns-in-Err-clause-refused
returns-in-Err-clause-refused g c = refused_text (known c.args.tests g.J.Judge.judges) c.args.text.now c.in-Err.fault c.in-Err.ensures.fault c.in-Err.ensures.only

pub returns-in-Err-bind-clause-refused : goal.returns-in-Err-bind-clause-refused
returns-in-Err-bind-clause-refused g c =
    refused_unknown (known c.args.tests g.J.Judge.judges) c.args.text.now c.in-Err-bind.fault (tested_of c.in-Ok.tested) c.in-Ok.ensures.found
    (only_of c.args.text.now c.in-Ok.tested c.in-Ok.ensures.only) c.in-Err-bind.ensures.fault

pub returns-clause-query : goal.returns-clause-query
returns-clause-query g c = record {
  spelled = c.in-Ok.ensures.found;
  only = only_of c.args.text.now c.in-Ok.tested c.in-Ok.ensures.only;
  tests_known = c.in_default.ensures.known;
}

pub returns-clause-names : goal.returns-clause-names
returns-clause-names g c =
    subst (λ (A : Marked). AreResultNames (query_of c.in-Ok.tested.query) A.names) (sym c.into_automaton-automaton.ensures.automaton) c.in-Ok-compile.ensures.words.0
