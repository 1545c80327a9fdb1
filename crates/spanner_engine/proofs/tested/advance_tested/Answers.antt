use Rattle.std.proofs.Common.{◌≡◌, ◌∙◌, ◌∷◌, ◌++◌, [], sym, length, false}
use Rattle.spanner_model.specs.Passing.{checks_of, known}
use Rattle.spanner_engine.proofs.PassingLaws.{more_fail, one_left, one_tried, steps_more, tried_fits}
use Rattle.spanner_engine.proofs.tested.advance_tested.Goals as goal

pub returns-then-len-eq0-clause-left : goal.returns-then-len-eq0-clause-left
returns-then-len-eq0-clause-left g c = one_left c.advance.result _ _ _ _ c.advance.ensures.next c.advance.ensures.none

pub all_hold-requires-clause-fits : goal.all_hold-requires-clause-fits
all_hold-requires-clause-fits g c =
    let (front, is, fail, steps) = c.loop-answers.invariant.tried in
    tried_fits (length c.args.vars.now) (length c.args.doc.now) c.args.answers.now.rest c.advance-in-loop-answers.new.self.rest front c.loop-answers.answers.rest _ c.spans.result.now
    c.requires.fits is c.loop-answers-test.ensures.next c.spans.ensures

pub returns-then-all_hold-clause-left : goal.returns-then-all_hold-clause-left
returns-then-all_hold-clause-left g c =
    let (front, is, fail, steps) = c.loop-answers.invariant.tried in
    (front ++ c.advance-in-loop-answers.new.self.row ∷ [], one_tried front c.loop-answers.answers.rest _ c.args.answers.now.rest _ is c.loop-answers-test.ensures.next)

pub loop-answers-preserved : goal.loop-answers-preserved
loop-answers-preserved g c =
    let checks = checks_of (known c.args.tests.now g.J.Judge.judges) c.args.tested.now.asked in
    let (front, is, fail, steps) = c.loop-answers.invariant.tried in
    let row = c.advance-in-loop-answers.new.self.row in
    let shown : c.spans.result.now ≡ row = c.spans.ensures in
    let fails : c.all_hold.result ≡ false = c.if-all_hold.false in
    let failing = sym c.all_hold.ensures.value ∙ fails in
    record {
      variables = c.advance-in-loop-answers.ensures.variables ∙ c.loop-answers.invariant.variables;
      tried = (
        front ++ row ∷ [],
        one_tried front c.loop-answers.answers.rest c.advance-in-loop-answers.new.self.rest c.args.answers.now.rest row is c.loop-answers-test.ensures.next,
        more_fail checks c.args.vars.now c.args.doc.now front row fail (rw (← shown) failing),
        steps_more c.args.steps.now c.loop-answers.steps c.advance-in-loop-answers.new.steps c.all_hold.new.steps c.args.answers.now.variables
            c.loop-answers.answers.variables (length c.args.tested.now.asked) front row
            c.loop-answers.invariant.variables steps c.advance-in-loop-answers.ensures.steps c.all_hold.ensures.steps,
      );
    }
