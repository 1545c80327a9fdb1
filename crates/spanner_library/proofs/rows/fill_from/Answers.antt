use Rattle.std.proofs.Common.{◌∙◌, ◌-◌, ◌*◌, ℕ, List, length, true, false, ap, arith}
use Rattle.spanner_model.specs.Captures.{VarName}
use Rattle.spanner_model.specs.Answers.{SpanRow}
use Rattle.spanner_model.specs.Passing.{checks_of, known}
use Rattle.spanner_model.specs.declared.tested.Tested.{Tested}
use Rattle.spanner_engine.specs.Trying.{IsNextPassing}
use Rattle.spanner_engine.proofs.PassingLaws.{all_fit, goes_within, last_rest}
use Rattle.spanner_library.specs.Library.{checks_by, tree}
use Rattle.spanner_library.proofs.Filling.{further, of_query, room_here, steps_full, steps_on, steps_short}
use Rattle.spanner_library.proofs.rows.fill_from.Goals as goal

pub advance_tested-requires-clause-ascending : goal.advance_tested-requires-clause-ascending
advance_tested-requires-clause-ascending g c = rw c.vars-vars.ensures.value c.vars-vars.ensures.names.0

pub advance_tested-requires-clause-fits : goal.advance_tested-requires-clause-fits
advance_tested-requires-clause-fits g c =
    let q = c.args.query.now in
    rw c.vars-vars.ensures.value (all_fit (tree q).query c.args.document.now q.names c.loop-count.answers.rest c.loop-count.invariant.last)

pub put_row-requires : goal.put_row-requires
put_row-requires g c =
    let q = c.args.query.now in
    let d = c.args.document.now in
    let checks = checks_by g.J.Judge.judges q in
    let old = c.loop-count.answers.rest in
    let new = c.advance_tested.new.answers.rest in
    let row = c.advance_tested.new.answers.row in
    let next : IsNextPassing checks q.names d old row new =
    of_query q c.tested-tested.result.now c.tests-tests.result.now c.vars-vars.result.now c.tested-tested.ensures c.tests-tests.ensures c.vars-vars.ensures.value
    (λ (t : Tested) (tests : List (List ℕ × ℕ)) (names : List VarName). IsNextPassing (checks_of (known tests g.J.Judge.judges) t.asked) names d old row new)
    c.if-not-advance_tested.ensures.next in
    let fits = goes_within checks q.names d old new row true (all_fit (tree q).query d q.names old c.loop-count.invariant.last) next in
    record {
      room = room_here c.loop-count.count c.args.most c.len-width.result (length q.names) (length c.spans.result.now) (length c.loop-count.out) (length c.args.out.now)
          c.loop-count-test.true c.requires.room c.loop-count.invariant.filling.len (c.len-width.ensures.value ∙ ap (λ (names : List VarName). length names) c.vars-vars.ensures.value)
          (ap (λ (r : SpanRow). length r) c.spans.ensures ∙ fits.lengths);
    }

pub loop-count-preserved : goal.loop-count-preserved
loop-count-preserved g c =
    let q = c.args.query.now in
    let d = c.args.document.now in
    let checks = checks_by g.J.Judge.judges q in
    let old = c.loop-count.answers.rest in
    let new = c.advance_tested.new.answers.rest in
    let row = c.advance_tested.new.answers.row in
    let said = of_query q c.tested-tested.result.now c.tests-tests.result.now c.vars-vars.result.now c.tested-tested.ensures c.tests-tests.ensures c.vars-vars.ensures.value in
    let next : IsNextPassing checks q.names d old row new =
    said (λ (t : Tested) (tests : List (List ℕ × ℕ)) (names : List VarName). IsNextPassing (checks_of (known tests g.J.Judge.judges) t.asked) names d old row new)
    c.if-not-advance_tested.ensures.next in
    let fits = goes_within checks q.names d old new row true (all_fit (tree q).query d q.names old c.loop-count.invariant.last) next in
    let left = c.advance_tested.ensures.left in
    let width = c.len-width.ensures.value ∙ ap (λ (names : List VarName). length names) c.vars-vars.ensures.value in
    record {
      filling = further checks q.names d c.args.answers.now.rest c.args.out.now c.args.most old new c.loop-count.out c.put_row.new.out c.loop-count.count
          c.loop-count.invariant.filling row c.spans.result.now (c.loop-count.count * (2 * c.len-width.result)) c.loop-count-test.true next fits c.spans.ensures
          (ap (λ (k : ℕ). c.loop-count.count * (2 * k)) width) c.put_row.ensures.put c.put_row.ensures.behind c.put_row.ensures.len;
      last = last_rest (tree q).query d q.names left.0 new old left.1 c.loop-count.invariant.last;
      variables = c.advance_tested.ensures.variables ∙ c.loop-count.invariant.variables;
      steps = steps_on c.args.answers.now.variables (length (tree q).asked) c.loop-count.answers.variables (length c.tested-tested.result.now.asked) c.args.steps.now c.loop-count.steps
          c.advance_tested.new.steps c.args.answers.now.rest old new true c.loop-count.invariant.variables (ap (λ (t : Tested). length t.asked) c.tested-tested.ensures)
          (omega (arith, c.loop-count.invariant.filling.fewer)) left c.loop-count.invariant.steps c.if-not-advance_tested.ensures.steps;
    }

pub returns-then-not-advance_tested-clause-last : goal.returns-then-not-advance_tested-clause-last
returns-then-not-advance_tested-clause-last g c =
    let q = c.args.query.now in
    let left = c.advance_tested.ensures.left in
    last_rest (tree q).query c.args.document.now q.names left.0 c.advance_tested.new.answers.rest c.loop-count.answers.rest left.1 c.loop-count.invariant.last

pub returns-then-not-advance_tested-clause-steps : goal.returns-then-not-advance_tested-clause-steps
returns-then-not-advance_tested-clause-steps g c =
    let q = c.args.query.now in
    let v = c.args.answers.now.variables in
    let old = c.args.answers.now.rest in
    let now = c.loop-count.answers.rest in
    let new = c.advance_tested.new.answers.rest in
    steps_short v (length (tree q).asked) (length old - length new) c.args.steps.now c.advance_tested.new.steps c.loop-count.count c.args.most c.loop-count-test.true
    (steps_on v (length (tree q).asked) c.loop-count.answers.variables (length c.tested-tested.result.now.asked) c.args.steps.now c.loop-count.steps c.advance_tested.new.steps old now new false
    c.loop-count.invariant.variables (ap (λ (t : Tested). length t.asked) c.tested-tested.ensures) (omega (arith, c.loop-count.invariant.filling.fewer)) c.advance_tested.ensures.left
    c.loop-count.invariant.steps c.if-not-advance_tested.ensures.steps)

pub returns-clause-steps : goal.returns-clause-steps
returns-clause-steps g c =
    let filling = c.loop-count.invariant.filling in
    steps_full c.args.answers.now.variables (length (tree c.args.query.now).asked) (length c.args.answers.now.rest - length c.loop-count.answers.rest) c.args.steps.now c.loop-count.steps
    c.loop-count.count c.args.most filling.within (omega (arith, c.loop-count-test.false)) c.loop-count.invariant.steps
