use Rattle.std.proofs.Common.{rules, arith, ◌≡◌, ◌∙◌, ap, refl, true, false}
use Rattle.spanner_model.specs.Passing.{known}
use Rattle.session_server.specs.declared.json_rows.JsonRows.{JsonRows}
use Rattle.session_server.specs.Replies.{giving}
use Rattle.session_server.proofs.Giving.{end_given, full_given, on_false, on_true, one_given}
use Rattle.session_server.proofs.session.Session.next_rows.Goals as goal

pub returns-then-not-branch-clause-given : goal.returns-then-not-branch-clause-given
returns-then-not-branch-clause-given g c =
    let k = known c.args.tests.now g.J.Judge.judges in
    let no : c.in_ok-give.field-0 ≡ false = search rules in
    let end = on_false c.in_ok-give.field-0 _ no c.in_ok-give.ensures.none in
    λ s all o.
    let so = c.loop-count.invariant.so_far s all o in
    end_given k c.args.self.now c.loop-count.self c.give.new.self s all c.loop-count.count c.args.most c.loop-count.rows.text.items c.give.new.rows.text.items c.in_ok-array.array.items
    so c.loop-count.invariant.few
    (ap (λ (r : JsonRows). r.text.items) end.0) c.in_ok-array.ensures end.1 (end.2 (giving c.loop-count.count s) all so.now)

pub loop-count-preserved : goal.loop-count-preserved
loop-count-preserved g c =
    let k = known c.args.tests.now g.J.Judge.judges in
    let some : c.in_ok-give.field-0 ≡ true = search rules in
    let one = on_true c.in_ok-give.field-0 _ some c.in_ok-give.ensures.some in
    record {
      few = omega (arith, c.loop-count-test.true);
      vars = c.give.ensures.vars ∙ c.loop-count.invariant.vars;
      line = c.give.ensures.line ∙ c.loop-count.invariant.line;
      so_far = λ s all o.
          (let so = c.loop-count.invariant.so_far s all o in
          one_given k c.args.self.now s all c.loop-count.self c.give.new.self c.loop-count.count c.loop-count.rows.text.items c.give.new.rows.text.items so c.give.ensures.vars
          (one (giving c.loop-count.count s) all so.now));
    }

pub returns-clause-given : goal.returns-clause-given
returns-clause-given g c =
    let k = known c.args.tests.now g.J.Judge.judges in
    let at : c.loop-count.count ≡ c.args.most = omega (arith, c.loop-count-test.false, c.loop-count.invariant.few) in
    λ s all o.
    full_given k c.args.self.now c.loop-count.self s all c.loop-count.count c.args.most c.loop-count.rows.text.items c.in_ok-array-2.array.items c.loop-count.self.some
    (c.loop-count.invariant.so_far s all o) at c.in_ok-array-2.ensures refl
