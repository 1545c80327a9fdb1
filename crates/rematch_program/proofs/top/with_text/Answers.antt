use Rattle.std.proofs.Common.{inl, inr, refl, subst, sym}
use Rattle.query_parser.specs.declared.fault.QueryFault.{QueryFault}
use Rattle.spanner_model.specs.Tested.{tested_of}
use Rattle.spanner_model.specs.Passing.{known}
use Rattle.rematch_program.specs.Run.{IsOnlyFault, understood, query_refused, out_of_memory}
use Rattle.rematch_program.proofs.QueryLaws.{only_tested, only_fault, unknown_fault}
use Rattle.rematch_program.proofs.top.with_text.Goals as goal

pub returns-in-Err : goal.returns-in-Err
returns-in-Err g c =
    let k = known c.args.job.now.tests.now g.J.Judge.judges in
    let e = c.in-Err.ensures in
    record {
      case = elim c.of_query.ensures [
        | inl h ↦ query_refused c.in-Err.fault (only_fault k c.args.text.now c.in-Err.fault h.0 e.fault e.only e.only_fault) h.1 (refl, (refl, refl))
        | inr is ↦ out_of_memory is (refl, (refl, refl))
      ];
    }

pub returns-in-Ok-bind : goal.returns-in-Ok-bind
returns-in-Ok-bind g c =
    let k = known c.args.job.now.tests.now g.J.Judge.judges in
    let t = c.in-Ok.tested in
    record { case = understood (tested_of t) (only_tested k c.args.text.now t c.in-Ok.ensures.found c.in-Ok.ensures.only c.in-Ok-bind.ensures.known) c.with_query.ensures.case }

pub returns : goal.returns
returns g c =
    let k = known c.args.job.now.tests.now g.J.Judge.judges in
    let t = c.in-Ok.tested in
    let (at, first, is) = c.in-Err-bind.ensures.fault in
    let only = subst (λ (fault : QueryFault). IsOnlyFault k c.args.text.now fault) (sym is) (unknown_fault k c.args.text.now t c.in-Ok.ensures.found c.in-Ok.ensures.only at first) in
    record {
      case = elim c.of_query-in-Err-bind.ensures [
        | inl h ↦ query_refused c.in-Err-bind.fault only h.1 (refl, (refl, refl))
        | inr is ↦ out_of_memory is (refl, (refl, refl))
      ];
    }
