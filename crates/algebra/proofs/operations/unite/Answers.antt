use Rattle.algebra.specs.Uniting.{IsOver}
use Rattle.algebra.proofs.UnionsOver.{first_of_all, over_as_it_is, second_of_all, union_made}
use Rattle.algebra.proofs.operations.unite.Goals as goal

pub over-requires : goal.over-requires
over-requires c = first_of_all c.names_of_both-all.result c.args.a.names c.args.b.now.names c.vars.result.now c.vars-2.result.now c.names_of_both-all.ensures c.vars.ensures c.vars-2.ensures

pub is_over-requires : goal.is_over-requires
is_over-requires c = second_of_all c.names_of_both-all.result c.args.a.names c.args.b.now.names c.vars.result.now c.vars-2.result.now c.names_of_both-all.ensures c.vars.ensures c.vars-2.ensures

pub returns-then-is_over-clause-reduct : goal.returns-then-is_over-clause-reduct
returns-then-is_over-clause-reduct c =
    let all = c.names_of_both-all.result in
    let B = c.args.b.now in
    union_made c.args.a B c.in_ok-first.first B all c.in_ok-first.ensures (over_as_it_is all B c.is_over.result c.if-is_over.true c.is_over.ensures)
    c.appended.result c.appended.ensures.names c.appended.ensures.reduct

pub returns-clause-reduct : goal.returns-clause-reduct
returns-clause-reduct c =
    let all = c.names_of_both-all.result in
    let second : IsOver all c.args.b.now c.in_ok-second.second = record { names = c.in_ok-second.ensures.names; graph = c.in_ok-second.ensures.graph } in
    union_made c.args.a c.args.b.now c.in_ok-first.first c.in_ok-second.second all c.in_ok-first.ensures second c.appended-2.result c.appended-2.ensures.names c.appended-2.ensures.reduct
