use Rattle.std.proofs.Common.{arith, subst}
use Rattle.way_exits.specs.Exits.{IsLeft, LeaveBy}
use Rattle.way_exits.specs.declared.waiting.Exit.{Exit}
use Rattle.way_exits.proofs.HomeLaws.{passed_home}
use Rattle.way_exits.proofs.InsideLaws.{passed_inside}
use Rattle.way_exits.proofs.WaitLaws.{passed_back}
use Rattle.way_exits.proofs.waiting.Waiting.next_place.Goals as goal

pub returns-in-Front-clause-back : goal.returns-in-Front-clause-back
returns-in-Front-clause-back c ways leave set known =
    let w = c.args.self.now in
    passed_back ways w.states.items c.in-Front.chain (subst (λ (e : Exit). LeaveBy ways w.states.items e) c.in-Front.is leave) set
    (subst (λ (e : Exit). IsLeft w.states.items e set) c.in-Front.is known) c.args.bytes.now (λ i. let f = c.type_inv.bytes i in omega (arith, f)) c.next_place.result
    c.next_place.ensures.within c.next_place.ensures.left

pub returns-in-Inside-clause-back : goal.returns-in-Inside-clause-back
returns-in-Inside-clause-back c ways leave set known =
    let w = c.args.self.now in
    passed_inside ways w.states.items c.in-Inside.text (subst (λ (e : Exit). LeaveBy ways w.states.items e) c.in-Inside.is leave) set
    (subst (λ (e : Exit). IsLeft w.states.items e set) c.in-Inside.is known) c.args.bytes.now (λ i. let f = c.type_inv.bytes i in omega (arith, f))
    c.next_place-in-Inside.result c.next_place-in-Inside.ensures.within c.next_place-in-Inside.ensures.nowhere c.next_place-in-Inside.ensures.behind

pub returns-in-Home-clause-back : goal.returns-in-Home-clause-back
returns-in-Home-clause-back c ways leave set known =
    let w = c.args.self.now in
    let homes = c.in-Home.homes in
    passed_home ways homes.sets.items homes.text (subst (λ (e : Exit). LeaveBy ways w.states.items e) c.in-Home.is leave) set
    (subst (λ (e : Exit). IsLeft w.states.items e set) c.in-Home.is known) c.args.bytes.now (λ i. let f = c.type_inv.bytes i in omega (arith, f))
    c.next_place-in-Home.result c.next_place-in-Home.ensures.within c.next_place-in-Home.ensures.nowhere c.next_place-in-Home.ensures.behind
