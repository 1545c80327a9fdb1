use Rattle.std.proofs.Common.{sym, subst, take, ◌∙◌}
use Rattle.std.specs.List.{filter}
use Rattle.std.proofs.lemmas.List.{take_all}
use Rattle.marked_automaton.specs.declared.way.Way.{Way}
use Rattle.automaton_reading.specs.Reading.{is_among}
use Rattle.set_table.specs.Staying.{AreGathered}
use Rattle.set_table.proofs.StayingLaws.{gathered_among, passed_among}
use Rattle.set_table.proofs.staying.Leading.add_among.Goals.{then-has_state, else-has_state}
use Rattle.set_table.proofs.staying.Leading.add_among.Goals as goal

pub loop-way-preserved : goal.loop-way-preserved
loop-way-preserved c =
    let members = c.args.members.now in
    let ways = c.args.ways.now in
    let i = c.loop-way.way-index in
    elim c.if-has_state.branch [
      | then-has_state w ↦ gathered_among members ways i c.way-item.result c.if-has_state.self c.loop-way-test.true c.way-item.is (sym c.has_state.ensures ∙ w.if-has_state.true)
          (subst (AreGathered members _) (sym w.self-is) (w.add.ensures.gathered (filter (λ (y : Way). is_among members y.from) (take i ways)) c.loop-way.invariant))
      | else-has_state w ↦ passed_among members ways i c.way-item.result c.if-has_state.self c.loop-way-test.true c.way-item.is (sym c.has_state.ensures ∙ w.if-has_state.false)
          (subst (AreGathered members _) (sym w.self-is) c.loop-way.invariant)
    ]

pub returns : goal.returns
returns c =
    let members = c.args.members.now in
    subst (λ ws. AreGathered members (filter (λ (y : Way). is_among members y.from) ws) c.loop-way.self) (take_all c.loop-way.way-index c.args.ways.now c.loop-way-test.false) c.loop-way.invariant
