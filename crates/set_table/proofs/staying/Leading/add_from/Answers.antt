use Rattle.std.proofs.Common.{get_or, refl, take}
use Rattle.std.specs.List.{flat_map}
use Rattle.marked_automaton.specs.Automaton.{ways_from}
use Rattle.set_table.proofs.StayingLaws.{gathered_from}
use Rattle.set_table.proofs.staying.Leading.add_from.Goals as goal

pub loop-state-preserved : goal.loop-state-preserved
loop-state-preserved c =
    let A = c.args.automaton.now.graph in
    let members = c.args.members.now in
    let i = c.loop-state.state-index in
    let before = flat_map (ways_from A.ways) (take i members) in
    gathered_from A members i (get_or members i 0) c.add_state.new.self c.loop-state-test.true refl (c.add_state.ensures.gathered before c.loop-state.invariant)
