use Rattle.set_table.specs.Cut.{codes_at}
use Rattle.set_table.proofs.PartLaws.{states_next}
use Rattle.set_table.proofs.reaching.put_rows.Goals as goal

pub loop-state-preserved : goal.loop-state-preserved
loop-state-preserved c = (
  states_next (codes_at c.args.automaton.now.graph.ways c.args.byte) c.args.members.now c.loop-state.state-index c.args.codes.now.items c.loop-state.codes.items c.put_state.new.codes.items
      c.loop-state-test.true c.loop-state.invariant.0
      c.in_ok-put_state.ensures.codes,
  c.in_ok-put_state.ensures.seen,
  c.put_state.ensures.indexed,
)
