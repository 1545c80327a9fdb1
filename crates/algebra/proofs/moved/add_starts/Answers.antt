use Rattle.std.proofs.Common.{ℕ, ◌<◌, get_or, arith}
use Rattle.std.specs.Prelude.{List}
use Rattle.span_core.specs.Lists.{Has}
use Rattle.span_core.proofs.HasLaws.{Has-get_or}
use Rattle.algebra.proofs.moved.add_starts.Goals as goal

pub overflow_add-by : goal.overflow_add-by
overflow_add-by c =
    let starts = c.starts-starts.result.now in
    let i = c.loop-state.state-index in
    let here : get_or starts i 0 < c.args.part.now.graph.states =
    c.requires.part.starts (get_or starts i 0) (rw (← c.starts-starts.ensures) (Has-get_or starts i 0 c.loop-state-test.true)) in
    omega (arith, here, c.requires.room, c.requires.few)

pub add_start-requires : goal.add_start-requires
add_start-requires c =
    let starts = c.starts-starts.result.now in
    let i = c.loop-state.state-index in
    let here : get_or starts i 0 < c.args.part.now.graph.states =
    c.requires.part.starts (get_or starts i 0) (rw (← c.starts-starts.ensures) (Has-get_or starts i 0 c.loop-state-test.true)) in
    omega (arith, here, c.requires.room, c.loop-state.invariant.states)
