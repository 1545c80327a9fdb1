use Rattle.std.proofs.Common.{◌≡◌, ◌+◌, ◌∙◌, ap}
use Rattle.span_core.specs.Lists.{Has}
use Rattle.marked_automaton.specs.Automaton.{Automaton, idle_way, with_states}
use Rattle.algebra.specs.Moved.{IsWithPart, IsWithWays}
use Rattle.algebra.specs.Operations.{union_of}
use Rattle.algebra.proofs.Alike.{alike_reduces}
use Rattle.algebra.proofs.United.{second_idle, united}
use Rattle.algebra.proofs.Whole.{union_whole}
use Rattle.algebra.proofs.uniting.appended.Goals as goal

pub add_part-requires-clause-ways : goal.add_part-requires-clause-ways
add_part-requires-clause-ways c = λ q h.
    let A = c.args.a in
    let B = c.args.b.now in
    let G1 = c.add_ways.new.whole.graph in
    let start : c.add_states.new.self.graph ≡ with_states B.graph.states A.graph = c.in_ok-add_states.ensures.ok ∙ ap (λ n. with_states n A.graph) c.states.ensures.value in
    let ways : IsWithWays A.graph.states B.graph (with_states B.graph.states A.graph) G1 =
    rw (← start)
    (rw (← c.states-by.ensures.value) c.in_ok-add_ways.ensures.ways) in
    rw ways.ways
    (rw c.states-by.ensures.value (second_idle A B c.states.ensures.marked q h))

pub returns-clause-reduct : goal.returns-clause-reduct
returns-clause-reduct c =
    let A = c.args.a in
    let B = c.args.b.now in
    let G1 = c.add_ways.new.whole.graph in
    let G2 = c.add_part.new.whole.graph in
    let start : c.add_states.new.self.graph ≡ with_states B.graph.states A.graph = c.in_ok-add_states.ensures.ok ∙ ap (λ n. with_states n A.graph) c.states.ensures.value in
    let ways : IsWithWays A.graph.states B.graph (with_states B.graph.states A.graph) G1 =
    rw (← start)
    (rw (← c.states-by.ensures.value) c.in_ok-add_ways.ensures.ways) in
    let part : IsWithPart A.graph.states B.graph G1 G2 = rw (← c.states-by.ensures.value) c.in_ok-add_part.ensures.part in
    alike_reduces G2 (union_of A.graph B.graph) (union_whole A.graph B.graph c.states-by.ensures.marked.whole c.states.ensures.marked.whole) (united A B c.states.ensures.marked G1 G2 ways part)
