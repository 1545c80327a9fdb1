use Rattle.std.proofs.Common.{◌≡◌, ◌+◌, [], ◌∷◌, ◌++◌}
use Rattle.std.proofs.lemmas.Bool.{OnTrue_at}
use Rattle.algebra_minus.proofs.CoveringLaws.{covered_rows, covering_more, noted_more}
use Rattle.algebra_minus.proofs.covering.covering_states.Goals as goal

pub loop-state-preserved : goal.loop-state-preserved
loop-state-preserved c =
    let all = c.args.automaton.now.graph.ways in
    let noted = c.loop-state.covering.items in
    let state = c.loop-state.state in
    let b = c.lead_within.result in
    let inv = c.loop-state.invariant in
    let more : c.push.new.self.items ≡ noted ++ b ∷ [] = c.in_ok-push.ensures.items in
    record {
      long = noted_more noted c.push.new.self.items b state more inv.long;
      covering = rw more
          (covering_more all noted b state inv.long inv.covering
          (λ e. covered_rows all c.ways_from-next.result.now c.ways_from-ways.result.now state (state + 1) c.ways_from-next.ensures c.ways_from-ways.ensures
          (OnTrue_at e c.lead_within.ensures)));
    }
