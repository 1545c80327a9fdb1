use Rattle.std.proofs.Common.{arith, ap, length}
use Rattle.output_graph.specs.Programs.{edges_in}
use Rattle.output_graph.proofs.ProgramLaws.{edges_length, joined_cut}
use Rattle.output_graph.proofs.program.Program.edges.Goals as goal

pub returns : goal.returns
returns c =
    let moves = c.self.inside.plan.moves.items in
    let joined = ap length (joined_cut c.self.inside.plan.counts.items (edges_in moves) c.self.invariant.counted) in
    let count = edges_length moves in
    let has = c.self.inside.plan.moves.ok.0 in
    rw (← c.self.view_is) (omega arith)
