use Rattle.std.proofs.Common.{arith}
use Rattle.output_graph.specs.Programs.{edges_in}
use Rattle.output_graph.proofs.ProgramLaws.{length_cut}
use Rattle.output_graph.proofs.program.Program.sources.Goals as goal

pub returns : goal.returns
returns c =
    let has = c.self.inside.plan.counts.ok.0 in
    let l = length_cut c.self.inside.plan.counts.items (edges_in c.self.inside.plan.moves.items) in
    rw (← c.self.view_is) (omega arith)
