use Rattle.std.proofs.Common.{◌≡◌, length}
use Rattle.output_graph.specs.Sound.{graph_of}
use Rattle.output_graph.proofs.NamedLaws.{sound_named}
use Rattle.output_graph.proofs.graph.OutputGraph.rename.Goals as goal

pub invariant_of-self : goal.invariant_of-self
invariant_of-self c =
    let inside = c.self.inside in
    let every : length c.args.sets.now ≡ length inside.registers.sources.items = rw (← c.self.view_is) at c.requires.every in
    rw (c.rename.ensures)
    (sound_named c.args.sets.now (graph_of inside.arena.cells inside.registers.sources.items inside.next.pairs inside.stepped inside.at) inside.arena.holds c.requires.distinct every c.self.invariant)
