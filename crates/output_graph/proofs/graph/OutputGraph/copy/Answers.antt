use Rattle.std.proofs.Common.{refl, ap, ◌∙◌, arith}
use Rattle.output_graph.specs.Graph.{Graph}
use Rattle.output_graph.proofs.CopyLaws.{copy_done, layer_there, names_many}
use Rattle.output_graph.proofs.graph.OutputGraph.copy.Goals as goal

pub copy-requires : goal.copy-requires
copy-requires g c = record { there = layer_there c.self.invariant (ap (λ (x : Graph). x.stepped) c.self.view_is ∙ c.requires) c.in_ok-cells.ensures }

pub returns-in_err-arena-clause-steps : goal.returns-in_err-arena-clause-steps
returns-in_err-arena-clause-steps g c = rw (← c.self.view_is) (omega (arith, c.copy.ensures.steps))

pub with_cells-requires : goal.with_cells-requires
with_cells-requires g c = names_many c.self.inside.registers.sources.items c.in_ok-arena.ensures.copied.1 c.in_ok-cells.ensures c.deref.ensures.value

pub returns-in_err-registers-clause-steps : goal.returns-in_err-registers-clause-steps
returns-in_err-registers-clause-steps g c = rw (← c.self.view_is) (omega (arith, c.copy.ensures.steps))

pub invariant_of-result : goal.invariant_of-result
invariant_of-result g c =
    let done = copy_done c.self.invariant c.self.view_is c.requires refl c.in_ok-arena.ensures.copied c.is_arena.ensures c.in_ok-cells.ensures
    c.deref.ensures.value c.in_ok-registers.ensures in
    rw c.new.ensures done.sound

pub returns : goal.returns
returns g c =
    let done = copy_done c.self.invariant c.self.view_is c.requires refl c.in_ok-arena.ensures.copied c.is_arena.ensures c.in_ok-cells.ensures
    c.deref.ensures.value c.in_ok-registers.ensures in
    record {
      sources = done.sources_same;
      targets = c.new.ensures;
      stepped = refl;
      cells = done.many;
      steps = rw (← c.self.view_is) (omega (arith, c.copy.ensures.steps));
      counted = c.copy.ensures.counted;
    }
