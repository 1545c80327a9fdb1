use Rattle.std.proofs.Common.{◌∷◌, refl, ap, subst, sym, ◌∙◌}
use Rattle.node_arena.specs.Cells.{HasCell}
use Rattle.node_arena.specs.Closing.{Entries, head, named_link}
use Rattle.node_arena.specs.RowNodes.{IsClosing}
use Rattle.node_arena.proofs.ClosingViews.{closing_cells, closing_heads, closing_rows, closing_seen}
use Rattle.node_arena.proofs.ClosingLaws.{TakenNewest, link_in, take_done, newest_is_one}
use Rattle.node_arena.proofs.closing.Closing.free_newest.Goals as goal
use Rattle.node_arena.proofs.closing.Closing.free_newest.Goals.{After-self-2-1}
use Rattle.node_arena.proofs.closing.Closing.free_newest.Given.{Over}

freed : (g : Over) (c : After-self-2-1 g) → TakenNewest c.self.inside.nodes.live c.take-node.new.self.live c.self.inside.newest c.self.inside.left c.self.inside.last c.self.inside.rows
    c.take-node.new.self.spare c.args.self.now c.take-node.result
freed g c =
    let was = subst (λ v. IsClosing c.self.inside.nodes.live c.self.inside.newest c.self.inside.left c.self.inside.last c.self.inside.rows v) c.self.view_is c.self.invariant in
    take_done _ _ _ _ _ _ was c.take-node.new.self.live c.of.result c.take-node.new.self.spare c.take-node.result c.of.ensures (newest_is_one _ _ _ _ _ _ was c.requires.some) c.take-node.ensures.value
    c.take-node.ensures.live

pub invariant_of-self : goal.invariant_of-self
invariant_of-self g c = closing_seen _ _ _ _ _ _ (freed g c).closing c.take-node.new.self.spare refl

pub returns-clause-freed : goal.returns-clause-freed
returns-clause-freed g c = (
  named_link c.self.inside.newest (link_in c.take-node.result),
  (freed g c).cells_were ∙
      ap (λ cs. named_link c.self.inside.newest (link_in c.take-node.result) ∷ cs) (sym (closing_cells _ _ _ _ _ _ (freed g c).closing)),
)

pub returns-clause-heads : goal.returns-clause-heads
returns-clause-heads g c = λ q h.
    let there = subst (λ cs. HasCell cs q) (closing_cells _ _ _ _ _ _ (freed g c).closing) h in
    ap (λ (hs : Entries). head hs q) (closing_heads _ _ _ _ _ _ (freed g c).closing) ∙ (freed g c).others q there

pub returns-clause-store : goal.returns-clause-store
returns-clause-store g c = closing_rows _ _ _ _ _ _ (freed g c).closing
