use Rattle.std.proofs.Common.{◌∷◌, refl, ap, subst, sym, ◌∙◌, arith}
use Rattle.node_arena.specs.Cells.{HasCell}
use Rattle.node_arena.specs.Rows.{HasRow}
use Rattle.node_arena.specs.Closing.{Entries, head}
use Rattle.node_arena.specs.RowNodes.{IsClosing}
use Rattle.node_arena.proofs.ClosingViews.{closing_cells, closing_heads, closing_rows, closing_seen}
use Rattle.node_arena.proofs.RowLaws.{few_rows}
use Rattle.node_arena.proofs.ClosingLaws.{TakenInto, into_done, newest_small}
use Rattle.node_arena.proofs.closing.Closing.take_into.Goals as goal
use Rattle.node_arena.proofs.closing.Closing.take_into.Goals.{After-of-3}
use Rattle.node_arena.proofs.closing.Closing.take_into.Given.{Over}

pub overflow_add-self : goal.overflow_add-self
overflow_add-self g c =
    let b = few_rows _ _ _ _ c.self.invariant.kept_rows in
    omega arith

pub of-requires-3 : goal.of-requires-3
of-requires-3 g c =
    let was = subst (λ v. IsClosing c.self.inside.nodes.live c.self.inside.newest c.self.inside.left c.self.inside.last c.self.inside.rows v) c.self.view_is c.self.invariant in
    newest_small _ _ _ _ _ _ was c.requires.some

taken : (g : Over) (c : After-of-3 g) → TakenInto c.set.new.self.live c.self.inside.newest c.self.inside.left c.self.inside.rows c.set.new.self.spare c.args.self.now c.get-node.result c.args.row
taken g c =
    let was = subst (λ v. IsClosing c.self.inside.nodes.live c.self.inside.newest c.self.inside.left c.self.inside.last c.self.inside.rows v) c.self.view_is c.self.invariant in
    into_done _ _ _ _ _ _ was c.set.new.self.live c.of.result c.of-2.result c.set.new.self.spare c.get-node.result c.row_node-placed.result c.args.row c.requires.some c.of.ensures c.of-2.ensures
    c.get-node.ensures c.row_node-placed.ensures c.set.ensures.live c.requires.child c.requires.next

pub invariant_of-self : goal.invariant_of-self
invariant_of-self g c = closing_seen _ _ _ _ _ _ (taken g c).closing c.set.new.self.spare refl

pub returns-clause-taken : goal.returns-clause-taken
returns-clause-taken g c =
    let t = taken g c in
    (t.first, t.cells_were ∙ ap (λ cs. t.first ∷ cs) (sym (closing_cells _ _ _ _ _ _ t.closing)))

pub returns-clause-heads : goal.returns-clause-heads
returns-clause-heads g c = λ q h.
    let there = subst (λ cs. HasCell cs q) (closing_cells _ _ _ _ _ _ (taken g c).closing) h in
    ap (λ (hs : Entries). head hs q) (closing_heads _ _ _ _ _ _ (taken g c).closing) ∙ (taken g c).others q there

pub returns-clause-fresh : goal.returns-clause-fresh
returns-clause-fresh g c = subst (λ k. HasRow c.args.self.now.store k → ⊥) (sym c.of-3.ensures) (taken g c).fresh

pub returns-clause-store : goal.returns-clause-store
returns-clause-store g c = rw c.of-3.ensures (closing_rows _ _ _ _ _ _ (taken g c).closing)
