use Rattle.std.proofs.Common.{length, ap, subst, ◌∙◌, arith, ℕ, List, map, take, drop, ◌++◌}
use Rattle.node_arena.specs.Cells.{Cells}
use Rattle.node_arena.specs.Nodes.{seen}
use Rattle.node_arena.specs.Copies.{IsCopy}
use Rattle.node_arena.specs.Copying.{copy_in}
use Rattle.node_arena.proofs.CopyLaws.{copy_done, written}
use Rattle.node_arena.proofs.arena.Arena.copy.Goals as goal

pub place_cells-requires-clause-kept : goal.place_cells-requires-clause-kept
place_cells-requires-clause-kept g c = c.self.invariant

pub place_cells-requires-clause-covered : goal.place_cells-requires-clause-covered
place_cells-requires-clause-covered g c k is = c.in_ok-numbers.ensures.covers k (c.capacity.ensures.numbers k is)

pub move_nodes-requires-clause-kept : goal.move_nodes-requires-clause-kept
move_nodes-requires-clause-kept g c = c.self.invariant

pub invariant_of-result : goal.invariant_of-result
invariant_of-result g c =
    (copy_done _ _ c.self.inside.newest _ _ c.move_nodes.new.copies.spare _ c.place_cells.new.numbers c.self.invariant c.in_ok-place_cells.ensures.none c.move_nodes.ensures.slots
    c.move_nodes.ensures.moved c.copied.ensures).kept

pub returns-clause-copied : goal.returns-clause-copied
returns-clause-copied g c =
    let done =
    copy_done _ _ c.self.inside.newest _ _ c.move_nodes.new.copies.spare _ c.place_cells.new.numbers c.self.invariant c.in_ok-place_cells.ensures.none c.move_nodes.ensures.slots
    c.move_nodes.ensures.moved c.copied.ensures in
    let ok = c.args.cells.now.ok.0 in
    let value = c.deref_mut.ensures.value in
    let same = c.replace_cells.auto.cells in
    let long = ap length value in
    let is = written c.args.cells.now.items c.replace_cells.new.cells c.args.cells.now.len (omega arith) (omega arith) in
    let copy = copy_in c.place_cells.new.numbers in
    let told = done.copied c.args.cells.now.items _ (is ∙ (c.replace_cells.ensures ∙ ap (λ (xs : List ℕ). map copy xs) value)) in
    let Told : Cells → Type 0 = λ (v : Cells).
    IsCopy copy v (seen c.move_nodes.new.copies.live c.move_nodes.new.copies.spare c.copied.result c.self.inside.live) c.args.cells.now.items
    (take c.args.cells.now.len (c.replace_cells.new.cells ++ drop (length c.replace_cells.new.cells) c.args.cells.now.items)) in
    (copy, subst Told c.self.view_is told)

pub returns-in_err-place_cells-clause-steps : goal.returns-in_err-place_cells-clause-steps
returns-in_err-place_cells-clause-steps g c =
    let tick = c.tick.ensures in
    let placed = c.place_cells.ensures.steps in
    let number = c.self.invariant.number in
    let same = ap (λ (v : Cells). length v.cells) c.self.view_is in
    omega arith

pub returns-in_err-place_cells-clause-counted : goal.returns-in_err-place_cells-clause-counted
returns-in_err-place_cells-clause-counted g c =
    let tick = c.tick.ensures in
    let placed = c.place_cells.ensures.counted in
    omega arith

pub returns-clause-steps : goal.returns-clause-steps
returns-clause-steps g c =
    let tick = c.tick.ensures in
    let placed = c.place_cells.ensures.steps in
    let moved = c.move_nodes.ensures.steps in
    let number = c.self.invariant.number in
    let same = ap (λ (v : Cells). length v.cells) c.self.view_is in
    omega arith

pub returns-clause-counted : goal.returns-clause-counted
returns-clause-counted g c =
    let tick = c.tick.ensures in
    let placed = c.place_cells.ensures.counted in
    let moved = c.move_nodes.ensures.steps in
    omega arith
