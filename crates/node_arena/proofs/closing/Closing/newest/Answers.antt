use Rattle.std.proofs.Common.{refl, ap, subst, sym, ◌∙◌}
use Rattle.node_arena.specs.Closing.{head}
use Rattle.node_arena.specs.RowNodes.{IsClosing}
use Rattle.std.specs.FinMap as map
use Rattle.node_arena.proofs.ClosingLaws.{take_done, none_left}
use Rattle.node_arena.proofs.closing.Closing.newest.Goals as goal

pub returns-then-name-clause-newest : goal.returns-then-name-clause-newest
returns-then-name-clause-newest c =
    let was = subst (λ v. IsClosing c.self.inside.nodes.live c.self.inside.newest c.self.inside.left c.self.inside.last c.self.inside.rows v) c.self.view_is c.self.invariant in
    none_left _ _ _ _ _ _ was c.if-name.true

pub returns-clause-newest : goal.returns-clause-newest
returns-clause-newest c =
    let was = subst (λ v. IsClosing c.self.inside.nodes.live c.self.inside.newest c.self.inside.left c.self.inside.last c.self.inside.rows v) c.self.view_is c.self.invariant in
    let taken = take_done _ _ _ _ _ _ was (map.remove c.self.inside.nodes.live c.of.result) c.of.result 0 c.get-marks.result c.of.ensures c.if-name.false c.get-marks.ensures refl in
    (taken.rest, rw (c.of-2.ensures, c.cell_of.ensures, c.cell_of-2.ensures) taken.cells_were)

pub returns-clause-entry : goal.returns-clause-entry
returns-clause-entry c =
    let was = subst (λ v. IsClosing c.self.inside.nodes.live c.self.inside.newest c.self.inside.left c.self.inside.last c.self.inside.rows v) c.self.view_is c.self.invariant in
    let taken = take_done _ _ _ _ _ _ was (map.remove c.self.inside.nodes.live c.of.result) c.of.result 0 c.get-marks.result c.of.ensures c.if-name.false c.get-marks.ensures refl in
    c.head_of.ensures ∙ (taken.entry ∙ ap (head c.args.self.now.heads) (sym c.of-2.ensures))
