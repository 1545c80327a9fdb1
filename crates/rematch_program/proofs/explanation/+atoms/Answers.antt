use Rattle.std.proofs.Common.{◌≡◌, ◌∙◌, arith, inl, refl, sym, ap, subst}
use Rattle.span_core.proofs.HasLaws.{Has-slice_get}
use Rattle.spanner_model.specs.Expression.{minus}
use Rattle.spanner_model.specs.View.{atom_of}
use Rattle.spanner_model.specs.ExprView.{expr_of, exprs_of}
use Rattle.spanner_model.proofs.Nodes.{expr_nodes}
use Rattle.spanner_model.proofs.ExprLaws.{union_size, part_size}
use Rattle.spanner_model.proofs.ExprTrees.{expr_of-Atom, expr_of-Union, expr_of-Join, expr_of-Minus}
use Rattle.rematch_program.specs.Explained.{AreCounted, atoms_of}
use Rattle.rematch_program.proofs.CountedAtoms.{left_counted, part_counted, right_counted}
use Rattle.rematch_program.proofs.AtomLines.{of_union, of_join, part_lines, then_lines}
use Rattle.rematch_program.proofs.explanation.+atoms.Goals as goal

pub push_atoms-push_atom-requires : goal.push_atoms-push_atom-requires
push_atoms-push_atom-requires t c =
    let a = c.in-Atom.atom in
    subst AreCounted (ap atoms_of (ap expr_of c.in-Atom.is ∙ expr_of-Atom a)) c.requires (atom_of a) (inl refl)

pub push_atoms-push_parts-requires : goal.push_atoms-push_parts-requires
push_atoms-push_parts-requires t c =
    let is = ap expr_of c.in-Union.is ∙ expr_of-Union c.in-Union.parts in
    let size = ap expr_nodes is ∙ union_size (exprs_of c.in-Union.parts) in
    (omega (arith, size), subst AreCounted (ap atoms_of is ∙ of_union (exprs_of c.in-Union.parts)) c.requires)

pub push_atoms-push_parts-requires-in-Join : goal.push_atoms-push_parts-requires-in-Join
push_atoms-push_parts-requires-in-Join t c =
    let is = ap expr_of c.in-Join.is ∙ expr_of-Join c.in-Join.parts in
    let size = ap expr_nodes is in
    (omega (arith, size), subst AreCounted (ap atoms_of is ∙ of_join (exprs_of c.in-Join.parts)) c.requires)

pub push_atoms-returns-in-Union : goal.push_atoms-returns-in-Union
push_atoms-returns-in-Union t c =
    let same = ap atoms_of (ap expr_of c.in-Union.is ∙ expr_of-Union c.in-Union.parts) ∙ of_union (exprs_of c.in-Union.parts) in
    rw same c.push_parts.ensures

pub push_atoms-returns-in-Join : goal.push_atoms-returns-in-Join
push_atoms-returns-in-Join t c =
    let same = ap atoms_of (ap expr_of c.in-Join.is ∙ expr_of-Join c.in-Join.parts) ∙ of_join (exprs_of c.in-Join.parts) in
    rw same c.push_parts-in-Join.ensures

pub push_parts-push_atoms-requires : goal.push_parts-push_atoms-requires
push_parts-push_atoms-requires t c =
    let es = exprs_of c.args.parts.now in
    let g = expr_of c.at.result.now in
    let has = Has-slice_get es c.loop-k.k g c.at.ensures in
    (omega (arith, part_size es g has), part_counted es g has c.requires)

pub push_parts-loop-k-preserved : goal.push_parts-loop-k-preserved
push_parts-loop-k-preserved t c =
    part_lines c.args.before c.args.text.now.items (exprs_of c.args.parts.now) c.loop-k.k (expr_of c.at.result.now) c.loop-k.atoms c.loop-k.text.items c.in_ok-atoms.atoms c.push_atoms.new.text.items
    c.at.ensures c.loop-k.invariant c.in_ok-atoms.ensures

-- ---- differences

pub push_atoms-push_atoms-requires-in-Minus : goal.push_atoms-push_atoms-requires-in-Minus
push_atoms-push_atoms-requires-in-Minus t c =
    let f = expr_of c.deref-in-Minus.result.now in
    let h = expr_of c.in-Minus.right.value in
    let is : expr_of c.args.expr.now ≡ minus f h =
    ap expr_of c.in-Minus.is ∙ (expr_of-Minus c.in-Minus.left c.in-Minus.right ∙ ap (λ x. minus (expr_of x) h) (sym c.deref-in-Minus.ensures)) in
    let size = ap expr_nodes is in
    (omega (arith, size), left_counted f h (rw is at c.requires))

pub push_atoms-push_atoms-requires-in-Minus-2 : goal.push_atoms-push_atoms-requires-in-Minus-2
push_atoms-push_atoms-requires-in-Minus-2 t c =
    let f = expr_of c.in-Minus.left.value in
    let h = expr_of c.deref-in-Minus-2.result.now in
    let is : expr_of c.args.expr.now ≡ minus f h =
    ap expr_of c.in-Minus.is ∙ (expr_of-Minus c.in-Minus.left c.in-Minus.right ∙ ap (λ x. minus f (expr_of x)) (sym c.deref-in-Minus-2.ensures)) in
    let size = ap expr_nodes is in
    (omega (arith, size), right_counted f h (rw is at c.requires))

pub push_atoms-returns-in_ok-atoms-in-Minus : goal.push_atoms-returns-in_ok-atoms-in-Minus
push_atoms-returns-in_ok-atoms-in-Minus t c =
    let f = expr_of c.deref-in-Minus.result.now in
    let h = expr_of c.deref-in-Minus-2.result.now in
    let is : expr_of c.args.expr.now ≡ minus f h =
    ap expr_of c.in-Minus.is ∙ (expr_of-Minus c.in-Minus.left c.in-Minus.right ∙ (λ i. minus (expr_of (sym c.deref-in-Minus.ensures i)) (expr_of (sym c.deref-in-Minus-2.ensures i)))) in
    let r = c.push_atoms-in-Minus-2.result in
    let new = c.push_atoms-in-Minus-2.new.text.items in
    rw is
    (then_lines r c.args.before c.args.text.now.items (atoms_of f) c.in_ok-atoms-in-Minus.atoms c.push_atoms-in-Minus.new.text.items (atoms_of h) new
    c.in_ok-atoms-in-Minus.ensures c.push_atoms-in-Minus-2.ensures)
