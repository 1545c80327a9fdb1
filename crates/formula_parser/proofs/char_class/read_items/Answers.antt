use Rattle.std.proofs.Common.{rules, ◌+◌, drop, arith, sym, ◌∙◌, ap, subst, refl}
use Rattle.std.proofs.lemmas.Result.{err_from_is_err_and}
use Rattle.std.specs.FinSet as set
use Rattle.formula_parser.specs.Classes.{no_item, after_elem, after_dash}
use Rattle.formula_parser.specs.ClassStep.{takes_elem, takes_end, class_step, items_at}
use Rattle.formula_parser.specs.CharView.{Holds, AreItemsOf, IsClassRead}
use Rattle.formula_parser.specs.Dialect.{with_characters}
use Rattle.formula_parser.proofs.CharSetLaws.{holds_none}
use Rattle.formula_parser.proofs.CharTurns.{token_fails, items_fail, whole_fails, dash_goes, end_some}
use Rattle.formula_parser.proofs.ClassTurns.{goes_read, token_fits, fails_read, closes_read}
use Rattle.formula_parser.proofs.TheTrees.{the_trees, the_trees_are}
use Rattle.formula_parser.proofs.char_class.read_items.Goals as goal

pub loop-items-init : goal.loop-items-init
loop-items-init c = record {
  within = omega arith;
  same = λ trees are. (
    set.empty,
    no_item,
    (rw c.none.ensures holds_none, refl),
    ap (λ q. items_at (with_characters trees) c.args.negated c.args.from 0 q c.args.text.now set.empty no_item) (omega arith),
  );
}

pub returns-in_err-elem : goal.returns-in_err-elem
returns-in_err-elem c =
    let p = err_from_is_err_and c.from_residual.result c.from_residual.ensures.1 in
    let l = c.loop-items in
    let at = c.args.first + l.read in
    let rest = c.split_at.result.1.now in
    let here = drop l.read c.args.text.now in
    λ trees are.
    let inv = l.invariant.same trees are in
    rw (p.1, p.2) (token_fails trees c.in_err-elem.field-0.0 at inv.0 inv.1 (class_step (with_characters trees) c.args.from at rest inv.0 inv.1) _
    (c.in_err-elem.ensures trees inv.0 inv.1 (c.is_after_elem.ensures inv.1 inv.2.1))
    (λ is. inv.3 ∙ sym (fails_read (with_characters trees) are c.args.negated c.args.from at here rest inv.0 inv.1 c.in_err-elem.field-0.0 c.split_at.ensures.back (sym is))))

pub returns-in_err-items-in-Elem : goal.returns-in_err-items-in-Elem
returns-in_err-items-in-Elem c =
    let p = err_from_is_err_and c.from_residual-in_err-items-in-Elem.result c.from_residual-in_err-items-in-Elem.ensures.1 in
    let l = c.loop-items in
    let at = c.args.first + l.read in
    let rest = c.split_at.result.1.now in
    let here = drop l.read c.args.text.now in
    λ trees are.
    let inv = l.invariant.same trees are in
    let step = rw c.in-Elem.is at c.in_ok-elem.ensures trees inv.0 inv.1 (c.is_after_elem.ensures inv.1 inv.2.1) in
    rw (p.1, p.2) (items_fail trees c.in_err-items-in-Elem.field-0.0 c.in-Elem.len (takes_elem at (step.0, c.in-Elem.len) inv.0 inv.1) _
    (c.in_err-items-in-Elem.ensures inv.0 inv.1 step.0 c.in-Elem.len inv.2 step.1)
    (λ is. inv.3 ∙ sym (fails_read (with_characters trees) are c.args.negated c.args.from at here rest inv.0 inv.1 c.in_err-items-in-Elem.field-0.0 c.split_at.ensures.back (sym (step.2 ∙ is)))))

pub overflow_add-read : goal.overflow_add-read
overflow_add-read c =
    let l = c.loop-items in
    let at = c.args.first + l.read in
    let rest = c.split_at.result.1.now in
    let here = drop l.read c.args.text.now in
    let inv = l.invariant.same the_trees the_trees_are in
    let step = rw c.in-Elem.is at c.in_ok-elem.ensures the_trees inv.0 inv.1 (c.is_after_elem.ensures inv.1 inv.2.1) in
    let next = c.in_ok-items-in-Elem.ensures inv.0 inv.1 step.0 c.in-Elem.len inv.2 step.1 in
    let fits = token_fits (with_characters the_trees) the_trees_are c.args.from at rest inv.0 next.0 inv.1 next.1 c.in-Elem.len (sym (step.2 ∙ next.3)) in
    let len = c.split_at.ensures.back_len in
    search rules

pub loop-items-smaller-in-Elem : goal.loop-items-smaller-in-Elem
loop-items-smaller-in-Elem c =
    let l = c.loop-items in
    let at = c.args.first + l.read in
    let rest = c.split_at.result.1.now in
    let here = drop l.read c.args.text.now in
    let inv = l.invariant.same the_trees the_trees_are in
    let step = rw c.in-Elem.is at c.in_ok-elem.ensures the_trees inv.0 inv.1 (c.is_after_elem.ensures inv.1 inv.2.1) in
    let next = c.in_ok-items-in-Elem.ensures inv.0 inv.1 step.0 c.in-Elem.len inv.2 step.1 in
    let fits = token_fits (with_characters the_trees) the_trees_are c.args.from at rest inv.0 next.0 inv.1 next.1 c.in-Elem.len (sym (step.2 ∙ next.3)) in
    omega (arith, fits.0, fits.1, c.split_at.ensures.back_len)

pub loop-items-preserved-in-Elem : goal.loop-items-preserved-in-Elem
loop-items-preserved-in-Elem c =
    let l = c.loop-items in
    let at = c.args.first + l.read in
    let rest = c.split_at.result.1.now in
    let here = drop l.read c.args.text.now in
    let inv = l.invariant.same the_trees the_trees_are in
    let step = rw c.in-Elem.is at c.in_ok-elem.ensures the_trees inv.0 inv.1 (c.is_after_elem.ensures inv.1 inv.2.1) in
    let next = c.in_ok-items-in-Elem.ensures inv.0 inv.1 step.0 c.in-Elem.len inv.2 step.1 in
    let fits = token_fits (with_characters the_trees) the_trees_are c.args.from at rest inv.0 next.0 inv.1 next.1 c.in-Elem.len (sym (step.2 ∙ next.3)) in
    record {
      within = omega (arith, fits.1, c.split_at.ensures.back_len);
      same = λ trees are.
          let inv = l.invariant.same trees are in
          let step = rw c.in-Elem.is at c.in_ok-elem.ensures trees inv.0 inv.1 (c.is_after_elem.ensures inv.1 inv.2.1) in
          let next = c.in_ok-items-in-Elem.ensures inv.0 inv.1 step.0 c.in-Elem.len inv.2 step.1 in (
            next.0,
            next.1,
            next.2,
            inv.3 ∙ goes_read (with_characters trees) are c.args.negated c.args.from c.args.first l.read c.args.text.now rest
                inv.0 next.0 inv.1 next.1 c.in-Elem.len c.split_at.ensures.back (sym (step.2 ∙ next.3)),
          );
    }

pub loop-items-smaller : goal.loop-items-smaller
loop-items-smaller c =
    let l = c.loop-items in
    let at = c.args.first + l.read in
    let rest = c.split_at.result.1.now in
    let here = drop l.read c.args.text.now in
    let inv = l.invariant.same the_trees the_trees_are in
    let step = rw c.in-Dash.is at c.in_ok-elem.ensures the_trees inv.0 inv.1 (c.is_after_elem.ensures inv.1 inv.2.1) in
    let dash = dash_goes inv.1 inv.0 (class_step (with_characters the_trees) c.args.from at rest inv.0 inv.1) step in
    let fits = token_fits (with_characters the_trees) the_trees_are c.args.from at rest inv.0 inv.0 inv.1 (after_dash dash.0 dash.1) 1 (sym dash.3) in
    omega (arith, fits.0, fits.1, c.split_at.ensures.back_len)

pub loop-items-preserved : goal.loop-items-preserved
loop-items-preserved c =
    let l = c.loop-items in
    let at = c.args.first + l.read in
    let rest = c.split_at.result.1.now in
    let here = drop l.read c.args.text.now in
    let inv = l.invariant.same the_trees the_trees_are in
    let step = rw c.in-Dash.is at c.in_ok-elem.ensures the_trees inv.0 inv.1 (c.is_after_elem.ensures inv.1 inv.2.1) in
    let dash = dash_goes inv.1 inv.0 (class_step (with_characters the_trees) c.args.from at rest inv.0 inv.1) step in
    let fits = token_fits (with_characters the_trees) the_trees_are c.args.from at rest inv.0 inv.0 inv.1 (after_dash dash.0 dash.1) 1 (sym dash.3) in
    record {
      within = omega (arith, fits.1, c.split_at.ensures.back_len);
      same = λ trees are.
          let inv = l.invariant.same trees are in
          let step = rw c.in-Dash.is at c.in_ok-elem.ensures trees inv.0 inv.1 (c.is_after_elem.ensures inv.1 inv.2.1) in
          let dash = dash_goes inv.1 inv.0 (class_step (with_characters trees) c.args.from at rest inv.0 inv.1) step in
          let items : AreItemsOf l.items inv.0 (after_elem dash.0 dash.1) = subst (AreItemsOf l.items inv.0) dash.2 inv.2 in (
            inv.0,
            after_dash dash.0 dash.1,
            c.with_dash-items.ensures inv.0 dash.0 dash.1 items,
            inv.3 ∙ goes_read (with_characters trees) are c.args.negated c.args.from c.args.first l.read c.args.text.now rest inv.0 inv.0 inv.1
                (after_dash dash.0 dash.1) 1 c.split_at.ensures.back (sym dash.3),
          );
    }

pub overflow_add-at-in-End : goal.overflow_add-at-in-End
overflow_add-at-in-End c =
    let l = c.loop-items in
    let at = c.args.first + l.read in
    let rest = c.split_at.result.1.now in
    let here = drop l.read c.args.text.now in
    let inv = l.invariant.same the_trees the_trees_are in
    let step = rw c.in-End.is at c.in_ok-elem.ensures the_trees inv.0 inv.1 (c.is_after_elem.ensures inv.1 inv.2.1) in
    let some = end_some the_trees c.args.from at rest inv.0 inv.1 step in
    let len = c.split_at.ensures.back_len in
    search rules

pub returns-in_err-all-in-End : goal.returns-in_err-all-in-End
returns-in_err-all-in-End c =
    let p = err_from_is_err_and c.from_residual-in_err-all-in-End.result c.from_residual-in_err-all-in-End.ensures.1 in
    let l = c.loop-items in
    let at = c.args.first + l.read in
    let rest = c.split_at.result.1.now in
    let here = drop l.read c.args.text.now in
    λ trees are.
    let inv = l.invariant.same trees are in
    let step = rw c.in-End.is at c.in_ok-elem.ensures trees inv.0 inv.1 (c.is_after_elem.ensures inv.1 inv.2.1) in
    rw (p.1, p.2) (whole_fails trees c.in_err-all-in-End.field-0.0 (takes_end at inv.0 inv.1) _ (c.in_err-all-in-End.ensures inv.0 inv.1 inv.2)
    (λ is. inv.3 ∙ sym (fails_read (with_characters trees) are c.args.negated c.args.from at here rest inv.0 inv.1 c.in_err-all-in-End.field-0.0 c.split_at.ensures.back (sym (step ∙ is)))))

pub returns-in-End : goal.returns-in-End
returns-in-End c =
    let l = c.loop-items in
    let at = c.args.first + l.read in
    let rest = c.split_at.result.1.now in
    let here = drop l.read c.args.text.now in
    λ trees are.
    let inv = l.invariant.same trees are in
    let step = rw c.in-End.is at c.in_ok-elem.ensures trees inv.0 inv.1 (c.is_after_elem.ensures inv.1 inv.2.1) in
    let all = c.in_ok-all-in-End.ensures inv.0 inv.1 inv.2 in
    subst (IsClassRead trees c.close.result)
    (closes_read (with_characters trees) are c.args.negated c.args.from at here rest inv.0 all.0 inv.1 c.split_at.ensures.back (sym (step ∙ all.2)) ∙ sym inv.3)
    (c.close.ensures trees are all.0 all.1)
