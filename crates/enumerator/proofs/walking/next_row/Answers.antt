use Rattle.std.proofs.Common.{◌≡◌, ◌∷◌, ◌∙◌, sym, ap, arith}
use Rattle.enumerator.specs.declared.positions.ReadRow.{ReadRow}
use Rattle.enumerator.specs.Enumeration.{SpanRow}
use Rattle.enumerator.specs.Rows.{positions_of, put, waiting_rows}
use Rattle.enumerator.proofs.Walk.{top_done, top_few, top_leaf, top_child, top_waits, top_below, top_left}
use Rattle.enumerator.proofs.walking.next_row.Goals.{then-is_done+then-number+else-put_end, else-is_done}
use Rattle.enumerator.proofs.walking.next_row.Goals as goal

pub returns-in_default-entry : goal.returns-in_default-entry
returns-in_default-entry g c =
    let t = top_done c.args.lists.now.store c.args.v (positions_of c.args.row.now.positions) _ _ _ c.in-Some.ensures c.requires.stacked c.in_default-entry.not-Row in
    record {
      stacked = t.1;
      row = c.read_spans.ensures;
      next = t.0 ∙ ap (λ (r : SpanRow). r ∷ waiting_rows c.args.lists.now.store c.args.v (positions_of c.args.row.now.positions) c.pop.new.self) (sym c.read_spans.ensures);
      none = tt;
      steps = omega arith;
    }

pub wait-requires : goal.wait-requires
wait-requires g c =
    let P = positions_of c.args.row.now.positions in
    let n = top_few c.args.lists.now.store c.args.v P _ _ _ c.in-Some.ensures c.requires.stacked c.requires.sound.made _ _ c.at-cell.ensures.row c.in-Row.is in
    let few = c.requires.few in
    omega arith

pub returns-then-put_end-clause-stacked : goal.returns-then-put_end-clause-stacked
returns-then-put_end-clause-stacked g c =
    let P = positions_of c.args.row.now.positions in
    let store = c.args.lists.now.store in
    rw (c.wait.ensures)
    (top_leaf store c.args.v P _ _ _ c.in-Some.ensures c.requires.stacked c.requires.sound.made _ _ c.at-cell.ensures.row c.in-Row.is c.if-is_done.ensures).1

pub returns-then-put_end-clause-next : goal.returns-then-put_end-clause-next
returns-then-put_end-clause-next g c =
    let P = positions_of c.args.row.now.positions in
    let store = c.args.lists.now.store in
    let new : positions_of c.put_end.new.positions ≡ put (positions_of c.args.row.now.positions) (c.at-cell.result.at, c.at-cell.result.marks) = λ i bit. c.if-put_end.ensures.put bit i in
    rw (c.if-put_end.ensures.row, new, c.with-begun.ensures, c.wait.ensures)
    (top_leaf store c.args.v P _ _ _ c.in-Some.ensures c.requires.stacked c.requires.sound.made _ _ c.at-cell.ensures.row c.in-Row.is c.if-is_done.ensures).0

pub returns-then-put_end-clause-steps : goal.returns-then-put_end-clause-steps
returns-then-put_end-clause-steps g c =
    let P = positions_of c.args.row.now.positions in
    let n = top_few c.args.lists.now.store c.args.v P _ _ _ c.in-Some.ensures c.requires.stacked c.requires.sound.made _ _ c.at-cell.ensures.row c.in-Row.is in
    omega (arith, c.at-cell.ensures.steps)

pub settle-settled-requires-clause-waits : goal.settle-settled-requires-clause-waits
settle-settled-requires-clause-waits g c =
    let P = positions_of c.args.row.now.positions in
    let store = c.args.lists.now.store in
    rw (c.with-begun.ensures) (top_waits store c.args.v P _ _ _ c.in-Some.ensures c.requires.stacked c.requires.sound.made _ _ c.at-cell.ensures.row c.in-Row.is)

pub settle-settled-requires-clause-below : goal.settle-settled-requires-clause-below
settle-settled-requires-clause-below g c =
    let P = positions_of c.args.row.now.positions in
    let store = c.args.lists.now.store in
    rw (c.with-begun.ensures, c.wait.ensures)
    (top_below store c.args.v P _ _ _ c.in-Some.ensures c.requires.stacked c.requires.sound.made _ _ c.at-cell.ensures.row c.in-Row.is)

pub returns-clause-next : goal.returns-clause-next
returns-clause-next g c =
    let store = c.args.lists.now.store in
    let before = c.args.row.now.positions in
    let kept : c.if-is_done.row.positions ≡ before = elim c.if-is_done.branch as (λ _. c.if-is_done.row.positions ≡ before) [
      | then-is_done+then-number+else-put_end w ↦ ap (λ (r : ReadRow). r.positions) w.row-is ∙ w.if-put_end.ensures.same.0
      | else-is_done w ↦ ap (λ (r : ReadRow). r.positions) w.row-is
    ] in
    let new : positions_of c.place.new.positions ≡ put (positions_of before) (c.at-cell.result.at, c.at-cell.result.marks) =
    λ i bit. (c.place.ensures bit ∙ ap (λ ps. put (positions_of ps) (c.at-cell.result.at, c.at-cell.result.marks) bit) kept) i in
    let row = rw (new, c.with-begun.ensures, c.wait.ensures) at c.settle-settled.ensures.row in
    top_child store c.args.v (positions_of before) _ _ _ c.in-Some.ensures c.requires.stacked c.requires.sound.made _ _ c.at-cell.ensures.row c.in-Row.is ∙ row
    ∙ ap (λ (r : SpanRow). r ∷ waiting_rows store c.args.v (positions_of c.settle-settled.new.positions) c.settle-settled.new.stack) (sym c.read_spans-2.ensures)

pub returns-clause-steps : goal.returns-clause-steps
returns-clause-steps g c =
    let P = positions_of c.args.row.now.positions in
    let n = top_left c.args.lists.now.store c.args.v P _ _ _ c.in-Some.ensures c.requires.stacked c.requires.sound.made _ _ c.at-cell.ensures.row c.in-Row.is in
    let m = rw (c.with-begun.ensures) at c.settle-settled.ensures.steps in
    omega (arith, c.at-cell.ensures.steps, m)
