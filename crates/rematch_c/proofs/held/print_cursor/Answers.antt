use Rattle.std.proofs.Common.{rules, ◌≡◌, length, ◌∙◌}
use Rattle.rematch_c.proofs.CallLaws.{printed, printed_no_room, printed_no_row, printed_other, printed_want}
use Rattle.rematch_c.proofs.held.print_cursor.Goals as goal

pub returns-in_default : goal.returns-in_default
returns-in_default c = printed_other c.args.held.now c.args.row.now c.args.text.now c.args.length.now c.in_default.not-Rows c.requires.none

pub returns-in_default-row_of : goal.returns-in_default-row_of
returns-in_default-row_of c =
    printed_no_row c.args.held.now c.in-Rows.rows c.args.row.now c.in-Rows.is c.args.text.now c.args.length.now c.requires.none c.in_default-row_of.ensures.none

pub returns-in_default-cursor : goal.returns-in_default-cursor
returns-in_default-cursor c = printed_want c.args.held.now c.in-Rows.rows c.args.row.now c.in-Rows.is c.args.text.now c.args.length.now c.requires.none

pub returns-then-count-text : goal.returns-then-count-text
returns-then-count-text c =
    let counted : c.len-count.result ≡ length c.in-Ok.cursor.items = search rules in
    printed_no_room c.args.held.now c.in-Rows.rows c.args.row.now c.in-Rows.is c.in-Some.row c.in-Ok.cursor.items c.args.text.now c.len-count.result c.in-Some.ensures.some c.in-Ok.ensures
    counted (search rules)

pub returns : goal.returns
returns c =
    let counted : c.len-count.result ≡ length c.in-Ok.cursor.items = search rules in
    printed c.args.held.now c.in-Rows.rows c.args.row.now c.in-Rows.is c.in-Some.row c.in-Ok.cursor.items c.args.text.now c.copy_from_slice.new.self c.len-count.result c.in-Some.ensures.some
    c.in-Ok.ensures counted (c.copy_from_slice.ensures.after ∙ c.deref.ensures.value) (search rules)
