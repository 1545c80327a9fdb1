use Rattle.std.proofs.Common.{◌≡◌, ℕ, suc, ◌+◌, List, Option, length, take, ap, ◌∙◌, arith}
use Rattle.std.proofs.lemmas.List.{take_all}
use Rattle.serde_json.specs.Data.{Data, Members, object, put}
use Rattle.serde_json.proofs.Views.{view-Object}
use Rattle.serde_json.specs.View.{view, members_view}
use Rattle.span_core.specs.declared.span.Span.{Span}
use Rattle.cell_text.specs.Cells.{ends_by}
use Rattle.row_writer.specs.JsonLines.{json_members, json_cell}
use Rattle.row_writer.proofs.Fields.{all_at}
use Rattle.row_writer.proofs.Members.{put_next}
use Rattle.row_writer.proofs.json_lines.json_object.Goals as goal

pub json_cell-requires : goal.json_cell-requires
json_cell-requires c = all_at (ends_by (length c.args.doc.now)) c.args.row.now c.loop-k.k c.at.result c.at.ensures c.requires.inside

pub loop-k-preserved : goal.loop-k-preserved
loop-k-preserved c =
    let k = c.loop-k.k in
    let x = c.at-in-loop-k.result.now in
    let next : suc k ≡ k + 1 = omega arith in
    c.in_ok-put.ensures.ok
    ∙ ap (λ (n : List ℕ). put n (view c.in_ok-cell.cell) (members_view c.loop-k.members.entries)) c.as_str.ensures
    ∙ ap (λ (d : Data). put x d (members_view c.loop-k.members.entries)) c.in_ok-cell.ensures
    ∙ ap (λ (ms : Members). put x (json_cell c.args.doc.now c.args.texts c.at.result) ms) c.loop-k.invariant
    ∙ put_next c.args.doc.now c.args.texts c.args.vars.now c.args.row.now k x c.at.result c.len-k-end.ensures.ascending c.at-in-loop-k.ensures.value c.at.ensures
    ∙ ap (λ (n : ℕ). json_members c.args.doc.now c.args.texts (take n c.args.vars.now) (take n c.args.row.now)) next

pub returns : goal.returns
returns c =
    let k = c.loop-k.k in
    let names : take k c.args.vars.now ≡ c.args.vars.now = take_all k c.args.vars.now (omega arith) in
    let spans : take k c.args.row.now ≡ c.args.row.now = take_all k c.args.row.now (omega arith) in
    let whole = c.loop-k.invariant ∙ ap (λ (v : List (List ℕ)). json_members c.args.doc.now c.args.texts v (take k c.args.row.now)) names ∙
    ap (λ (r : List (Option Span)). json_members c.args.doc.now c.args.texts c.args.vars.now r) spans in
    view-Object c.loop-k.members ∙ ap object whole
