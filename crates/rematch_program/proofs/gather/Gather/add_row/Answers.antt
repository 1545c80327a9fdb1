use Rattle.std.proofs.Common.{◌≡◌, ◌≤◌, ◌++◌, length, take, drop, ap, ◌∙◌, arith}
use Rattle.std.proofs.lemmas.List.{take_at}
use Rattle.row_writer.specs.Kept.{kept_text}
use Rattle.row_writer.proofs.Keeping.{front_kept}
use Rattle.rematch_program.proofs.Gathers.{part_more}
use Rattle.rematch_program.proofs.gather.Gather.add_row.Goals as goal

pub returns-in-Err-clause-part : goal.returns-in-Err-clause-part
returns-in-Err-clause-part g c =
    let line = kept_text c.args.line.now c.args.spans.now c.args.document.now c.args.texts in
    let end = c.self.inside.end in
    let same : end ≤ end = omega arith in
    let up : end ≤ c.put-end.result = omega arith in
    let inside : end ≤ length c.as_mut_slice.result.now = omega arith in
    let front : take end c.put-end.new.buffer ≡ c.args.self.now =
    front_kept end end c.put-end.result c.as_mut_slice.result.now c.put-end.new.buffer line same up inside c.put-end.ensures.text ∙ ap (take end) c.as_mut_slice.ensures.value ∙ c.self.view_is in
    let buffer = c.put-end.new.buffer in
    let whole = take c.self.inside.bytes.len (buffer ++ drop (length buffer) c.self.inside.bytes.items) in
    let long : length buffer ≡ c.self.inside.bytes.len = omega arith in
    let back : whole ≡ buffer = take_at buffer (drop (length buffer) c.self.inside.bytes.items) c.self.inside.bytes.len long in
    rw (← ap (take end) back ∙
    front) (part_more _ _ (take end whole) line c.in-Err.ensures.part)
