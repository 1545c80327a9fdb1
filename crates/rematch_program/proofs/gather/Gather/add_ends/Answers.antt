use Rattle.std.proofs.Common.{◌≡◌, ◌≤◌, ◌++◌, length, take, drop, ap, ◌∙◌, arith}
use Rattle.std.proofs.lemmas.List.{take_at}
use Rattle.row_writer.proofs.Keeping.{front_kept}
use Rattle.rematch_program.specs.Kept.{ends_text}
use Rattle.rematch_program.proofs.Gathers.{part_more}
use Rattle.rematch_program.proofs.gather.Gather.add_ends.Goals as goal

pub returns-in-Err-clause-part : goal.returns-in-Err-clause-part
returns-in-Err-clause-part g c =
    let line = ends_text c.args.line.now c.args.of.now.spans.now c.args.of.now.place c.args.of.now.document.now c.args.of.now.ends.now in
    let end = c.self.inside.end in
    let same : end ≤ end = omega arith in
    let up : end ≤ c.in-Some.end = omega arith in
    let inside : end ≤ length c.as_mut_slice-buffer.result.now = omega arith in
    let front : take end c.put_ends.new.buffer ≡ c.args.self.now =
    front_kept end end c.in-Some.end c.as_mut_slice-buffer.result.now c.put_ends.new.buffer line same up inside c.in-Some.ensures.text
    ∙ ap (take end) c.as_mut_slice-buffer.ensures.value ∙ c.self.view_is in
    let buffer = c.put_ends.new.buffer in
    let whole = take c.self.inside.bytes.len (buffer ++ drop (length buffer) c.self.inside.bytes.items) in
    let long : length buffer ≡ c.self.inside.bytes.len = omega arith in
    let back : whole ≡ buffer = take_at buffer (drop (length buffer) c.self.inside.bytes.items) c.self.inside.bytes.len long in
    rw (← ap (take end) back ∙ front) (part_more _ _ (take end whole) line c.in-Err.ensures.part)
