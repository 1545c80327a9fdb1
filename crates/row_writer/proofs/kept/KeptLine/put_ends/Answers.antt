use Rattle.std.proofs.Common.{rules, ◌≡◌, ◌≤◌, ◌++◌, ℕ, List, length, take, false, ap, ◌∙◌, arith}
use Rattle.std.specs.List.{flat_map}
use Rattle.enumerator.specs.Ends.{row_to}
use Rattle.row_writer.specs.Kept.{Line, kept_text}
use Rattle.row_writer.proofs.Keeping.{front_kept, rises}
use Rattle.row_writer.proofs.EndsLines.{told_before}
use Rattle.row_writer.proofs.kept.KeptLine.put_ends.Goals as goal

pub returns-clause-end : goal.returns-clause-end
returns-clause-end c =
    let at = c.args.at in
    let b0 = c.put_open.new.buffer in
    let b1 = c.put_first-end.new.buffer in
    let inside : at ≤ length b0 = omega (arith, ap length c.in_default.ensures.end) in
    let up : at ≤ c.put_first-end.result = rises b0 b1 _ c.put_first-end.ensures.text inside in
    let same : at ≤ at = omega arith in
    let front : take at b1 ≡ take at c.args.buffer.now = front_kept at at c.put_first-end.result b0 b1 _ same up inside c.put_first-end.ensures.text ∙ ap (take at) c.in_default.ensures.end in
    told_before c.put_open-2.result c.put_open-2.ensures.end (λ e. ap (take at) e ∙ front) (λ e h. h)

pub returns-clause-text : goal.returns-clause-text
returns-clause-text c =
    let at = c.args.at in
    let b0 = c.put_open.new.buffer in
    let b1 = c.put_first-end.new.buffer in
    let inside : at ≤ length b0 = omega (arith, ap length c.in_default.ensures.end) in
    let up : at ≤ c.put_first-end.result = rises b0 b1 _ c.put_first-end.ensures.text inside in
    let same : at ≤ at = omega arith in
    let front : take at b1 ≡ take at c.args.buffer.now = front_kept at at c.put_first-end.result b0 b1 _ same up inside c.put_first-end.ensures.text ∙ ap (take at) c.in_default.ensures.end in
    let line : c.put_first-end.new.self ≡ c.args.self.now = search rules in
    let text : Line → List ℕ = λ kept. flat_map (λ end. kept_text kept (row_to c.args.spans.now c.args.place end) c.args.doc.now false) c.args.ends.now in
    told_before c.put_open-2.result c.put_open-2.ensures.text (λ e. ap (take at) e ∙ front)
    (λ e h. h ∙ ap (λ (xs : List ℕ). xs ++ text c.put_first-end.new.self) front ∙ ap (λ (kept : Line). take at c.args.buffer.now ++ text kept) line)
