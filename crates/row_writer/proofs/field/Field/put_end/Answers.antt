use Rattle.std.proofs.Common.{◌≡◌, ◌+◌, ◌∙◌, ◌++◌, ◌∷◌, [], ap, sym, List, ℕ, take, Some, append_assoc, arith}
use Rattle.std.specs.Fmt.{decimal}
use Rattle.row_writer.proofs.Keeping.{behind_opening, front_written}
use Rattle.row_writer.specs.Kept.{Field}
use Rattle.row_writer.specs.KeptField.{cell_front, numbers, opening, sign}
use Rattle.row_writer.proofs.field.Field.put_end.Goals as goal

pub invariant_of-self : goal.invariant_of-self
invariant_of-self c =
    let f = c.self.inside in
    let i = c.self.invariant in
    let same : f.span.start ≡ c.args.span.start = ap (λ (k : Field). k.span.start) c.self.view_is ∙ sym c.requires.start in
    record {
      short = i.short;
      near = i.near;
      middle = i.middle;
      few = i.few;
      opened = i.opened;
      before = i.before;
      room = i.room;
      front = i.front;
      half = i.half ∙ ap (λ (n : ℕ). take f.first f.bytes ++ (decimal n ++ sign f.style ∷ [])) same;
      all = λ is. absurd (cc);
    }

pub returns-clause-text : goal.returns-clause-text
returns-clause-text c =
    let f = c.self.inside in
    let i = c.self.invariant in
    let before = take c.args.at c.args.buffer.now in
    let end = decimal c.args.span.end in
    let start = decimal f.span.start ++ sign f.style ∷ [] in
    let front = take f.first f.bytes in
    let same : f.span.start ≡ c.args.span.start = ap (λ (k : Field). k.span.start) c.self.view_is ∙ sym c.requires.start in
    let half : take (c.args.at + f.middle) c.put_bytes-whole.new.buffer ≡ before ++ (front ++ start) =
    front_written c.args.at f.middle c.put_bytes-whole.result c.args.buffer.now c.put_bytes-whole.new.buffer f.bytes (front ++ start) (omega arith)
    (omega arith) c.put_bytes-whole.ensures.text i.half in
    c.put_number.ensures.text
    ∙ ap (λ (xs : List ℕ). xs ++ end) half
    ∙ append_assoc before (front ++ start) end
    ∙ ap (λ (xs : List ℕ). before ++ xs) (append_assoc front start end)
    ∙ ap (λ (xs : List ℕ). before ++ (front ++ xs)) (append_assoc (decimal f.span.start) (sign f.style ∷ []) end)
    ∙ ap (λ (n : ℕ). before ++ (front ++ (decimal n ++ sign f.style ∷ end))) same
    ∙ ap (λ (xs : List ℕ). before ++ xs) (behind_opening front (take f.head f.bytes) (opening f.style) (numbers f.style c.args.span) i.front)
    ∙ ap (λ (k : Field). before ++ (k.head.before ++ cell_front k.head.style (Some c.args.span))) c.self.view_is
