use Rattle.std.proofs.Common.{ℕ, List, ap, arith}
use Rattle.row_writer.specs.Kept.{head_with}
use Rattle.row_writer.proofs.Keeping.{parts_opened}
use Rattle.row_writer.proofs.field.Field.after.Goals as goal

pub invariant_of-result : goal.invariant_of-result
invariant_of-result c =
    let t = parts_opened c.args.head _ c.args.bytes _ _ _ c.put_opening-first.ensures.text c.put_number-end.ensures.text
    (rw c.sign.ensures at c.put_byte-middle.ensures.text) c.put_number-len.ensures.text (omega arith) (omega arith) (omega arith) (omega arith) in
    record {
      short = c.requires;
      near = omega arith;
      middle = omega arith;
      few = omega arith;
      opened = omega arith;
      before = omega arith;
      room = omega arith;
      front = t.front;
      half = t.half;
      all = λ is. t.all;
    }

pub returns : goal.returns
returns c =
    let t = parts_opened c.args.head _ c.args.bytes _ _ _ c.put_opening-first.ensures.text c.put_number-end.ensures.text
    (rw c.sign.ensures at c.put_byte-middle.ensures.text) c.put_number-len.ensures.text (omega arith) (omega arith) (omega arith) (omega arith) in
    ap (λ (xs : List ℕ). head_with xs c.args.style) t.same
