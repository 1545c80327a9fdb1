use Rattle.std.proofs.Common.{ℕ, List, sym, ap, ◌∙◌, append-nil, arith}
use Rattle.row_writer.specs.Kept.{Field, head_with}
use Rattle.row_writer.proofs.Keeping.{parts_renewed}
use Rattle.row_writer.proofs.field.Field.renew_start.Goals as goal

pub invariant_of-self : goal.invariant_of-self
invariant_of-self c =
    let i = c.self.invariant in
    let t = parts_renewed _ _ _ _ i.front c.put_number-end.ensures.text (rw c.sign.ensures at c.put_byte-middle.ensures.text) (sym (append-nil _))
    i.opened (omega arith) (omega arith) (omega arith) in
    record {
      short = i.short;
      near = i.near;
      middle = omega arith;
      few = i.few;
      opened = i.opened;
      before = omega arith;
      room = omega arith;
      front = t.front;
      half = t.half;
      all = λ is. absurd (cc);
    }

pub returns-clause-head : goal.returns-clause-head
returns-clause-head c =
    let i = c.self.invariant in
    let t = parts_renewed _ _ _ _ i.front c.put_number-end.ensures.text (rw c.sign.ensures at c.put_byte-middle.ensures.text) (sym (append-nil _))
    i.opened (omega arith) (omega arith) (omega arith) in
    ap (λ (xs : List ℕ). head_with xs c.self.inside.style) t.same ∙ ap (λ (k : Field). k.head) c.self.view_is
