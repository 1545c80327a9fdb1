use Rattle.std.proofs.Common.{◌≡◌, ℕ, List, sym, ap, ◌∙◌, arith}
use Rattle.row_writer.specs.Kept.{Field, head_with}
use Rattle.row_writer.proofs.Keeping.{parts_end}
use Rattle.row_writer.proofs.field.Field.renew_end.Goals as goal

pub invariant_of-self : goal.invariant_of-self
invariant_of-self c =
    let f = c.self.inside in
    let i = c.self.invariant in
    let same : f.span.start ≡ c.args.span.start = ap (λ (k : Field). k.span.start) c.self.view_is ∙ sym c.requires in
    let t = parts_end _ i.front (rw same at i.half) c.put_number-len.ensures.text i.opened i.before (omega arith) in
    record {
      short = i.short;
      near = i.near;
      middle = omega arith;
      few = omega arith;
      opened = i.opened;
      before = omega arith;
      room = omega arith;
      front = t.front;
      half = t.half;
      all = λ is. t.all;
    }

pub returns-clause-head : goal.returns-clause-head
returns-clause-head c =
    let f = c.self.inside in
    let i = c.self.invariant in
    let same : f.span.start ≡ c.args.span.start = ap (λ (k : Field). k.span.start) c.self.view_is ∙ sym c.requires in
    let t = parts_end _ i.front (rw same at i.half) c.put_number-len.ensures.text i.opened i.before (omega arith) in
    ap (λ (xs : List ℕ). head_with xs f.style) t.same ∙ ap (λ (k : Field). k.head) c.self.view_is
