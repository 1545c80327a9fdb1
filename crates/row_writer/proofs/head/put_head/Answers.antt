use Rattle.std.proofs.Common.{ℕ, List, Some, take, sym, ap, ◌∙◌, subst, length, arith, ◌≤◌}
use Rattle.span_core.specs.declared.TheConstants.{MOST_NAME_BYTES}
use Rattle.span_core.proofs.ListLaws.{at_drop}
use Rattle.row_writer.proofs.Fields.{field_more, name_short}
use Rattle.row_writer.proofs.head.put_head.Goals as goal

pub loop-k-preserved : goal.loop-k-preserved
loop-k-preserved c =
    let name = c.as_bytes-in-loop-k.result.now in
    let short : length name ≤ MOST_NAME_BYTES = subst (λ (n : List ℕ). length n ≤ MOST_NAME_BYTES) (sym c.as_bytes-in-loop-k.ensures.value)
    (name_short c.at-in-loop-k.result.now c.as_bytes-in-loop-k.ensures.named) in
    record {
      written = field_more 9 (take c.loop-k.end c.loop-k.buffer) (take c.put_byte-end.result c.put_byte-end.new.buffer)
          (take c.put_bytes-end-in-loop-k.result c.put_bytes-end-in-loop-k.new.buffer) name _ _ _
          c.put_byte-end.ensures.text c.put_bytes-end-in-loop-k.ensures.text
          (at_drop c.args.vars.now c.loop-k.k name (c.at-in-loop-k.ensures.value ∙ ap Some (sym c.as_bytes-in-loop-k.ensures.value))) c.loop-k.invariant.written;
      room = omega (arith, c.loop-k.invariant.room, c.put_byte-end.ensures.end, c.put_bytes-end-in-loop-k.ensures.end, short);
    }
