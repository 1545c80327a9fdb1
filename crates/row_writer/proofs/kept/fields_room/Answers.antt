use Rattle.std.proofs.Common.{refl, ◌≡◌, true, get_or, ap, ◌∙◌, arith}
use Rattle.row_writer.specs.declared.style.Style.{Style}
use Rattle.row_writer.specs.Kept.{Field, quote_room}
use Rattle.row_writer.proofs.Keeping.{no_heads, room_next}
use Rattle.row_writer.proofs.kept.fields_room.Goals as goal

pub loop-k-preserved : goal.loop-k-preserved
loop-k-preserved c =
    let i = c.loop-k.invariant in
    let k = c.loop-k.k in
    let field = c.index-fields-k.result in
    let step = room_next true c.args.fields.now c.args.spans.now k field refl (omega arith) (omega arith) c.index-spans-k.is in
    let style : c.style.result ≡ (get_or c.args.fields.now k field).head.style = c.style.ensures ∙ ap (λ (f : Field). f.head.style) c.index-fields-k.is in
    let room = ap (λ (s : Style). quote_room s true c.index-spans-k.result) style in
    record {
      counted = omega (arith, i.counted, c.field_room-room.ensures.value, step, room);
      few = omega (arith, i.few, c.field_room-room.ensures.few);
    }

pub returns : goal.returns
returns c =
    let left = rw (no_heads c.args.fields.now c.loop-k.k (omega arith)) at c.loop-k.invariant.counted in
    omega (arith, left)
