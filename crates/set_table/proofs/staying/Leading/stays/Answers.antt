use Rattle.std.proofs.Common.{◌≡◌, ◌∙◌, ◌<◌, ap, arith, get_or, length}
use Rattle.set_table.proofs.StayingLaws.{met_more, met_told}
use Rattle.set_table.proofs.staying.Leading.stays.Goals as goal

pub loop-bytes-preserved : goal.loop-bytes-preserved
loop-bytes-preserved c =
    let within : c.loop-bytes.bytes-index < length c.args.self.now.to_members.items = omega (arith, c.loop-bytes-test.true, ap length c.as_slice-bytes-items.ensures.value) in
    met_more c.args.self.now.to_members.items c.loop-bytes.bytes-index c.bytes-item.result c.loop-bytes.stays c.meet-stays.result within
    (c.bytes-item.is ∙ ap (λ xs. get_or xs c.loop-bytes.bytes-index c.bytes-item.result) c.as_slice-bytes-items.ensures.value) c.meet-stays.ensures c.loop-bytes.invariant

pub returns : goal.returns
returns c =
    let all : c.loop-bytes.bytes-index ≡ length c.args.self.now.to_members.items =
    omega (arith, c.loop-bytes-test.false, c.loop-bytes.auto.bytes-index-end, ap length c.as_slice-bytes-items.ensures.value) in
    met_told c.args.self.now c.loop-bytes.bytes-index c.loop-bytes.stays c.without.result c.requires all c.loop-bytes.invariant c.without.ensures
