use Rattle.std.proofs.Common.{◌≤◌, length, arith}
use Rattle.spanner_model.specs.Captures.{mapping_of}
use Rattle.plain_spanner.proofs.RowLaws.{row_pushed, row_whole, row_so_far}
use Rattle.plain_spanner.proofs.table.row_with.Goals as goal

pub push-requires : goal.push-requires
push-requires c =
    let others = c.args.others.now in
    let le : c.loop-k.k ≤ length others = omega arith in
    let long = row_so_far others c.loop-k.k (mapping_of c.args.names.now c.args.row.now) c.loop-k.result le c.loop-k.invariant in
    omega (arith, long)

pub loop-k-preserved : goal.loop-k-preserved
loop-k-preserved c =
    let m = mapping_of c.args.names.now c.args.row.now in
    row_pushed c.args.others.now c.loop-k.k c.at.result.now m c.loop-k.result c.push.new.self c.span_in.result c.at.ensures.value c.loop-k.invariant c.span_in.ensures c.push.ensures

pub returns : goal.returns
returns c = row_whole c.args.others.now c.loop-k.k (mapping_of c.args.names.now c.args.row.now) c.loop-k.result (omega arith) c.loop-k.invariant
