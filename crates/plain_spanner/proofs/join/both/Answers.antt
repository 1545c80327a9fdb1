use Rattle.std.proofs.Common.{◌≤◌, length, arith}
use Rattle.plain_spanner.specs.Tables.{merged}
use Rattle.plain_spanner.proofs.RowLaws.{row_pushed, row_whole, row_so_far}
use Rattle.plain_spanner.proofs.join.both.Goals as goal

pub push-requires : goal.push-requires
push-requires c =
    let names = c.args.names.now in
    let le : c.loop-k.k ≤ length names = omega arith in
    let m = merged c.args.left_names.now c.args.right_names.now c.args.left.now c.args.right.now in
    let long = row_so_far names c.loop-k.k m c.loop-k.row le c.loop-k.invariant in
    omega (arith, long)

pub loop-k-preserved : goal.loop-k-preserved
loop-k-preserved c =
    let names = c.args.names.now in
    let m = merged c.args.left_names.now c.args.right_names.now c.args.left.now c.args.right.now in
    row_pushed names c.loop-k.k c.at.result.now m c.loop-k.row c.push.new.self c.span_in_either.result c.at.ensures.value c.loop-k.invariant c.span_in_either.ensures c.push.ensures

pub returns : goal.returns
returns c = row_whole c.args.names.now c.loop-k.k (merged c.args.left_names.now c.args.right_names.now c.args.left.now c.args.right.now) c.loop-k.row (omega arith) c.loop-k.invariant
