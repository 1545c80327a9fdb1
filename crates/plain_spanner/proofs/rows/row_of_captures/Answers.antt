use Rattle.std.proofs.Common.{◌≤◌, length, arith}
use Rattle.spanner_model.specs.Captures.{span_of}
use Rattle.plain_spanner.proofs.RowLaws.{row_pushed, row_whole, row_so_far}
use Rattle.plain_spanner.proofs.rows.row_of_captures.Goals as goal

pub push-requires : goal.push-requires
push-requires c =
    let names = c.args.names.now in
    let le : c.loop-k.k ≤ length names = omega arith in
    let long = row_so_far names c.loop-k.k (span_of c.args.captures.now) c.loop-k.row le c.loop-k.invariant in
    omega (arith, long)

pub loop-k-preserved : goal.loop-k-preserved
loop-k-preserved c =
    let names = c.args.names.now in
    let m = span_of c.args.captures.now in
    row_pushed names c.loop-k.k c.at.result.now m c.loop-k.row c.push.new.self c.find_span.result c.at.ensures.value c.loop-k.invariant c.find_span.ensures c.push.ensures

pub returns : goal.returns
returns c = row_whole c.args.names.now c.loop-k.k (span_of c.args.captures.now) c.loop-k.row (omega arith) c.loop-k.invariant
