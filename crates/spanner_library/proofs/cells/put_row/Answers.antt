use Rattle.std.proofs.Common.{◌≡◌, ◌+◌, ◌*◌, ◌∙◌, arith}
use Rattle.spanner_library.proofs.CellLaws.{at_index, behind_further, put_further}
use Rattle.spanner_library.proofs.cells.put_row.Goals as goal

pub loop-k-preserved : goal.loop-k-preserved
loop-k-preserved c =
    let place : c.args.at + 2 * (c.loop-k.k + 1) ≡ c.args.at + 2 * c.loop-k.k + 2 = omega arith in
    let spans = c.args.spans.now in
    let k = c.loop-k.k in
    let here = at_index spans k c.index-spans-k.result c.loop-k-test.true c.index-spans-k.is in
    record {
      within = omega (arith, c.loop-k-test.true);
      len = c.put_span.ensures.len ∙ c.loop-k.invariant.len;
      put = put_further c.args.out.now c.loop-k.out c.put_span.new.out c.args.at k spans c.index-spans-k.result here c.loop-k.invariant.put c.put_span.ensures.put;
      behind = behind_further c.args.out.now c.loop-k.out c.put_span.new.out (c.args.at + 2 * k) 2 (c.args.at + 2 * (k + 1)) place c.loop-k.invariant.behind c.put_span.ensures.behind;
    }
