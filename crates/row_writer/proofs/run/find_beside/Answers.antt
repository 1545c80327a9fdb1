use Rattle.std.proofs.Common.{◌<◌, length, Some, arith}
use Rattle.row_writer.proofs.RowsBeside.{found, same_but_at}
use Rattle.row_writer.proofs.run.find_beside.Goals as goal

pub returns : goal.returns
returns c =
    let last = c.args.last.now in
    let row = c.args.spans.now in
    let k = c.alike-place.result in
    let span = c.in-Some-spans.span in
    let within : k < length row = omega (arith, c.if-place-spans.false) in
    let now = found row k span _ within c.in-Some-spans.is in
    record {
      before = c.in-Some.before;
      was = found last k c.in-Some.before _ (omega (arith, within, c.requires.lengths)) c.in-Some.is;
      start = omega (arith, c.if-before-span.false);
      now = now;
      others = same_but_at last row k (Some span) c.requires.lengths within now c.alike-place.ensures c.if-not-are_same_behind.ensures;
    }
