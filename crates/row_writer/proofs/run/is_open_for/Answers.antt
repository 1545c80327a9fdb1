use Rattle.std.proofs.Common.{◌<◌, ◌≤◌, length, arith}
use Rattle.row_writer.proofs.RowsBeside.{found}
use Rattle.row_writer.proofs.EndsLines.{alike_with}
use Rattle.row_writer.proofs.run.is_open_for.Goals as goal

pub returns : goal.returns
returns c =
    let last = c.args.last.now in
    let row = c.args.spans.now in
    let k = c.args.beside.place in
    let within : k < length row = omega (arith, c.if-open_place-place.false) in
    let low : k ≤ c.alike.result = omega (arith, c.if-alike-place.false) in
    record {
      same_place = omega arith;
      before = c.in-Some.before;
      was = found last k c.in-Some.before _ (omega (arith, within, c.requires.lengths)) c.in-Some.is;
      start = omega (arith, c.if-before-beside.false);
      others = λ x. alike_with last row k x c.requires.lengths (λ j l. c.alike.ensures j (omega (arith, l, low))) c.if-not-are_same_behind.ensures;
    }
