use Rattle.std.proofs.Common.{◌∙◌, sym, arith, length-set}
use Rattle.node_arena.specs.Rows.{named_row}
use Rattle.enumerator.proofs.EndsLaws.{taken_more}
use Rattle.enumerator.proofs.ends.take_ends.Goals as goal

pub loop-count-preserved : goal.loop-count-preserved
loop-count-preserved g c =
    let inv = c.loop-count.invariant in
    let t = rw c.in-Row.is at inv.0 in
    let few = c.requires.most in
    let long = inv.2 in
    let step = c.at-cell.ensures.steps in
    let same = sym c.number.ensures ∙ c.if-number.false ∙ c.number-in-loop-count.ensures in (
      taken_more c.args.lists.now.store c.requires.sound.made c.args.v c.args.before c.args.marks c.args.start c.args.entry c.loop-count.ends c.loop-count.count c.loop-count.last
          c.in-Row.id (named_row c.in-Row.id c.at-cell.result) t c.at-cell.ensures.row c.if-not-is_done.ensures same (omega arith) (omega arith),
      omega arith,
      length-set c.loop-count.ends c.loop-count.count c.at-cell.result.at ∙ long,
      omega arith,
      omega arith,
    )
