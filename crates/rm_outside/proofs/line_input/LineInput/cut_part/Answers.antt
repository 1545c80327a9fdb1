use Rattle.std.proofs.Common.{arith}
use Rattle.rm_outside.proofs.PartLaws.{cut_ended, cut_long, cut_whole}
use Rattle.rm_outside.proofs.line_input.LineInput.cut_part.Goals as goal

pub returns-then-length-limit-clause-fault : goal.returns-then-length-limit-clause-fault
returns-then-length-limit-clause-fault g c =
    (omega arith, cut_long _ _ _ _ _ _ c.deref.ensures.value c.line_length-length.ensures.value c.if-length-limit.true)

pub returns-then-length-piece-clause-part : goal.returns-then-length-piece-clause-part
returns-then-length-piece-clause-part g c =
    let s = c.args.self.now in
    cut_whole _ _ _ _ _ _ c.deref.ensures.value c.line_length-length.ensures.value s.start s.end s.buffer.items c.requires.used c.if-length-limit.false c.if-length-piece.true (omega arith)

pub returns-clause-part : goal.returns-clause-part
returns-clause-part g c =
    rw c.hold.ensures.from
    (cut_ended _ _ _ _ _ _ c.deref.ensures.value c.line_length-length.ensures.value _ _ c.if-length-limit.false c.line_length-length.ensures.within c.if-length-piece.false
    c.truncate.ensures.items c.hold.ensures.held)
