use Rattle.std.proofs.Common.{rules, arith, ◌≡◌, ◌-◌, ◌++◌, take, drop}
use Rattle.rm_outside.proofs.InputLaws.{part_ended, part_open, window_long}
use Rattle.rm_outside.proofs.line_input.LineInput.take_part.Goals as goal

pub returns-then-length-limit-clause-fault : goal.returns-then-length-limit-clause-fault
returns-then-length-limit-clause-fault g c =
    (omega arith, window_long _ _ _ _ _ _ _ c.deref.ensures.value c.line_length-length.ensures.value c.if-length-limit.true)

pub returns-then-at-self-clause-part : goal.returns-then-at-self-clause-part
returns-then-at-self-clause-part g c =
    let s = c.args.self.now in
    let n = c.line_length-length.result in
    let put : c.extend_from_slice.new.self.items ≡ c.args.into.now.items ++ take n (take (s.end - s.start) (drop s.start c.deref.result.now)) = search rules in
    part_ended _ _ _ _ _ _ _ c.deref.ensures.value c.line_length-length.ensures.value _ _ (omega arith) c.if-length-limit.false c.if-at-self.true put

pub returns-clause-part : goal.returns-clause-part
returns-clause-part g c =
    let s = c.args.self.now in
    let n = c.line_length-length.result in
    let put : c.extend_from_slice.new.self.items ≡ c.args.into.now.items ++ take n (take (s.end - s.start) (drop s.start c.deref.result.now)) = search rules in
    part_open _ _ _ _ _ _ _ c.deref.ensures.value c.line_length-length.ensures.value _ _ (omega arith) c.line_length-length.ensures.within c.if-length-limit.false
    c.requires.some c.if-at-self.false put
