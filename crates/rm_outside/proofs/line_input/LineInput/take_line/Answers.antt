use Rattle.std.proofs.Common.{rules, refl}
use Rattle.rm_outside.proofs.InputLaws.{at_the_end, kept_taking, line_taken, more_taken, refused_taking, too_long}
use Rattle.rm_outside.proofs.line_input.LineInput.take_line.Goals as goal

pub returns-then-part-clause-line : goal.returns-then-part-clause-line
returns-then-part-clause-line g c =
    let part = rw c.in-Ok-Some.field-0-is at c.in-Ok-Some.ensures.next in
    line_taken _ _ _ _ _ _ c.loop-part.invariant.taking _ _ _ (rw c.if-part.true at part)

pub loop-part-preserved : goal.loop-part-preserved
loop-part-preserved g c =
    let part = rw c.in-Ok-Some.field-0-is at c.in-Ok-Some.ensures.next in
    record {
      taking = more_taken _ _ _ _ _ _ c.loop-part.invariant.taking _ _ _ (rw c.if-part.false at part);
      later = search rules;
    }

pub returns-in-Ok-None-clause-line : goal.returns-in-Ok-None-clause-line
returns-in-Ok-None-clause-line g c =
    let none = rw c.in-Ok-None.field-0-is at c.in-Ok-None.ensures.next in
    let taking = kept_taking _ _ _ _ _ _ c.loop-part.invariant.taking _ none.kept in
    rw none.same (at_the_end _ _ _ _ _ _ taking _ refl none.end)

pub returns-in-Err-clause-fault : goal.returns-in-Err-clause-fault
returns-in-Err-clause-fault g c = too_long _ _ _ _ _ _ c.loop-part.invariant.taking _ c.in-Err.ensures.fault

pub returns-in-Err-clause-refused : goal.returns-in-Err-clause-refused
returns-in-Err-clause-refused g c = refused_taking _ _ _ _ _ _ c.loop-part.invariant.taking _ _ _ (search rules) (search rules) c.in-Err.ensures.refused
