use Rattle.std.proofs.Common.{rules, arith, inl, inr}
use Rattle.spanner_model.specs.Passing.{known}
use Rattle.session_server.proofs.Lines.{NextReplied, ends_failed, ends_long, ends_many, ends_memory, ends_served, ends_write, next_replied, none_served, one_served}
use Rattle.rm_outside.proofs.FaultLaws.{rose_from}
use Rattle.session_server.proofs.serving.serve_on.Goals.{After-deref-in-loop-line}
use Rattle.session_server.proofs.serving.serve_on.Given.{Over}
use Rattle.session_server.proofs.serving.serve_on.Goals as goal

pub loop-line-init : goal.loop-line-init
loop-line-init g c = record {
  so_far = rw c.requires.none none_served;
  faults = omega arith;
  puts = omega arith;
}

pub returns-in-Ok-false : goal.returns-in-Ok-false
returns-in-Ok-false g c =
    let spent = rw c.in-Ok-false.field-0-test at c.in-Ok-false.ensures.asks in
    record { serves = ends_served c.loop-line.invariant.so_far spent.0 spent.1 (record { ends = c.fixed.ensures.status; says = c.fixed.ensures.note }) }

pub returns-in-Err-Failed : goal.returns-in-Err-Failed
returns-in-Err-Failed g c =
    let rose = rose_from _ _ _ c.loop-line.invariant.faults (c.in-Err-Failed.ensures.failed (search rules)) in
    record { serves = ends_failed c.loop-line.invariant.so_far rose (record { ends = c.fixed-in-Err-Failed.ensures.status; says = c.fixed-in-Err-Failed.ensures.note }) }

pub returns-in-Err-TooLong : goal.returns-in-Err-TooLong
returns-in-Err-TooLong g c =
    let asks = rw c.in-Err-TooLong.field-0-is at c.in-Err-TooLong.ensures.asks in
    record {
      serves = elim c.too_long.ensures [
        | inl is ↦ ends_long c.loop-line.invariant.so_far asks.1 is
        | inr is ↦ ends_memory c.loop-line.invariant.so_far is
      ];
    }

pub returns-in-Err-OutOfMemory : goal.returns-in-Err-OutOfMemory
returns-in-Err-OutOfMemory g c = record {
  serves = ends_memory c.loop-line.invariant.so_far (record { ends = c.out_of_memory.ensures.status; says = c.out_of_memory.ensures.note });
}

pub returns-then-served-most : goal.returns-then-served-most
returns-then-served-most g c =
    let taken = rw c.in-Ok-true.field-0-test at c.in-Ok-true.ensures.asks in
    record {
      serves = ends_many c.loop-line.invariant.so_far taken.0 taken.3 c.if-served-most.true
          (record { ends = c.fixed-then-served-most.ensures.status; says = c.fixed-then-served-most.ensures.note });
    }

pub returns-in-Err : goal.returns-in-Err
returns-in-Err g c = record {
  serves = ends_memory c.loop-line.invariant.so_far (record { ends = c.out_of_memory-in-Err.ensures.status; says = c.out_of_memory-in-Err.ensures.note });
}

-- the line that was taken has a reply
replied : (g : Over) (c : After-deref-in-loop-line g) → NextReplied (known c.args.tests.now g.J.Judge.judges) c.loop-line.invariant.so_far.all
    (g.R.Source.told c.loop-line.source).bytes (g.R.Source.told c.line.new.self).bytes c.deref-in-loop-line.result.now c.answer.new.sessions.items
replied g c =
    let taken = rw c.in-Ok-true.field-0-test at c.in-Ok-true.ensures.asks in
    next_replied c.loop-line.invariant.so_far taken c.clear.ensures.items c.deref.ensures.value c.in-Ok.ensures.reply c.deref-in-loop-line.ensures.value

pub returns-in-Err-put : goal.returns-in-Err-put
returns-in-Err-put g c =
    let next = replied g (goal.at.returns-in-Err-put g c).After-deref-in-loop-line in
    let rose = rose_from _ _ _ c.loop-line.invariant.puts c.in-Err-put.ensures.failed in
    record {
      serves = ends_write c.loop-line.invariant.so_far next c.if-served-most.false c.in-Err-put.ensures.part rose
          (record { ends = c.fixed-in-Err-put.ensures.status; says = c.fixed-in-Err-put.ensures.note });
    }

pub loop-line-preserved : goal.loop-line-preserved
loop-line-preserved g c =
    let next = replied g (goal.at.loop-line-preserved g c).After-deref-in-loop-line in
    record {
      so_far = one_served c.loop-line.invariant.so_far next c.if-served-most.false c.in-Ok-put.ensures.ok;
      faults = omega (arith, c.loop-line.invariant.faults, c.line.ensures.later);
      puts = omega (arith, c.loop-line.invariant.puts, c.put.ensures.later);
    }
