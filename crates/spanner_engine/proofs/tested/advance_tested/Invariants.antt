use Rattle.std.proofs.Common.{◌≡◌, ◌+◌, ◌*◌, ◌≤◌, List, [], ◌++◌, length}
use Rattle.spanner_model.specs.Answers.{SpanRow}
use Rattle.spanner_model.specs.Passing.{checks_of, known, passing}
use Rattle.spanner_engine.proofs.tested.advance_tested.Given as goal

abbrev pub invariant-loop-answers : goal.invariant-loop-answers
invariant-loop-answers g l = record {
  variables : l.answers.variables ≡ l.fn.answers.variables;
  tried : (front : List SpanRow) × (l.fn.answers.rest ≡ front ++ l.answers.rest)
      × (passing (checks_of (known l.tests g.J.Judge.judges) l.tested.asked) l.vars l.doc front ≡ [])
      × (l.steps ≤ l.fn.steps + length front * (2 * l.fn.answers.variables + length l.tested.asked));
}

abbrev pub decreases-loop-answers : goal.decreases-loop-answers
decreases-loop-answers g l = length l.answers.rest
