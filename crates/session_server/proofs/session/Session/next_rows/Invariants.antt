use Rattle.std.proofs.Common.{◌≡◌, ◌≤◌, ◌-◌, List}
use Rattle.row_writer.specs.Kept.{json_kept}
use Rattle.spanner_model.specs.Answers.{SpanRow}
use Rattle.spanner_model.specs.Passing.{known}
use Rattle.session_server.specs.Replies.{Session}
use Rattle.session_server.specs.Standing.{GivesSoFar, IsSessionOver}
use Rattle.session_server.proofs.session.Session.next_rows.Given as goal

abbrev pub invariant-loop-count : goal.invariant-loop-count
invariant-loop-count g l = record {
  few : l.count ≤ l.most;
  vars : l.self.vars ≡ l.fn.self.vars;
  line : l.rows.line ≡ json_kept l.fn.self.vars;
  so_far : (s : Session) (all : List SpanRow) → IsSessionOver (known l.tests g.J.Judge.judges) l.fn.self s all →
      GivesSoFar (known l.tests g.J.Judge.judges) l.fn.self l.self l.count l.rows.text.items s all;
}

abbrev pub decreases-loop-count : goal.decreases-loop-count
decreases-loop-count g l = l.most - l.count
