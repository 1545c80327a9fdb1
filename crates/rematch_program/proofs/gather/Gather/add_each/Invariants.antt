use Rattle.std.proofs.Common.{◌≡◌, ◌≤◌, ◌++◌, Option, drop, take, set, length}
use Rattle.span_core.specs.declared.span.Span.{Span}
use Rattle.rm_outside.specs.Change.{change}
use Rattle.rematch_program.specs.Kept.{ends_text}
use Rattle.rematch_program.specs.Work.{SoFar}
use Rattle.rematch_program.proofs.gather.Gather.add_each.Given as goal

abbrev pub invariant-loop-end : goal.invariant-loop-end
invariant-loop-end g l = record {
  line : l.line ≡ l.fn.line;
  long : length l.row ≡ 32;
  row : (x : Option Span) → set (take (length l.fn.of.spans.now) l.row) l.fn.of.place x ≡ set l.fn.of.spans.now l.fn.of.place x;
  so_far : SoFar (change (g.O.Sink.told l.fn.out) (g.O.Sink.told l.out)) l.self
      (ends_text l.fn.line l.fn.of.spans.now l.fn.of.place l.fn.of.document.now (drop l.end-index l.fn.of.ends.now))
      (l.fn.self ++ ends_text l.fn.line l.fn.of.spans.now l.fn.of.place l.fn.of.document.now l.fn.of.ends.now);
  later : (g.O.Sink.told l.fn.out).faults ≤ (g.O.Sink.told l.out).faults;
}
