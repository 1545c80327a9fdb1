use Rattle.std.proofs.Common.{◌<◌, ◌≤◌, length}
use Rattle.std.specs.List.{All}
use Rattle.std.specs.Option.{ForSome}
use Rattle.span_core.specs.declared.span.Span.{Span}
use Rattle.check_automata.proofs.rows.spans_within.Given as goal

abbrev pub invariant-loop-start : goal.invariant-loop-start
invariant-loop-start l = record {
  some : 0 < length l.spans.items;
  within : All (λ span. ForSome span (λ (s : Span). s.end ≤ l.len)) l.spans.items;
}

abbrev pub invariant-loop-end : goal.invariant-loop-end
invariant-loop-end l = record {
  some : 0 < length l.spans.items;
  within : All (λ span. ForSome span (λ (s : Span). s.end ≤ l.len)) l.spans.items;
}
