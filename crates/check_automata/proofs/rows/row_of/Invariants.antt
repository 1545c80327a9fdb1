use Rattle.std.proofs.Common.{◌≡◌, ℕ, ◌≤◌, length}
use Rattle.std.specs.List.{All}
use Rattle.std.specs.Option.{ForSome}
use Rattle.span_core.specs.declared.span.Span.{Span}
use Rattle.check_automata.proofs.rows.row_of.Given as goal

abbrev pub invariant-loop : goal.invariant-loop
invariant-loop l = record {
  len : length l.row ≡ l.counter;
  within : (n : ℕ) → All (λ span. ForSome span (λ (s : Span). s.end ≤ n)) l.spans → All (λ span. ForSome span (λ (s : Span). s.end ≤ n)) l.row;
}
