use Rattle.std.proofs.Common.{◌≡◌, ℕ, ◌^◌, ◌<◌, Some}
use Rattle.std.specs.Prelude.{slice_get}
use Rattle.span_core.specs.declared.span.Span.{Span}
use Rattle.marked_automaton.proofs.accepting.none_past.Given as goal

abbrev pub invariant-loop-k : goal.invariant-loop-k
invariant-loop-k l = (j : ℕ) (s : Span) → j < l.k → slice_get l.row j ≡ Some (Some s) → (s.start < 2 ^ 32) × (s.end < 2 ^ 32)
