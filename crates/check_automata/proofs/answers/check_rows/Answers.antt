use Rattle.std.proofs.Common.{sym, subst, ℕ, ◌≤◌, length, List, Option}
use Rattle.std.specs.List.{All}
use Rattle.std.specs.Option.{ForSome}
use Rattle.span_core.specs.declared.span.Span.{Span}
use Rattle.check_automata.proofs.answers.check_rows.Goals as goal

pub accepts-requires-clause-within : goal.accepts-requires-clause-within
accepts-requires-clause-within c =
    c.row_of-row.ensures.within (length c.args.document.now)
    (subst (λ (spans : List (Option Span)). All (λ span. ForSome span (λ (s : Span). s.end ≤ length c.args.document.now)) spans) (sym c.deref-in-loop-number.ensures.value)
    (subst (λ (n : ℕ). All (λ span. ForSome span (λ (s : Span). s.end ≤ n)) c.in_ok-spans.spans.items) (sym c.requires.len) c.in_ok-spans.ensures.within))
