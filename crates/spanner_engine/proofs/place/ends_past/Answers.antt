use Rattle.std.proofs.Common.{◌≤◌, length, Option, Some, ap, refl, arith, ◌∙◌}
use Rattle.span_core.specs.declared.span.Span.{Span}
use Rattle.spanner_engine.proofs.Past.{none_past, past_here}
use Rattle.spanner_engine.proofs.place.ends_past.Goals as goal

pub returns-then-span-n : goal.returns-then-span-n
returns-then-span-n c = (
  λ _. past_here c.args.n c.loop-k.k c.args.row.now c.in-Some.span (c.at.ensures ∙ ap (λ (o : Option Span). Some o) c.in-Some.is) c.if-span-n.true,
  λ _. refl,
)

pub returns : goal.returns
returns c =
    let all : length c.args.row.now ≤ c.loop-k.k = omega (arith, c.len-k-end.ensures.value, c.loop-k-test.false) in
    (λ f. absurd (cc), λ past. absurd (none_past c.args.n c.args.row.now (λ k s less at. c.loop-k.invariant k s (omega (arith, less, all)) at) past))
