use Rattle.std.proofs.Common.{Some, None, Option, ap, ◌∙◌, refl, false}
use Rattle.span_core.specs.declared.span.Span.{Span}
use Rattle.span_core.proofs.HasLaws.{Has-slice_get}
use Rattle.spanner_model.specs.Passing.{known}
use Rattle.spanner_engine.proofs.PassingLaws.{fails_outside, passes_at}
use Rattle.spanner_engine.proofs.tested.holds.Goals as goal

pub bytes_hold-requires-clause-inside : goal.bytes_hold-requires-clause-inside
bytes_hold-requires-clause-inside g c =
    c.requires.fits.inside c.in-Some-span_at.span (Has-slice_get c.args.spans.now c.in-Some.place (Some c.in-Some-span_at.span) (c.span_at.ensures ∙
    ap (λ (o : Option Span). Some o) c.in-Some-span_at.is))

pub returns-in-Some-span_at-clause-value : goal.returns-in-Some-span_at-clause-value
returns-in-Some-span_at-clause-value g c =
    passes_at (known c.args.tests.now g.J.Judge.judges) c.args.vars.now c.args.doc.now c.args.spans.now c.args.asked.now c.in-Some.place
    (Some c.in-Some-span_at.span) c.bytes_hold.result c.requires.names
    c.in-Some.ensures.some (c.span_at.ensures ∙ ap (λ (o : Option Span). Some o) c.in-Some-span_at.is) c.bytes_hold.ensures.value

pub returns-in-None-span_at-clause-value : goal.returns-in-None-span_at-clause-value
returns-in-None-span_at-clause-value g c =
    passes_at (known c.args.tests.now g.J.Judge.judges) c.args.vars.now c.args.doc.now c.args.spans.now c.args.asked.now c.in-Some.place None false c.requires.names
    c.in-Some.ensures.some (c.span_at.ensures ∙ ap (λ (o : Option Span). Some o) c.in-None-span_at.is) refl

pub returns-in-None-clause-value : goal.returns-in-None-clause-value
returns-in-None-clause-value g c =
    fails_outside (known c.args.tests.now g.J.Judge.judges) c.args.vars.now c.args.doc.now c.args.spans.now c.args.asked.now c.in-None.ensures.none
