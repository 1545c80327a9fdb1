use Rattle.std.proofs.Common.{◌++◌, ℕ, List, [], take, sym, ap, ◌∙◌, arith, subst, Option}
use Rattle.std.specs.Prelude.{IfSome}
use Rattle.span_core.specs.declared.span.Span.{Span}
use Rattle.row_writer.specs.Kept.{Line}
use Rattle.row_writer.specs.Open.{IsBeside, IsOpenAt, IsRun, Open}
use Rattle.row_writer.proofs.LineParts.{beside_text, room_bare}
use Rattle.row_writer.proofs.kept.KeptLine.put_bare.Goals as goal

pub put-requires : goal.put-requires
put-requires c = omega (arith, c.requires.room, c.requires.some, room_bare c.args.self.now.heads c.args.spans.now c.requires.lengths)

pub returns-in-Some-line-clause-end : goal.returns-in-Some-line-clause-end
returns-in-Some-line-clause-end c = omega (arith, c.put.ensures.end, c.requires.some, room_bare c.args.self.now.heads c.args.spans.now c.requires.lengths)

pub returns-in-Some-line-clause-text : goal.returns-in-Some-line-clause-text
returns-in-Some-line-clause-text c =
    let kept = c.args.self.now in
    let last = c.self.inside.run.last.items in
    let spans = c.args.spans.now in
    let place = c.in-Some.beside.place in
    let span = c.in-Some.beside.span in
    let beside : IsBeside last spans place span = subst (λ (r : List (Option Span)). IsBeside r spans place span) c.as_slice.ensures.value c.in-Some.ensures in
    let run : IsRun kept last c.self.inside.run.place c.self.inside.run.line = subst (λ (l : Line). IsRun l last c.self.inside.run.place c.self.inside.run.line) c.self.view_is c.self.invariant in
    let at : IsOpenAt kept last c.self.inside.run.place [] c.in-Some-line.line =
    subst (λ (o : Option Open). IfSome o (λ p. IsOpenAt kept last c.self.inside.run.place [] p)) c.in-Some-line.is run.opened in
    c.put.ensures.text
    ∙ ap (λ (xs : List ℕ). take c.args.at c.args.buffer.now ++ xs)
    (sym (beside_text kept last spans place c.self.inside.run.place c.args.doc.now c.in-Some-line.line span c.if-beside-self.true beside at))
