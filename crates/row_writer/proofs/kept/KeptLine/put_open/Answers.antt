use Rattle.std.proofs.Common.{◌++◌, ℕ, List, [], take, sym, ap, ◌∙◌, subst, Option}
use Rattle.std.specs.Prelude.{IfSome}
use Rattle.span_core.specs.declared.span.Span.{Span}
use Rattle.row_writer.specs.Kept.{Line}
use Rattle.row_writer.specs.Open.{IsAlike, IsOpenAt, IsRun, Open}
use Rattle.row_writer.proofs.EndsLines.{ends_opened}
use Rattle.row_writer.proofs.kept.KeptLine.put_open.Goals as goal

pub returns-clause-text : goal.returns-clause-text
returns-clause-text c =
    let kept = c.args.self.now in
    let last = c.self.inside.run.last.items in
    let spans = c.args.spans.now in
    let open_place = c.self.inside.run.place in
    let place = c.args.beside.place in
    let span = c.args.beside.span in
    let alike : IsAlike last spans open_place place span = subst (λ (r : List (Option Span)). IsAlike r spans open_place place span) c.as_slice.ensures.value c.if-not-is_open_for.ensures in
    let run : IsRun kept last open_place c.self.inside.run.line = subst (λ (l : Line). IsRun l last open_place c.self.inside.run.line) c.self.view_is c.self.invariant in
    let at : IsOpenAt kept last open_place [] c.in-Some.line =
    subst (λ (o : Option Open). IfSome o (λ p. IsOpenAt kept last open_place [] p)) c.in-Some.is run.opened in
    c.put_all.ensures.text
    ∙ ap (λ (xs : List ℕ). take c.args.at c.args.buffer.now ++ xs)
    (sym (ends_opened kept last spans open_place place c.args.doc.now c.in-Some.line span alike at c.requires.span c.args.ends.now c.requires.from))
