use Rattle.std.proofs.Common.{◌<◌, Option, Some, length, ap, ◌∙◌, arith}
use Rattle.std.proofs.lemmas.Option.{slice_get-get_or}
use Rattle.span_core.specs.declared.span.Span.{Span}
use Rattle.span_core.specs.declared.TheConstants.{MOST_VARIABLES}
use Rattle.row_writer.proofs.LineParts.{room_bare}
use Rattle.rematch_program.specs.Written.{Fits, page_of}
use Rattle.rematch_program.proofs.Writing.{as_wide, ends_lines}
use Rattle.rematch_program.proofs.page_writer.PageWriter.put_ends.Goals as goal

pub add_ends-requires-clause-lengths : goal.add_ends-requires-clause-lengths
add_ends-requires-clause-lengths g c =
    let i = c.self.inside in
    as_wide (page_of i.form i.texts i.vars.now i.document.now i.gather) c.self.invariant.0 (rw (← c.self.view_is) at c.requires.fits)

pub add_ends-requires-clause-room : goal.add_ends-requires-clause-room
add_ends-requires-clause-room g c =
    let i = c.self.inside in
    let page = page_of i.form i.texts i.vars.now i.document.now i.gather in
    let fits : Fits page c.args.spans.now = rw (← c.self.view_is) at c.requires.fits in
    let few : length page.names < MOST_VARIABLES = rw (← c.self.view_is) at c.requires.few in
    omega (arith, room_bare i.kept.heads c.args.spans.now (as_wide page c.self.invariant.0 fits), fits.lengths, few)

pub add_ends-requires-clause-span : goal.add_ends-requires-clause-span
add_ends-requires-clause-span g c =
    let within : c.args.place < length c.args.spans.now = omega arith in
    slice_get-get_or c.args.spans.now c.args.place _ within ∙ ap (λ (o : Option Span). Some o) c.in-Some.is

pub returns-clause-ok : goal.returns-clause-ok
returns-clause-ok g c =
    let i = c.self.inside in
    let page = page_of i.form i.texts i.vars.now i.document.now i.gather in
    rw (← c.self.view_is)
    (rw (← ends_lines page c.self.invariant.0 (rw (← c.self.view_is) at c.requires.fits) (rw (← c.self.view_is) at c.requires.bare) c.args.place c.args.ends.now) c.in_default-add_ends.ensures.ok)

pub returns-in-Err-clause-part : goal.returns-in-Err-clause-part
returns-in-Err-clause-part g c =
    let i = c.self.inside in
    let page = page_of i.form i.texts i.vars.now i.document.now i.gather in
    rw (← c.self.view_is)
    (rw (← ends_lines page c.self.invariant.0 (rw (← c.self.view_is) at c.requires.fits) (rw (← c.self.view_is) at c.requires.bare) c.args.place c.args.ends.now) c.in-Err.ensures.part)
