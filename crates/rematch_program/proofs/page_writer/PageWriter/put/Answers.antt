use Rattle.rematch_program.specs.Written.{page_of}
use Rattle.rematch_program.proofs.Writing.{as_wide, row_line}
use Rattle.rematch_program.proofs.page_writer.PageWriter.put.Goals as goal

pub room-requires-clause-lengths : goal.room-requires-clause-lengths
room-requires-clause-lengths g c =
    let i = c.self.inside in
    as_wide (page_of i.form i.texts i.vars.now i.document.now i.gather) c.self.invariant.0 (rw (← c.self.view_is) at c.requires.fits)

pub add_row-requires-clause-lengths : goal.add_row-requires-clause-lengths
add_row-requires-clause-lengths g c =
    let i = c.self.inside in
    as_wide (page_of i.form i.texts i.vars.now i.document.now i.gather) c.self.invariant.0 (rw (← c.self.view_is) at c.requires.fits)

pub returns-clause-ok : goal.returns-clause-ok
returns-clause-ok g c =
    let i = c.self.inside in
    rw (← c.self.view_is)
    (rw (← row_line (page_of i.form i.texts i.vars.now i.document.now i.gather) c.self.invariant.0 (rw (← c.self.view_is) at c.requires.fits)) c.in_default.ensures.ok)

pub returns-in-Err-clause-part : goal.returns-in-Err-clause-part
returns-in-Err-clause-part g c =
    let i = c.self.inside in
    rw (← c.self.view_is)
    (rw (← row_line (page_of i.form i.texts i.vars.now i.document.now i.gather) c.self.invariant.0 (rw (← c.self.view_is) at c.requires.fits)) c.in-Err.ensures.part)
