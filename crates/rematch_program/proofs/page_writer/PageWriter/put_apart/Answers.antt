use Rattle.rematch_program.specs.Written.{page_of}
use Rattle.rematch_program.proofs.Writing.{as_wide, row_line}
use Rattle.rematch_program.proofs.page_writer.PageWriter.put_apart.Goals as goal

pub put_long-requires-clause-width : goal.put_long-requires-clause-width
put_long-requires-clause-width g c =
    let i = c.self.inside in
    as_wide (page_of i.form i.texts i.vars.now i.document.now i.gather) c.self.invariant.0 (rw (← c.self.view_is) at c.requires.fits)

pub returns-clause-ok : goal.returns-clause-ok
returns-clause-ok g c =
    let i = c.self.inside in
    rw (← c.self.view_is)
    (rw (← row_line (page_of i.form i.texts i.vars.now i.document.now i.gather) c.self.invariant.0 (rw (← c.self.view_is) at c.requires.fits)) c.put_long.ensures.ok)

pub returns-clause-part : goal.returns-clause-part
returns-clause-part g c =
    let i = c.self.inside in
    rw (← c.self.view_is)
    (rw (← row_line (page_of i.form i.texts i.vars.now i.document.now i.gather) c.self.invariant.0 (rw (← c.self.view_is) at c.requires.fits)) c.put_long.ensures.part)
