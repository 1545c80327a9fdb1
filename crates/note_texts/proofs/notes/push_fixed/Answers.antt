use Rattle.note_texts.proofs.Fixed.{fixed_utf8}
use Rattle.note_texts.proofs.notes.push_fixed.Goals as goal

pub returns-clause-utf8 : goal.returns-clause-utf8
returns-clause-utf8 c = fixed_utf8 c.args.note
