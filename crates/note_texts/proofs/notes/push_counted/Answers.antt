use Rattle.std.proofs.Common.{subst}
use Rattle.std.specs.Str.{IsUtf8}
use Rattle.note_texts.specs.Notes.{at_place}
use Rattle.note_texts.proofs.Utf8.{both_utf8}
use Rattle.note_texts.proofs.notes.push_counted.Goals as goal

pub returns-in_err-push_number-clause-utf8 : goal.returns-in_err-push_number-clause-utf8
returns-in_err-push_number-clause-utf8 c =
    both_utf8 (at_place c.args.before.now c.args.number) c.args.after.now c.push_number.ensures.utf8 (subst IsUtf8 c.as_bytes-last.ensures.value c.as_bytes-last.ensures.utf8)

pub returns-clause-utf8 : goal.returns-clause-utf8
returns-clause-utf8 c =
    both_utf8 (at_place c.args.before.now c.args.number) c.args.after.now c.push_number.ensures.utf8 (subst IsUtf8 c.as_bytes-last.ensures.value c.as_bytes-last.ensures.utf8)
