use Rattle.std.proofs.Common.{rules}
use Rattle.note_texts.specs.Notes.{at_place}
use Rattle.note_texts.proofs.Utf8.{both_utf8, number_utf8}
use Rattle.note_texts.proofs.notes.push_two.Goals as goal

pub returns-in_err-push_number-clause-utf8 : goal.returns-in_err-push_number-clause-utf8
returns-in_err-push_number-clause-utf8 c =
    both_utf8 (at_place c.args.before.now c.args.first) (at_place c.args.between.now c.args.second) c.push_number.ensures.utf8
    (number_utf8 c.args.between.now c.args.second c.utf8.between (search rules))

pub returns-clause-utf8 : goal.returns-clause-utf8
returns-clause-utf8 c = both_utf8 (at_place c.args.before.now c.args.first) (at_place c.args.between.now c.args.second) c.push_number.ensures.utf8 c.push_number-2.ensures.utf8
