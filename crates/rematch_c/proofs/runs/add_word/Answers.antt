use Rattle.rematch_c.proofs.RunLaws.{word_added, word_no_text, word_other, word_want}
use Rattle.rematch_c.proofs.runs.add_word.Goals as goal

pub returns-in_default : goal.returns-in_default
returns-in_default c = word_other c.args.held.now c.args.word.now c.number_of.result c.in_default.not-Run c.number_of.ensures

pub returns-in_default-from_utf8 : goal.returns-in_default-from_utf8
returns-in_default-from_utf8 c = word_no_text c.args.held.now c.in-Run.run' c.args.word.now c.in-Run.is c.in_default-from_utf8.ensures.cases.0

pub returns-in-Ok-add_word : goal.returns-in-Ok-add_word
returns-in-Ok-add_word c =
    word_added c.args.held.now c.in-Run.run' c.add_word.new.self c.args.word.now c.number_of-in-Ok-add_word.result c.in-Run.is c.in-Ok.word.now c.in-Ok.ensures.cases.0
    c.in-Ok-add_word.ensures.ok c.add_word.ensures.documents c.number_of-in-Ok-add_word.ensures

pub returns-in-Err : goal.returns-in-Err
returns-in-Err c =
    word_want c.args.held.now c.in-Run.run' c.add_word.new.self c.args.word.now c.number_of-in-Err.result c.in-Run.is c.in-Err.ensures.err c.add_word.ensures.documents
    c.number_of-in-Err.ensures
