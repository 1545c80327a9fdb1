use Rattle.rematch_c.proofs.RunLaws.{word_none}
use Rattle.rematch_c.proofs.rematch_c_add_word.Goals as goal

pub returns-in_default : goal.returns-in_default
returns-in_default c =
    word_none c.args.run.now.handle.home c.take.new.self.handle.home c.args.word.now c.number_of.result c.in_default.ensures.none c.take.ensures.left c.number_of.ensures
