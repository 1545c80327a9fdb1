use Rattle.rematch_c.proofs.RunLaws.{document_none}
use Rattle.rematch_c.proofs.rematch_c_add_document.Goals as goal

pub returns-in_default : goal.returns-in_default
returns-in_default c =
    document_none c.args.run.now.handle.home c.take.new.self.handle.home c.args.name.now c.args.document.now c.number_of.result c.in_default.ensures.none c.take.ensures.left
    c.number_of.ensures
