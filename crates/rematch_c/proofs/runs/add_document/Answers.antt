use Rattle.rematch_c.proofs.RunLaws.{document_added, document_no_text, document_other, document_taken, document_want}
use Rattle.rematch_c.proofs.runs.add_document.Goals as goal

pub returns-in_default : goal.returns-in_default
returns-in_default c = document_other c.args.held.now c.args.name.now c.args.document.now c.number_of.result c.in_default.not-Run c.number_of.ensures

pub returns-in_default-from_utf8 : goal.returns-in_default-from_utf8
returns-in_default-from_utf8 c = document_no_text c.args.held.now c.in-Run.run' c.args.name.now c.args.document.now c.in-Run.is c.in_default-from_utf8.ensures.cases.0

pub returns-in-Ok-add_document : goal.returns-in-Ok-add_document
returns-in-Ok-add_document c =
    document_added c.args.held.now c.in-Run.run' c.add_document.new.self c.args.name.now c.args.document.now c.number_of-in-Ok-add_document.result c.in-Run.is c.in-Ok.name.now
    c.in-Ok.ensures.cases.0 c.add_document.ensures.words c.in-Ok-add_document.ensures.ok c.number_of-in-Ok-add_document.ensures

pub returns-in-Err-Name : goal.returns-in-Err-Name
returns-in-Err-Name c =
    document_taken c.args.held.now c.in-Run.run' c.add_document.new.self c.args.name.now c.args.document.now c.number_of-in-Err-Name.result c.in-Run.is c.in-Ok.name.now
    c.in-Ok.ensures.cases.0 c.add_document.ensures.words c.in-Err-Name.ensures.err (c.in-Err-Name.ensures.name c.in-Err-Name.field-0-is) c.number_of-in-Err-Name.ensures

pub returns-in-Err-OutOfMemory : goal.returns-in-Err-OutOfMemory
returns-in-Err-OutOfMemory c =
    document_want c.args.held.now c.in-Run.run' c.add_document.new.self c.args.name.now c.args.document.now c.number_of-in-Err-OutOfMemory.result c.in-Run.is
    c.add_document.ensures.words c.in-Err-OutOfMemory.ensures.err c.number_of-in-Err-OutOfMemory.ensures
