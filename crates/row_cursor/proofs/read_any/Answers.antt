use Rattle.row_cursor.proofs.Whole.{fault_whole, no_head, whole_of}
use Rattle.row_cursor.proofs.read_any.Goals as goal

pub returns-in-Ok-clause-found : goal.returns-in-Ok-clause-found
returns-in-Ok-clause-found c = whole_of c.args.vars.now c.in-Ok.row c.in-Some.length c.args.text.now c.in-Some.rest.now c.in-Some.ensures.some c.in-Ok.ensures.found

pub returns-in-Err-clause-fault : goal.returns-in-Err-clause-fault
returns-in-Err-clause-fault c = fault_whole c.args.vars.now c.args.text.now c.in-Some.rest.now c.in-Some.length c.in-Err.fault c.in-Some.ensures.some c.in-Err.ensures.fault

pub returns-in-None-clause-fault : goal.returns-in-None-clause-fault
returns-in-None-clause-fault c = no_head c.args.text.now c.in-None.ensures.none
