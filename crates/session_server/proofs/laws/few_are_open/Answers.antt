use Rattle.session_server.proofs.Few.{few_open}
use Rattle.session_server.proofs.laws.few_are_open.Goals as goal

pub returns : goal.returns
returns c = few_open
