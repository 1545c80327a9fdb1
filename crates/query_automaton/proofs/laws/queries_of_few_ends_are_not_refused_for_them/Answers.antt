use Rattle.query_automaton.proofs.HeldLaws.{queries_of_few_ends}
use Rattle.query_automaton.proofs.laws.queries_of_few_ends_are_not_refused_for_them.Goals as goal

pub returns : goal.returns
returns c = queries_of_few_ends
