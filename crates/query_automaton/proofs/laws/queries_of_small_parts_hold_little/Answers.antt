use Rattle.query_automaton.proofs.HeldLaws.{queries_of_small_parts}
use Rattle.query_automaton.proofs.laws.queries_of_small_parts_hold_little.Goals as goal

pub returns : goal.returns
returns c = queries_of_small_parts
