use Rattle.query_automaton.proofs.QueryWords.{query_words}
use Rattle.query_automaton.proofs.laws.queries_accept_the_words_of_their_rows.Goals as goal

pub returns : goal.returns
returns c = query_words
