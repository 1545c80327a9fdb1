use Rattle.marked_automaton.proofs.Rearranged.{rearranged_reduces}
use Rattle.marked_automaton.proofs.laws.what_rearranges_reduces.Goals as goal

pub returns : goal.returns
returns c = rearranged_reduces
