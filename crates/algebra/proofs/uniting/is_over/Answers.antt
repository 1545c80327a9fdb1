use Rattle.algebra.proofs.UnionsOver.{over_by_length}
use Rattle.algebra.proofs.uniting.is_over.Goals as goal

pub returns : goal.returns
returns c =
    over_by_length c.args.automaton.now c.args.all.now c.vars.result.now c.len.result c.len-2.result c.is_marked.ensures c.vars.ensures c.len.ensures.value c.len-2.ensures.value
    c.len.ensures.ascending c.len-2.ensures.ascending c.requires
