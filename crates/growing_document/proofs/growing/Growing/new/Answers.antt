use Rattle.std.proofs.Common.{◌+◌}
use Rattle.growing_document.proofs.Beginning.{begun_inside, begun_seen}
use Rattle.growing_document.proofs.growing.Growing.new.Goals as goal

pub invariant_of-result : goal.invariant_of-result
invariant_of-result g c =
    begun_inside c.args.automaton c.args.limit (c.args.steps.now + 1) c.begin.new.steps c.in-Ok.begun c.lay_down-reading.result
    c.in-Ok.ensures.begun c.lay_down-reading.ensures.laid c.lay_down-reading.ensures.same c.new-document.result.items c.new-document.ensures.items c.requires.limit c.requires.rows

pub returns-clause-begun : goal.returns-clause-begun
returns-clause-begun g c =
    begun_seen c.args.automaton c.args.limit (c.args.steps.now + 1) c.begin.new.steps c.in-Ok.begun c.lay_down-reading.result
    c.in-Ok.ensures.begun c.lay_down-reading.ensures.laid c.lay_down-reading.ensures.same c.new-document.result.items c.new-document.ensures.items
