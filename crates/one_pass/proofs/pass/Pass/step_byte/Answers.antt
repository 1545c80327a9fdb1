use Rattle.std.proofs.Common.{arith}
use Rattle.one_pass.proofs.PlaceLaws.{block_at}
use Rattle.one_pass.proofs.Sources.{stepped_all, stepped_given, stepped_gives_up, stepped_more, stepped_none}
use Rattle.one_pass.proofs.pass.Pass.step_byte.Goals as goal

pub loop-k-init : goal.loop-k-init
loop-k-init g c = stepped_none c.requires.goes_on

pub turn_byte-requires-clause-given : goal.turn_byte-requires-clause-given
turn_byte-requires-clause-given g c = stepped_given c.requires.goes_on c.loop-k.invariant (omega arith) c.set_at-set.ensures

pub returns-in-Err-clause-given_up : goal.returns-in-Err-clause-given_up
returns-in-Err-clause-given_up g c =
    stepped_gives_up c.requires.goes_on c.loop-k.invariant (omega arith) c.set_at-set.ensures c.in-Err.ensures.refused c.in-Err.ensures.cause

pub loop-k-preserved : goal.loop-k-preserved
loop-k-preserved g c =
    stepped_more c.requires.goes_on c.loop-k.invariant (omega arith) c.set_at-set.ensures c.in_default.ensures.turned c.is_graph.ensures.targets

pub returns-clause-read : goal.returns-clause-read
returns-clause-read g c =
    stepped_all c.requires.goes_on c.loop-k.invariant (omega arith) c.next_layer.new.self c.next_layer.ensures.sources c.next_layer.ensures.cells c.next_layer.ensures.stepped c.next_layer.ensures.next
    _ (omega arith) (λ x e b h k w. let same = block_at c.args.self.now.at e.marks b w in omega (arith, same))
