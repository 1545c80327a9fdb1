use Rattle.std.proofs.Common.{arith}
use Rattle.numbered_lists.specs.Numbered.{set_at}
use Rattle.one_pass.proofs.PlaceLaws.{no_marks}
use Rattle.one_pass.proofs.ReadWords.{rest_marks}
use Rattle.one_pass.proofs.Sources.{stepped_all, stepped_given, stepped_gives_up, stepped_more, stepped_none}
use Rattle.one_pass.proofs.pass.Pass.step_rest.Goals as goal

pub loop-k-init : goal.loop-k-init
loop-k-init g c = stepped_none c.requires.goes_on

pub turn_rest-requires-clause-given : goal.turn_rest-requires-clause-given
turn_rest-requires-clause-given g c = stepped_given c.requires.goes_on c.loop-k.invariant (omega arith) c.set_at-set.ensures

pub returns-in-Err-clause-given_up : goal.returns-in-Err-clause-given_up
returns-in-Err-clause-given_up g c =
    stepped_gives_up c.requires.goes_on c.loop-k.invariant (omega arith) c.set_at-set.ensures c.in-Err.ensures.refused c.in-Err.ensures.cause

pub loop-k-preserved : goal.loop-k-preserved
loop-k-preserved g c =
    stepped_more c.requires.goes_on c.loop-k.invariant (omega arith) c.set_at-set.ensures c.in_default.ensures.turned c.is_graph.ensures.targets

pub returns-clause-read : goal.returns-clause-read
returns-clause-read g c =
    stepped_all c.requires.goes_on c.loop-k.invariant (omega arith) c.next_layer.new.self c.next_layer.ensures.sources c.next_layer.ensures.cells c.next_layer.ensures.stepped c.next_layer.ensures.next
    c.args.to c.requires.later (λ x e b h k w. absurd (no_marks c.args.self.now.at e.marks b (rest_marks c.args.table.now.graph (set_at c.args.table.now.sets x.set) e k) w))
