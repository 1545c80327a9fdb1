use Rattle.std.proofs.Common.{◌<◌, length, ◌∙◌, arith}
use Rattle.place_automaton.specs.Atom.{way_from_first}
use Rattle.place_automaton.proofs.JoinLists.{pushed_next}
use Rattle.place_automaton.proofs.outer.push_from_before.Goals as goal

pub loop-entry-preserved : goal.loop-entry-preserved
loop-entry-preserved c =
    let xs = c.args.first.now in
    let i = c.loop-entry.entry-index in
    let within : i < length xs = omega arith in
    c.in_ok-push.ensures.items ∙ pushed_next way_from_first xs i c.entry-item.result c.args.ways.now.items c.loop-entry.ways.items within c.entry-item.is c.loop-entry.invariant
