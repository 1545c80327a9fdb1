use Rattle.std.proofs.Common.{◌≡◌, ◌<◌, ◌∷◌, ◌++◌, [], length, ap, ◌∙◌, arith}
use Rattle.marked_automaton.specs.declared.way.Way.{Way}
use Rattle.marked_automaton.specs.Automaton.{ByteClass}
use Rattle.place_automaton.specs.Atom.{way_after}
use Rattle.place_automaton.proofs.JoinLists.{pushed_next}
use Rattle.place_automaton.proofs.outer.push_into_after.Goals as goal

pub loop-stop-preserved : goal.loop-stop-preserved
loop-stop-preserved c =
    let xs = c.args.last.now in
    let s = c.stop-item.result in
    let i = c.loop-stop.stop-index in
    let within : i < length xs = omega arith in
    let make : ByteClass → Way = λ b. record { from = s.state; marks = s.marks; bytes = b; to = c.args.after } in
    let pushed : c.push.new.self.items ≡ c.loop-stop.ways.items ++ make c.all.result ∷ [] = c.in_ok-push.ensures.items in
    pushed ∙ (ap (λ (y : Way). c.loop-stop.ways.items ++ y ∷ []) (ap make c.all.ensures)
    ∙ pushed_next (way_after c.args.after) xs i s c.args.ways.now.items c.loop-stop.ways.items within c.stop-item.is c.loop-stop.invariant)
