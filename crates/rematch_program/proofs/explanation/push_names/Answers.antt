use Rattle.std.proofs.Common.{rules, []}
use Rattle.rematch_program.proofs.AtomLines.{name_next}
use Rattle.rematch_program.proofs.explanation.push_names.Goals as goal

pub loop-k-preserved : goal.loop-k-preserved
loop-k-preserved c =
    name_next [] c.loop-k.text.items c.push.new.self.items c.extend_from_slice-in-loop-k.new.self.items _ c.as_bytes-in-loop-k.result.now c.args.vars.now c.loop-k.k
    (search rules) c.in_ok-push.ensures.items c.in_ok-extend_from_slice-3.ensures.items c.loop-k.invariant
