use Rattle.std.proofs.Common.{List, subst, sym}
use Rattle.marked_automaton.specs.Automaton.{ByteClass}
use Rattle.settled_states.specs.Covering.{AreBytesInto}
use Rattle.settled_states.proofs.Covers.{covers}
use Rattle.settled_states.proofs.lasting.leave_out_uncovered.Goals as goal

pub returns-clause-kept : goal.returns-clause-kept
returns-clause-kept c q =
    let ways = c.args.ways.now in
    let flags = c.args.flags.now in
    let sets = c.as_slice.result.now in
    let into = subst (λ (ss : List ByteClass). AreBytesInto ways flags ss) (sym c.as_slice.ensures.value) c.in_ok-sets.ensures.exactly in
    let each = covers ways flags sets into q in
    let kept = c.leave_out-some.ensures.kept q in (
      (λ h. let r = kept.0 h in (r.0, each.0 r.1)),
      (λ h. kept.1 (h.0, each.1 h.1)),
    )
