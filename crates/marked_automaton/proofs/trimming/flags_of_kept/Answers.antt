use Rattle.std.proofs.Common.{◌+◌, ◌<◌, ◌++◌, List, Vec, Global, Bool, length, drop, ap, arith, ◌∙◌}
use Rattle.marked_automaton.specs.Trimmed.{kept_flags}
use Rattle.marked_automaton.proofs.Loops.{flag_kept, flag_dropped}
use Rattle.marked_automaton.proofs.trimming.flags_of_kept.Goals.{then-useful-k+in_ok-push, else-useful-k}
use Rattle.marked_automaton.proofs.trimming.flags_of_kept.Goals as goal

pub loop-k-preserved : goal.loop-k-preserved
loop-k-preserved c =
    let useful = c.args.useful.now in
    let flags = c.args.flags.now in
    let k = c.loop-k.k in
    let whole = kept_flags useful flags in
    let rest = kept_flags (drop (k + 1) useful) (drop (k + 1) flags) in
    let here : k < length useful = omega arith in
    let there : k < length flags = omega arith in
    elim c.if-useful-k.branch [
      | then-useful-k+in_ok-push w ↦
          ap (λ (v : Vec Bool Global). v.items ++ rest) w.kept-is ∙ (ap (λ (xs : List Bool). xs ++ rest) w.in_ok-push.ensures.items
          ∙ flag_kept useful flags c.loop-k.kept.items whole k here there w.if-useful-k.true c.loop-k.invariant)
      | else-useful-k w ↦
          ap (λ (v : Vec Bool Global). v.items ++ rest) w.kept-is
          ∙ flag_dropped useful flags c.loop-k.kept.items whole k here there w.if-useful-k.false c.loop-k.invariant
    ]
