use Rattle.std.proofs.Common.{◌≡◌, ◌++◌, drop}
use Rattle.marked_automaton.specs.Trimmed.{kept_flags}
use Rattle.marked_automaton.proofs.trimming.flags_of_kept.Given as goal

abbrev pub invariant-loop-k : goal.invariant-loop-k
invariant-loop-k l = l.kept.items ++ kept_flags (drop l.k l.useful) (drop l.k l.flags) ≡ kept_flags l.useful l.flags
