use Rattle.std.proofs.Common.{◌≡◌, ◌+◌, ◌≤◌, ◌++◌, drop}
use Rattle.marked_automaton.specs.Trimmed.{count_set, numbered}
use Rattle.marked_automaton.proofs.trimming.Numbers.new.Given as goal

abbrev pub invariant-loop-kept : goal.invariant-loop-kept
invariant-loop-kept l = record {
  numbers : l.numbers.items ++ numbered l.count (drop l.kept-index l.useful) ≡ numbered 0 l.useful;
  count : l.count + count_set (drop l.kept-index l.useful) ≡ count_set l.useful;
  low : l.count ≤ l.kept-index;
}
