use Rattle.std.proofs.Common.{ℕ, List, ◌↔◌, take}
use Rattle.span_core.specs.Lists.{Has}
use Rattle.plain_spanner.proofs.join.names_in_both.Given as goal

abbrev pub invariant-loop-k : goal.invariant-loop-k
invariant-loop-k l = (x : List ℕ) → Has l.shared x ↔ (Has (take l.k l.left) x × Has l.right x)
