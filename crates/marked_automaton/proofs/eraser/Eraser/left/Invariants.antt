use Rattle.std.proofs.Common.{◌≡◌, ℕ, ◌+◌, ◌-◌, ◌*◌, ◌^◌, drop}
use Rattle.marked_automaton.specs.Erased.{picked}
use Rattle.marked_automaton.proofs.eraser.Eraser.left.Given as goal

abbrev pub invariant-loop-k : goal.invariant-loop-k
invariant-loop-k l = record {
  so_far : l.left + picked l.self.all (drop l.k l.place-items) l.marks ≡ picked l.self.all l.place-items l.marks;
  before : (q : ℕ) × (l.left ≡ q * 2 ^ (2 * (l.count - l.k)));
}
