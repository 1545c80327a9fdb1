use Rattle.std.proofs.Common.{◌≡◌, ◌*◌, ◌^◌, ◌<◌, take}
use Rattle.algebra.specs.Renaming.{moved_marks}
use Rattle.algebra.proofs.renaming.moved.Given as goal

abbrev pub invariant-loop-shift : goal.invariant-loop-shift
invariant-loop-shift l = record {
  number : l.number ≡ moved_marks (take l.shift-index l.shifts) l.marks;
  small : l.number < 2 ^ (2 * l.shift-index);
}
