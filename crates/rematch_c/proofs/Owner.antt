-- The heap as an allocator, and a box of what a handle owns, for walks.
use Rattle.std.proofs.Common.{◌≡◌, Option, None, Some, is_some, true, refl}
use mir.Syntax.{impl, tnil, dnil}
use mathlib.Core.List.{[]}
use Rattle.core.proofs.alloc.Calls.{Al}
use Rattle.std_alloc.proofs.BoxSteps.Form.{Bx}
use Rattle.std_heap.specs.contracts.Global as Heap
use Rattle.std_heap.specs.contracts.GlobalAllocator.TheImpl.{ghosts, dict}
use Rattle.std_heap.proofs.Global.TheLaws as heap
use Rattle.rematch_c.specs.contracts.held.Held as Held
use Rattle.rematch_c.proofs.held.Held.TheLaws as held

abbrev pub heap_al : Al
heap_al = record { row = Heap.the_row; laws = heap.the_row_laws; g = ghosts; d = dict; drops = impl [] tnil dnil }

abbrev pub held_box : Bx
held_box = record { row = Held.the_row; laws = held.the_row_laws; al = heap_al }

pub value_of : {A : Type 0} → (o : Option A) → is_some o ≡ true → (x : A) × (o ≡ Some x)
value_of None h = cc
value_of (Some x) h = (x, refl)
