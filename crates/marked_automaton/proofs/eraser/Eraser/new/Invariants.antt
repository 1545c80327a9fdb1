use Rattle.std.proofs.Common.{◌≡◌, ℕ, ◌<◌, List, length, get_or, Some, None}
use Rattle.std.specs.Prelude.{slice_get}
use Rattle.std.specs.List.{All}
use Rattle.std.specs.Option.{ForSome}
use Rattle.marked_automaton.specs.Erased.{IsPlaceOf}
use Rattle.marked_automaton.proofs.eraser.Eraser.new.Given as goal

abbrev pub invariant-loop-k : goal.invariant-loop-k
invariant-loop-k l = record {
  len : length l.places.items ≡ l.k;
  found : (i : ℕ) (x : List ℕ) → i < l.k → slice_get l.keep i ≡ Some x → IsPlaceOf l.names x (get_or l.places.items i None);
  within : All (λ place. ForSome place (λ j. j < length l.names)) l.places.items;
}
