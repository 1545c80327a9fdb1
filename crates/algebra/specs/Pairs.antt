-- The pairs of states of a join, and the ways and ends between them.
use Rattle.std.specs.Prelude.{◌≡◌, ℕ, ◌+◌, ◌*◌, ◌^◌, ◌<◌, ◌≤◌, ◌⊎◌, Bool, true, ◌&&◌, nat_eq, List, [], ◌∷◌, ◌++◌, length, map, slice_get, Some}
use Rattle.std.specs.List.{filter, flat_map}
use Rattle.span_core.specs.Lists.{Has}
use Rattle.marked_automaton.specs.declared.way.Way.{Way}
use Rattle.marked_automaton.specs.declared.way.Stop.{Stop}
use Rattle.marked_automaton.specs.declared.TheConstants.{MOST_STATES}
use Rattle.marked_automaton.specs.declared.fault.SizeFault.{SizeFault}
use Rattle.marked_automaton.specs.Faults.{IsSizeFaultWithin}
use Rattle.marked_automaton.specs.Automaton.{Automaton, ByteClass}
use Rattle.algebra.specs.declared.halves.HalfWay.{HalfWay}
use Rattle.algebra.specs.declared.halves.HalfStop.{HalfStop}
use Rattle.algebra.specs.declared.pairs.Pair.{Pair}
use Rattle.algebra.specs.Operations.{has_some, meet}

abbrev pub pair_of : ℕ → ℕ → Pair
pair_of p q = record { left = p; right = q }

-- a way of a join between pairs
pub record PairWay : Type 0 where
  pub from : Pair
  pub marks : ℕ
  pub bytes : ByteClass
  pub to : Pair

-- an end of a join at a pair
pub record PairStop : Type 0 where
  pub at : Pair
  pub marks : ℕ

-- of pairs of elements that go together the list of what each makes
abbrev pub pairs : {X Y R : Type 0} → (X → Y → Bool) → (X → Y → R) → List Y → List X → List R
pairs {X} {Y} test make ys xs = flat_map (λ (x : X). map (make x) (filter (test x) ys)) xs

abbrev pub way_from : Way → ℕ
way_from y = y.from

abbrev pub half_from : HalfWay → ℕ
half_from x = x.way.from

abbrev pub half_at : HalfStop → ℕ
half_at x = x.stop.state

abbrev pub ways_meet : HalfWay → HalfWay → Bool
ways_meet x y = nat_eq x.shared y.shared && has_some (meet x.way.bytes y.way.bytes)

abbrev pub way_pair : HalfWay → HalfWay → PairWay
way_pair x y = record {
  from = pair_of x.way.from y.way.from;
  marks = x.way.marks + y.way.marks;
  bytes = meet x.way.bytes y.way.bytes;
  to = pair_of x.way.to y.way.to;
}

-- what two of these ways bring together are markers
abbrev pub HaveSmallMarks : List HalfWay → List HalfWay → Type 0
HaveSmallMarks xs ys = (x y : HalfWay) → Has xs x → Has ys y → x.way.marks + y.way.marks < 2 ^ 64

abbrev pub stops_meet : HalfStop → HalfStop → Bool
stops_meet x y = nat_eq x.shared y.shared

abbrev pub stop_pair : HalfStop → HalfStop → PairStop
stop_pair x y = record { at = pair_of x.stop.state y.stop.state; marks = x.stop.marks + y.stop.marks }

-- the elements with this number
abbrev pub those_at : {X : Type 0} → (X → ℕ) → ℕ → List X → List X
those_at at p xs = filter (λ x. nat_eq (at x) p) xs

-- what the elements at the two states of a pair make
abbrev pub pairs_at : {X Y R : Type 0} → (X → ℕ) → (Y → ℕ) → (X → Y → Bool) → (X → Y → R) → List X → List Y → Pair → List R
pairs_at at1 at2 test make xs ys k = pairs test make (those_at at2 k.right ys) (those_at at1 k.left xs)

-- all go together
abbrev pub always : {X Y : Type 0} → X → Y → Bool
always x y = true

-- the pairs of elements at the two states of a pair, each told by the pair: as many as are tried there
abbrev pub tried_at : {X Y : Type 0} → (X → ℕ) → (Y → ℕ) → List X → List Y → Pair → List Pair
tried_at {X} {Y} at1 at2 xs ys k = pairs_at at1 at2 always (λ (x : X) (y : Y). pair_of (at1 x) (at2 y)) xs ys k

-- these of the first and these of the second make what is made at the pair
pub record AreRowsOf (xs ys : List HalfWay) (k : Pair) (lefts rights : List HalfWay) : Type 0 where
  pub left : (x : HalfWay) → Has lefts x → Has xs x × (half_from x ≡ k.left)
  pub right : (y : HalfWay) → Has rights y → Has ys y × (half_from y ≡ k.right)
  pub made : pairs ways_meet way_pair rights lefts ≡ pairs_at half_from half_from ways_meet way_pair xs ys k

-- a way of the automaton whose states are the places of these pairs
pub record IsWayBetween (keys : List Pair) (r : PairWay) (y : Way) : Type 0 where
  pub from : slice_get keys y.from ≡ Some r.from
  pub marks : y.marks ≡ r.marks
  pub bytes : y.bytes ≡ r.bytes
  pub to : slice_get keys y.to ≡ Some r.to

pub record IsStopAt (keys : List Pair) (r : PairStop) (x : Stop) : Type 0 where
  pub at : slice_get keys x.state ≡ Some r.at
  pub marks : x.marks ≡ r.marks

-- the elements of two lists are so, place by place
abbrev pub Matched : {X Y : Type 0} → (X → Y → Type 0) → List X → List Y → Type 0
Matched P [] [] = Unit {0}
Matched P [] (y ∷ ys) = ⊥
Matched P (x ∷ xs) [] = ⊥
Matched P (x ∷ xs) (y ∷ ys) = P x y × Matched P xs ys

-- each pair is one of so many states of each side
abbrev pub ArePairsWithin : ℕ → ℕ → List Pair → Type 0
ArePairsWithin n1 n2 keys = (k : Pair) → Has keys k → (k.left < n1) × (k.right < n2)

-- these lead to pairs of so many states of each side
abbrev pub LeadWithin : ℕ → ℕ → List PairWay → Type 0
LeadWithin n1 n2 made = (r : PairWay) → Has made r → (r.to.left < n1) × (r.to.right < n2)

-- what one element of the first side makes with those of the second
abbrev pub ways_with : HalfWay → List HalfWay → List PairWay
ways_with x ys = map (way_pair x) (filter (ways_meet x) ys)

-- what is made at one pair, and at all pairs
abbrev pub ways_at : List HalfWay → List HalfWay → Pair → List PairWay
ways_at xs ys = pairs_at half_from half_from ways_meet way_pair xs ys

abbrev pub stops_at_pair : List HalfStop → List HalfStop → Pair → List PairStop
stops_at_pair xs ys = pairs_at half_at half_at stops_meet stop_pair xs ys

-- more pairs are found, and these ways are made
pub record IsFollowed (made : List PairWay) (keys1 : List Pair) (ways1 : List Way) (keys2 : List Pair) (ways2 : List Way) : Type 0 where
  pub found : List Pair
  pub keys : keys2 ≡ keys1 ++ found
  pub few : length keys1 ≤ MOST_STATES → length keys2 ≤ MOST_STATES
  pub within : (n1 n2 : ℕ) → ArePairsWithin n1 n2 keys1 → LeadWithin n1 n2 made → ArePairsWithin n1 n2 keys2
  pub new : List Way
  pub ways : ways2 ≡ ways1 ++ new
  pub between : Matched (IsWayBetween keys2) made new
  -- to each new pair a new way leads from one that was found before
  pub led : (p : ℕ) → length keys1 ≤ p → p < length keys2 → (y : Way) × Has new y × (y.to ≡ p) × (y.from < p)

-- a refusal where these ways are to be made
abbrev pub IsRefusalOf : List PairWay → List Pair → List Way → SizeFault → Type 0
IsRefusalOf made keys ways e =
    (n1 n2 w : ℕ) → ArePairsWithin n1 n2 keys → LeadWithin n1 n2 made → length ways + length made ≤ w → IsSizeFaultWithin (n1 * n2) w e

-- of each state the same elements, in the same order
abbrev pub HaveSameRows : {X : Type 0} → (X → ℕ) → List X → List X → Type 0
HaveSameRows at xs all = (p : ℕ) → those_at at p xs ≡ those_at at p all

-- all pairs of these states are found
pub record AreStarted (lefts rights : List ℕ) (keys1 keys2 : List Pair) : Type 0 where
  pub found : List Pair
  pub keys : keys2 ≡ keys1 ++ found
  pub few : length keys1 ≤ MOST_STATES → length keys2 ≤ MOST_STATES
  pub all : (p q : ℕ) → Has lefts p → Has rights q → Has keys2 (pair_of p q)
  pub only : (k : Pair) → Has keys2 k → Has keys1 k ⊎ (Has lefts k.left × Has rights k.right)

-- a refusal where these pairs are to be found
abbrev pub IsStartRefusal : List ℕ → List ℕ → List Pair → SizeFault → Type 0
IsStartRefusal lefts rights keys e =
    (n1 n2 w : ℕ) → ArePairsWithin n1 n2 keys → ((p : ℕ) → Has lefts p → p < n1) → ((q : ℕ) → Has rights q → q < n2) → IsSizeFaultWithin (n1 * n2) w e

-- the ends at one state
abbrev pub stop_at : ℕ → PairStop → Stop
stop_at state r = record { state = state; marks = r.marks }

-- what one end of the first side makes with those of the second
abbrev pub stops_with : HalfStop → List HalfStop → List PairStop
stops_with x ys = map (stop_pair x) (filter (stops_meet x) ys)

-- nothing but the ends differs, and nothing but the starts
pub record HasAllButStops (A B : Automaton) : Type 0 where
  pub states : A.states ≡ B.states
  pub starts : A.starts ≡ B.starts
  pub ways : A.ways ≡ B.ways
  pub idle : A.idle ≡ B.idle

pub record HasAllButStarts (A B : Automaton) : Type 0 where
  pub states : A.states ≡ B.states
  pub ways : A.ways ≡ B.ways
  pub stops : A.stops ≡ B.stops
  pub idle : A.idle ≡ B.idle

-- the pair of this number is idle on both sides
abbrev pub IsIdlePair : List Pair → List ℕ → List ℕ → ℕ → Type 0
IsIdlePair keys idle1 idle2 p = (k : Pair) × (slice_get keys p ≡ Some k) × Has idle1 k.left × Has idle2 k.right

-- this state, and both its states are idle
abbrev pub IsIdleHere : ℕ → Pair → List ℕ → List ℕ → ℕ → Type 0
IsIdleHere state k idle1 idle2 p = (p ≡ state) × Has idle1 k.left × Has idle2 k.right
