-- The two sides of a join, and what is made of them.
use Rattle.std.specs.Prelude.{◌≡◌, ℕ, ◌*◌, ◌<◌, ◌≤◌, ◌↔◌, ◌⊎◌, [], Bool, List, length, map, Option}
use Rattle.std.specs.List.{flat_map}
use Rattle.std.specs.List.Sorted.{IsNonDecreasingBy}
use Rattle.spanner_model.specs.Captures.{VarName}
use Rattle.span_core.specs.Lists.{Has, AreDistinct}
use Rattle.marked_automaton.specs.declared.way.Way.{Way}
use Rattle.marked_automaton.specs.declared.TheConstants.{MOST_STATES}
use Rattle.marked_automaton.specs.declared.fault.SizeFault.{SizeFault}
use Rattle.marked_automaton.specs.declared.fault.SizeFault.TheVariants.{States}
use Rattle.marked_automaton.specs.Faults.{IsSizeFaultWithin}
use Rattle.marked_automaton.specs.Automaton.{AreGrouped, Automaton, Marked}
use Rattle.algebra.specs.declared.fault.JoinFault.{JoinFault}
use Rattle.algebra.specs.declared.fault.JoinFault.TheVariants.{Size, Ends, Spent}
use Rattle.algebra.specs.declared.halves.HalfWay.{HalfWay}
use Rattle.algebra.specs.declared.halves.HalfStop.{HalfStop}
use Rattle.algebra.specs.declared.halves.Operand.{Operand}
use Rattle.algebra.specs.declared.pairs.Pair.{Pair}
use Rattle.algebra.specs.Pairs.{AreStarted, HaveSameRows, IsFollowed, IsIdlePair, IsRefusalOf, IsStopAt, LeadWithin, Matched, PairWay, half_at, half_from, pairs, stops_at_pair, tried_at, way_pair, ways_at, ways_meet}
use Rattle.algebra.specs.Renaming.{AreShifts, half_stop, half_way, shift_of}

-- for each of all names where its bits stand
abbrev pub shifts_of : List VarName → List VarName → Bool → List VarName → List (Option ℕ)
shifts_of names other wanted all = map (shift_of names other wanted) all

abbrev pub graph_of : Operand → Automaton
graph_of side = side.automaton.now.graph

-- its ways are grouped, and the places of bits are those of variables
pub record IsJoinable (side : Operand) : Type 0 where
  pub grouped : AreGrouped (graph_of side).ways
  pub own : AreShifts side.own.items
  pub shared : AreShifts side.shared.items

-- the ways of its automaton as those of a side
abbrev pub half_ways_of : Operand → List HalfWay
half_ways_of side = map (half_way side.own.items side.shared.items) (graph_of side).ways

-- the side is this automaton with these places of bits, and has its ends in the order of their states
pub record IsSideOf (brought agreed : List (Option ℕ)) (A : Marked) (side : Operand) : Type 0 where
  pub automaton : side.automaton.now ≡ A
  pub own : side.own.items ≡ brought
  pub shared : side.shared.items ≡ agreed
  pub stop_order : IsNonDecreasingBy half_at side.stops.items
  pub stops : HaveSameRows half_at side.stops.items (map (half_stop brought agreed) A.graph.stops)

-- an automaton whose states are the places of pairs, of which so many are starts
pub record IsMadeOf (keys : List Pair) (count : ℕ) (made : List Way) (left right : List HalfStop) (idle1 idle2 : List ℕ) (C : Automaton) : Type 0 where
  pub apart : AreDistinct keys
  pub states : C.states ≡ length keys
  pub starts : (p : ℕ) → Has C.starts p ↔ (p < count)
  pub ways : C.ways ≡ made
  pub stops : Matched (IsStopAt keys) (flat_map (stops_at_pair left right) keys) C.stops
  pub idles : (p : ℕ) → Has C.idle p ↔ IsIdlePair keys idle1 idle2 p

-- such an automaton, of the pairs of two sides
abbrev pub IsAssembledOf : Operand → Operand → List Pair → ℕ → List Way → Automaton → Type 0
IsAssembledOf one two keys count made = IsMadeOf keys count made one.stops.items two.stops.items (graph_of one).idle (graph_of two).idle

-- what is made at all of these pairs
abbrev pub ways_of_all : Operand → Operand → List Pair → List PairWay
ways_of_all one two keys = flat_map (ways_at (half_ways_of one) (half_ways_of two)) keys

-- the pairs that a search found, of which the first so many are those of starts, and the ways that it made
pub record IsSearchOf (one two : Operand) (keys : List Pair) (count : ℕ) (made : List Way) : Type 0 where
  pub first : List Pair
  pub counted : count ≡ length first
  pub apart : AreDistinct keys
  pub few : length keys ≤ MOST_STATES
  pub started : AreStarted (graph_of one).starts (graph_of two).starts [] first
  pub followed : IsFollowed (ways_of_all one two keys) first [] keys made

-- a refusal of a search, told by all ways that there are
abbrev pub IsRefusedSearch : Automaton → Automaton → List HalfWay → List HalfWay → SizeFault → Type 0
IsRefusedSearch A B xs ys e =
    (w : ℕ) → ((p : ℕ) → Has A.starts p → p < A.states) → ((q : ℕ) → Has B.starts q → q < B.states) →
    LeadWithin A.states B.states (pairs ways_meet way_pair ys xs) → length (pairs ways_meet way_pair ys xs) ≤ w →
    IsSizeFaultWithin (A.states * B.states) w e

abbrev pub IsSearchRefusal : Operand → Operand → SizeFault → Type 0
IsSearchRefusal one two = IsRefusedSearch (graph_of one) (graph_of two) (half_ways_of one) (half_ways_of two)

-- a refusal because there may be too many pairs of states: it tells how many there are
abbrev pub IsProductRefusal : Automaton → Automaton → SizeFault → Type 0
IsProductRefusal A B e = (MOST_STATES < A.states * B.states) × (e ≡ States (A.states * B.states))

-- a refusal where all pairs that are found are followed
abbrev pub IsFollowRefusal : Operand → Operand → List Pair → List Way → SizeFault → Type 0
IsFollowRefusal one two keys ways e =
    IsRefusalOf (pairs ways_meet way_pair (half_ways_of two) (half_ways_of one)) keys ways e ⊎ IsProductRefusal (graph_of one) (graph_of two) e

-- what a size fault says, of the fault of a join
abbrev pub IsTold : (SizeFault → Type 0) → JoinFault → Type 0
IsTold P (Size fault) = P fault
IsTold P (Ends count) = ⊥
IsTold P Spent = Unit {0}

-- the pairs of ways of two sides that are tried at these pairs of states, and the pairs of ends
abbrev pub ways_tried : Operand → Operand → List Pair → List Pair
ways_tried one two keys = flat_map (tried_at half_from half_from (half_ways_of one) (half_ways_of two)) keys

abbrev pub stops_tried : List HalfStop → List HalfStop → List Pair → List Pair
stops_tried xs ys keys = flat_map (tried_at half_at half_at xs ys) keys
