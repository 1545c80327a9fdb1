-- An automaton turned round, start by start.
use Rattle.std.proofs.Common.{◌≡◌, ℕ, ◌<◌, List, [], length, get_or, take, sym, ap, subst, arith}
use Rattle.std.specs.Prelude.{map}
use Rattle.std.specs.List.{filter}
use Rattle.span_core.specs.Lists.{Has}
use Rattle.span_core.proofs.HasLaws.{Has-get_or, Has-map_cases}
use Rattle.marked_automaton.specs.declared.way.Way.{Way}
use Rattle.marked_automaton.specs.declared.way.Stop.{Stop}
use Rattle.marked_automaton.specs.Automaton.{Automaton, IsMarked, IsWayOf, Marked, turned_way}
use Rattle.marked_automaton.proofs.Passing.{filter_cases}
use Rattle.segment_filter.specs.Readings.{moves_on}
use Rattle.segment_filter.specs.Sets.{TakesNone}

turned_way_of : (A : Marked) → IsMarked A → TakesNone A.graph → (y : Way) → Has (map turned_way (filter moves_on A.graph.ways)) y → IsWayOf A.graph.states 0 y
turned_way_of A m none y h =
    let x = Has-map_cases turned_way (filter moves_on A.graph.ways) y h in
    let k = filter_cases moves_on A.graph.ways x.0 x.1 in
    subst (IsWayOf A.graph.states 0) x.2 (record {
      from = m.whole.tos x.0 k.0;
      to = m.whole.froms x.0 k.0;
      marks = let z = none x.0 k.0 in omega (arith, z);
      bytes = m.some_byte x.0 k.0;
    })

pub turned_ways_of : (A : Marked) → IsMarked A → TakesNone A.graph → (items : List Way) (states v : ℕ) → items ≡ map turned_way (filter moves_on A.graph.ways) →
    states ≡ A.graph.states → v ≡ 0 → (k : ℕ) (d : Way) → k < length items → IsWayOf states v (get_or items k d)
turned_ways_of A m none items states v is s z k d l =
    let there : Has (map turned_way (filter moves_on A.graph.ways)) (get_or items k d) = rw (← is) (Has-get_or items k d l) in
    rw s (rw z (turned_way_of A m none (get_or items k d) there))

-- with the starts of the first n ends
abbrev pub turned_to : Automaton → ℕ → Automaton
turned_to A n = record {
  states = A.states;
  starts = map (λ (x : Stop). x.state) (take n A.stops);
  ways = map turned_way (filter moves_on A.ways);
  stops = [];
  idle = [];
}

pub stop_inside : (A : Marked) → IsMarked A → (B : Automaton) (n i : ℕ) (xs : List Stop) (x : Stop) → xs ≡ A.graph.stops → i < length xs → x ≡ get_or xs i x →
    B ≡ turned_to A.graph n → x.state < B.states
stop_inside A m B n i xs x same l at is =
    let there : Has A.graph.stops x = rw (← same) (subst (Has xs) (sym at) (Has-get_or xs i x l)) in
    let below = m.whole.stops x there in
    let states : B.states ≡ A.graph.states = ap (λ (C : Automaton). C.states) is in
    omega (arith, below, states)
