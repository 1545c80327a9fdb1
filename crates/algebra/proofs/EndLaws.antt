-- How many ends a join has.
use Rattle.std.proofs.Common.{◌≡◌, ℕ, ◌+◌, ◌*◌, ◌<◌, ◌≤◌, Bool, List, [], ◌∷◌, ◌++◌, length, map, get_or, take, drop, sym, ap, arith, ◌∙◌, length-append}
use Rattle.std.specs.List.{filter, flat_map}
use Rattle.std.proofs.lemmas.Grind.{flat_map-append}
use Rattle.std.proofs.lemmas.List.{append-nil, length-map, take-append-drop}
use Rattle.span_core.proofs.ListLaws.{filter_no_more}
use Rattle.spanner_model.specs.Captures.{VarName}
use Rattle.marked_automaton.specs.declared.way.Stop.{Stop}
use Rattle.algebra.specs.declared.halves.HalfStop.{HalfStop}
use Rattle.algebra.specs.declared.pairs.Pair.{Pair}
use Rattle.algebra.specs.JoinedMarks.{agree_on, joined}
use Rattle.algebra.specs.JoinedNames.{all_names}
use Rattle.algebra.specs.Joining.{JoinsOfFewEnds, join_over}
use Rattle.algebra.specs.Operations.{ends_with, pair_stop}
use Rattle.algebra.specs.Pairs.{IsStopAt, Matched, pairs, stop_at, stop_pair, stops_at_pair, stops_meet}
use Rattle.algebra.proofs.Places.{match_len}
use Rattle.algebra.proofs.Searched.{rows_more}

-- what is made of the first of a list is no more than what is made of all
pub first_no_more : {X R : Type 0} (f : X → List R) (i : ℕ) (xs : List X) → length (flat_map f (take i xs)) ≤ length (flat_map f xs)
first_no_more f i xs =
    let all : flat_map f xs ≡ flat_map f (take i xs) ++ flat_map f (drop i xs) = ap (flat_map f) (sym (take-append-drop i xs)) ∙ flat_map-append f (take i xs) (drop i xs) in
    omega (arith, ap length all, length-append (flat_map f (take i xs)) (flat_map f (drop i xs)))

-- the ends at a state that are made so far
pub ends_so_far : (old now : List Stop) (state : ℕ) (xs ys : List HalfStop) (i : ℕ) → now ≡ old ++ map (stop_at state) (pairs stops_meet stop_pair ys (take i xs)) →
    length now ≤ length old + length (pairs stops_meet stop_pair ys xs)
ends_so_far old now state xs ys i is =
    let made = pairs stops_meet stop_pair ys (take i xs) in
    omega (arith, ap length is, length-append old (map (stop_at state) made), length-map made (stop_at state), first_no_more (λ (x : HalfStop). map (stop_pair x) (filter (stops_meet x) ys)) i xs)

-- the ends that are made so far, with those of one pair more
pub ends_with_pair : (old now made : List Stop) (xs ys : List HalfStop) (found : List Pair) (i : ℕ) (k : Pair) → i < length found → k ≡ get_or found i k → now ≡ old ++ made →
    Matched (IsStopAt found) (flat_map (stops_at_pair xs ys) (take i found)) made → length now + length (stops_at_pair xs ys k) ≤ length old + length (flat_map (stops_at_pair xs ys) found)
ends_with_pair old now made xs ys found i k l is all match =
    let here = stops_at_pair xs ys k in
    let before = flat_map (stops_at_pair xs ys) (take i found) in
    let more : flat_map (stops_at_pair xs ys) (take (i + 1) found) ≡ before ++ here =
    ap (λ zs. flat_map (stops_at_pair xs ys) (take (i + 1) zs)) (sym (append-nil found)) ∙ rows_more (stops_at_pair xs ys) found [] i k l is in
    omega (arith, ap length all, length-append old made, match_len (IsStopAt found) before made match, ap length more, length-append before here, first_no_more (stops_at_pair xs ys) (i + 1) found)

-- what pairs make is no more than the product
pub pairs_no_more : {X Y R : Type 0} (test : X → Y → Bool) (make : X → Y → R) (ys : List Y) (xs : List X) → length (pairs test make ys xs) ≤ length xs * length ys
pairs_no_more test make ys [] = omega arith
pairs_no_more test make ys (x ∷ xs) =
    let here = map (make x) (filter (test x) ys) in
    omega (arith, pairs_no_more test make ys xs, length-append here (pairs test make ys xs), length-map (filter (test x) ys) (make x), filter_no_more (test x) ys)

pub joins_of_few_ends : JoinsOfFewEnds
joins_of_few_ends A B = (few, λ within count h. omega (arith, few (all_names A.names B.names), within, h.0, h.1))
  where
    few : (all : List VarName) → length (join_over A B all).stops ≤ length A.graph.stops * length B.graph.stops
    few all = pairs_no_more (ends_with (agree_on A.names B.names all) (joined A.names B.names all))
        (pair_stop (agree_on A.names B.names all) (joined A.names B.names all) B.graph.states) B.graph.stops A.graph.stops
