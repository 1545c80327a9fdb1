-- What the search of a join makes is its reduct.
use Rattle.std.proofs.Common.{◌≡◌, ℕ, zero, suc, ◌+◌, ◌*◌, ◌^◌, ◌<◌, ◌≤◌, ◌↔◌, Bool, true, false, ◌&&◌, List, [], ◌∷◌, ◌++◌, Option, Some, length, length-append, get_or, map, nat_eq, inl, inr, refl, sym, ap, subst, arith, ◌∙◌}
use Rattle.std.specs.Prelude.{All, IfErr, IfOk, slice_get, slice_index_or}
use Rattle.std.specs.declared.result.Result.{Result}
use Rattle.span_core.specs.declared.TheConstants.{MOST_VARIABLES}
use Rattle.std.specs.FinSet as set
use Rattle.std.specs.List.{filter, flat_map}
use Rattle.std.proofs.lemmas.Bool.{cases_lt, eq-eqb}
use Rattle.std.proofs.lemmas.Cmp.{nat_cmp_total}
use Rattle.std.proofs.lemmas.List.{map-append, length-map}
use Rattle.std.proofs.lemmas.List.Sorted.{length_permutation}
use Rattle.std.proofs.lemmas.Option.{slice_get_within, slice_get-get_or}
use Rattle.std.proofs.lemmas.Result.{IfErr-weaker}
use Rattle.spanner_model.specs.Captures.{VarName}
use Rattle.span_core.specs.Lists.{Has}
use Rattle.span_core.proofs.HasLaws.{Has-append_left, Has-get_or, Has-map, Has-map_cases, Has-slice_get, place_of-Has}
use Rattle.span_core.proofs.ListLaws.{get_left, filter_no_more}
use Rattle.marked_automaton.specs.declared.way.Way.{Way}
use Rattle.marked_automaton.specs.Automaton.{Automaton, ByteClass, IsMarked, IsWayOf, Marked, all_bytes, idle_way}
use Rattle.marked_automaton.specs.declared.fault.SizeFault.{SizeFault}
use Rattle.marked_automaton.specs.Faults.{IsSizeFaultWithin}
use Rattle.marked_automaton.specs.Reduct.{IsReached, Reduces}
use Rattle.marked_automaton.proofs.Listed.{some_same}
use Rattle.algebra.specs.declared.halves.HalfWay.{HalfWay}
use Rattle.algebra.specs.declared.halves.HalfStop.{HalfStop}
use Rattle.algebra.specs.declared.halves.Operand.{Operand}
use Rattle.algebra.specs.declared.pairs.Pair.{Pair}
use Rattle.algebra.specs.declared.fault.JoinFault.{JoinFault}
use Rattle.algebra.specs.declared.fault.JoinFault.TheVariants.{Size, Ends, Spent}
use Rattle.algebra.specs.JoinedMarks.{agree_on, joined}
use Rattle.algebra.specs.JoinedNames.{all_names}
use Rattle.algebra.specs.Joining.{IsJoinFault, IsJoinFaultWithin, IsJoinOf, join_over}
use Rattle.algebra.specs.Operations.{ends_with, goes_with, has_some, join_of, meet, pair_stop, pair_way}
use Rattle.algebra.specs.Pairs.{AreStarted, ArePairsWithin, HaveSameRows, HaveSmallMarks, IsIdlePair, IsStopAt, IsWayBetween, LeadWithin, Matched, PairStop, PairWay, half_at, half_from, pair_of, pairs, stop_pair, stops_at_pair, stops_meet, those_at, way_pair, ways_at, ways_meet}
use Rattle.algebra.specs.Renaming.{half_stop, half_way}
use Rattle.algebra.specs.Sides.{IsAssembledOf, IsMadeOf, IsRefusedSearch, IsSearchOf, IsSearchRefusal, IsSideOf, IsTold, graph_of, half_ways_of, shifts_of, stops_tried}
use Rattle.marked_automaton.proofs.Passing.{both_true, filter_cases, flat_map_cases, has_filter, has_flat_map, right_true}
use Rattle.algebra.proofs.Followed.{no_bytes, pairs_few, some_bytes}
use Rattle.algebra.proofs.Gathered.{gathered, one_of}
use Rattle.marked_automaton.proofs.Segments.{filter_yes, filter_no}
use Rattle.algebra.proofs.JoinResults.{faults_more, join_by}
use Rattle.algebra.proofs.Places.{match_from, match_len, match_of, place_there}
use Rattle.algebra.proofs.Reached.{AreSides, IsOfFound, coded_stop, coded_way, found_reduces, of_pairs}
use Rattle.algebra.proofs.RenamingLaws.{agree_is, joined_is, joined_small, moved_none, power_le}
use Rattle.algebra.proofs.Searched.{gathered_ways, row_has}
use Rattle.algebra.proofs.StepLaws.{tried_few, tried_same}

-- pairs of images make what pairs make
module _ {X Y U V R S : Type 0} (test : U → V → Bool) (make : U → V → R) (code : R → S) (hx : X → U) (hy : Y → V) (test0 : X → Y → Bool) (make0 : X → Y → S) where
  row_same : (x : X) (ys : List Y) → ((y : Y) → Has ys y → test (hx x) (hy y) ≡ test0 x y) → ((y : Y) → Has ys y → code (make (hx x) (hy y)) ≡ make0 x y) →
      map code (map (make (hx x)) (filter (test (hx x)) (map hy ys))) ≡ map (make0 x) (filter (test0 x) ys)
  row_same x [] t m = refl
  row_same x (y ∷ ys) t m = go (test0 x y) refl (row_same x ys (λ z h. t z (inr h)) (λ z h. m z (inr h)))
    where
      go : (b : Bool) → test0 x y ≡ b → map code (map (make (hx x)) (filter (test (hx x)) (map hy ys))) ≡ map (make0 x) (filter (test0 x) ys) →
          map code (map (make (hx x)) (filter (test (hx x)) (hy y ∷ map hy ys))) ≡ map (make0 x) (filter (test0 x) (y ∷ ys))
      go true e rest =
          ap (λ zs. map code (map (make (hx x)) zs)) (filter_yes (test (hx x)) (hy y) (map hy ys) (t y (inl refl) ∙ e))
          ∙ ((λ i. m y (inl refl) i ∷ rest i) ∙ sym (ap (map (make0 x)) (filter_yes (test0 x) y ys e)))
      go false e rest =
          ap (λ zs. map code (map (make (hx x)) zs)) (filter_no (test (hx x)) (hy y) (map hy ys) (t y (inl refl) ∙ e))
          ∙ (rest ∙ sym (ap (map (make0 x)) (filter_no (test0 x) y ys e)))

  pub pairs_same : (ys : List Y) (xs : List X) → ((x : X) (y : Y) → Has xs x → Has ys y → test (hx x) (hy y) ≡ test0 x y) →
      ((x : X) (y : Y) → Has xs x → Has ys y → code (make (hx x) (hy y)) ≡ make0 x y) →
      map code (pairs test make (map hy ys) (map hx xs)) ≡ pairs test0 make0 ys xs
  pairs_same ys [] t m = refl
  pairs_same ys (x ∷ xs) t m =
      map-append code (map (make (hx x)) (filter (test (hx x)) (map hy ys))) (pairs test make (map hy ys) (map hx xs))
      ∙ (λ i. row_same x ys (λ y h. t x y (inl refl) h) (λ y h. m x y (inl refl) h) i ++ pairs_same ys xs (λ z y h k. t z y (inr h) k) (λ z y h k. m z y (inr h) k) i)

-- by rows that are the same, a member is one
pub rows_has : {X : Type 0} (at : X → ℕ) (xs all : List X) → HaveSameRows at xs all → (x : X) → Has xs x → Has all x
rows_has at xs all same x h =
    let p = at x in
    (row_has at p all x (rw (← same p) (has_filter (λ y. nat_eq (at y) p) xs x h (eq-eqb p p refl)))).0

meet_itself : (s : ByteClass) → meet s s ≡ s
meet_itself s = set.same_set nat_cmp_total set.nat_cmp-IsAntisymmetric (meet s s) s (λ q. set.contains-intersection nat_cmp_total s s q ∙ twice (set.contains s q))
  where
    twice : (b : Bool) → (b && b) ≡ b
    twice true = refl
    twice false = refl

module _ {A B : Marked} (a : IsMarked A) (b : IsMarked B) (all : List VarName) where
  abbrev own1 : List (Option ℕ)
  own1 = shifts_of A.names A.names true all

  abbrev shared1 : List (Option ℕ)
  shared1 = shifts_of A.names B.names true all

  abbrev own2 : List (Option ℕ)
  own2 = shifts_of B.names A.names false all

  abbrev shared2 : List (Option ℕ)
  shared2 = shifts_of B.names A.names true all

  abbrev X : List HalfWay
  X = map (half_way own1 shared1) A.graph.ways

  abbrev Y : List HalfWay
  Y = map (half_way own2 shared2) B.graph.ways

  abbrev SX : List HalfStop
  SX = map (half_stop own1 shared1) A.graph.stops

  abbrev SY : List HalfStop
  SY = map (half_stop own2 shared2) B.graph.stops

  abbrev R : List PairWay
  R = pairs ways_meet way_pair Y X

  abbrev S : List PairStop
  S = pairs stops_meet stop_pair SY SX

  abbrev agree : ℕ → ℕ → Bool
  agree = agree_on A.names B.names all

  abbrev both : ℕ → ℕ → ℕ
  both = joined A.names B.names all

  abbrev n1 : ℕ
  n1 = A.graph.states

  abbrev n2 : ℕ
  n2 = B.graph.states

  abbrev pub J : Automaton
  J = join_of agree both A.graph B.graph

  abbrev K : Automaton
  K = of_pairs n1 n2 A.graph.starts B.graph.starts R S A.graph.idle B.graph.idle

  ways_are : map (coded_way n2) R ≡ J.ways
  ways_are = pairs_same ways_meet way_pair (coded_way n2) (half_way own1 shared1) (half_way own2 shared2) (goes_with agree both) (pair_way agree both n2) B.graph.ways A.graph.ways
      (λ x y hx hy. ap (λ b. b && has_some (meet x.bytes y.bytes)) (sym (agree_is A.names B.names x.marks y.marks (a.way_marks x hx) (b.way_marks y hy) all)))
      (λ x y hx hy.
      let marks = sym (joined_is A.names B.names x.marks y.marks (a.way_marks x hx) (b.way_marks y hy) all) in
      λ i. record { from = x.from * n2 + y.from; marks = marks i; bytes = meet x.bytes y.bytes; to = x.to * n2 + y.to })

  stops_are : map (coded_stop n2) S ≡ J.stops
  stops_are = pairs_same stops_meet stop_pair (coded_stop n2) (half_stop own1 shared1) (half_stop own2 shared2) (ends_with agree both) (pair_stop agree both n2) B.graph.stops A.graph.stops
      (λ x y hx hy. sym (agree_is A.names B.names x.marks y.marks (a.stop_marks x hx) (b.stop_marks y hy) all))
      (λ x y hx hy.
      let marks = sym (joined_is A.names B.names x.marks y.marks (a.stop_marks x hx) (b.stop_marks y hy) all) in
      λ i. record { state = x.state * n2 + y.state; marks = marks i })

  join_is : K ≡ J
  join_is = λ i. record { states = n1 * n2; starts = J.starts; ways = ways_are i; stops = stops_are i; idle = J.idle }

  ways_len : length R ≡ length J.ways
  ways_len = sym (length-map R (coded_way n2)) ∙ ap length ways_are

  stops_len : length S ≡ length J.stops
  stops_len = sym (length-map S (coded_stop n2)) ∙ ap length stops_are

  -- what the two bring together is small
  way_marks : (x y : HalfWay) → Has X x → Has Y y → x.way.marks + y.way.marks < 2 ^ (2 * length all)
  way_marks x y hx hy =
      let u = Has-map_cases (half_way own1 shared1) A.graph.ways x hx in
      let v = Has-map_cases (half_way own2 shared2) B.graph.ways y hy in
      let e = joined_is A.names B.names u.0.marks v.0.marks (a.way_marks u.0 u.1) (b.way_marks v.0 v.1) all in
      let s = joined_small A.names B.names u.0.marks v.0.marks (a.way_marks u.0 u.1) (b.way_marks v.0 v.1) all in
      omega (arith, e, s, ap (λ (x : HalfWay). x.way.marks) u.2, ap (λ (x : HalfWay). x.way.marks) v.2)

  stop_marks : (x y : HalfStop) → Has SX x → Has SY y → x.stop.marks + y.stop.marks < 2 ^ (2 * length all)
  stop_marks x y hx hy =
      let u = Has-map_cases (half_stop own1 shared1) A.graph.stops x hx in
      let v = Has-map_cases (half_stop own2 shared2) B.graph.stops y hy in
      let e = joined_is A.names B.names u.0.marks v.0.marks (a.stop_marks u.0 u.1) (b.stop_marks v.0 v.1) all in
      let s = joined_small A.names B.names u.0.marks v.0.marks (a.stop_marks u.0 u.1) (b.stop_marks v.0 v.1) all in
      omega (arith, e, s, ap (λ (x : HalfStop). x.stop.marks) u.2, ap (λ (x : HalfStop). x.stop.marks) v.2)

  -- a way between pairs, by its parts
  way_parts : (r : PairWay) → Has R r → (x : HalfWay) × (y : HalfWay) × Has X x × Has Y y × (ways_meet x y ≡ true) × (way_pair x y ≡ r)
  way_parts r h =
      let u = flat_map_cases (λ x. map (way_pair x) (filter (ways_meet x) Y)) X r h in
      let v = Has-map_cases (way_pair u.0) (filter (ways_meet u.0) Y) r u.2 in
      let w = filter_cases (ways_meet u.0) Y v.0 v.1 in
      (u.0, v.0, u.1, w.0, w.1, v.2)

  left_way : (x : HalfWay) → Has X x → (x.way.from < n1) × (x.way.to < n1)
  left_way x h =
      let u = Has-map_cases (half_way own1 shared1) A.graph.ways x h in
      (rw (← u.2) (a.whole.froms u.0 u.1), rw (← u.2) (a.whole.tos u.0 u.1))

  right_way : (y : HalfWay) → Has Y y → (y.way.from < n2) × (y.way.to < n2)
  right_way y h =
      let u = Has-map_cases (half_way own2 shared2) B.graph.ways y h in
      (rw (← u.2) (b.whole.froms u.0 u.1), rw (← u.2) (b.whole.tos u.0 u.1))

  lead_within : LeadWithin n1 n2 R
  lead_within = λ r h.
      let p = way_parts r h in
      let to = ap (λ (r : PairWay). r.to) p.5 in
      (rw (← to) (left_way p.0 p.2).1, rw (← to) (right_way p.1 p.3).1)

  sides : AreSides n1 n2 A.graph.starts B.graph.starts R S A.graph.idle B.graph.idle
  sides = record {
    starts = b.whole.starts;
    froms = λ r h. let p = way_parts r h in rw (← p.5) (right_way p.1 p.3).0;
    tos = λ r h. (lead_within r h).1;
    stops_at = λ r h.
        let u = flat_map_cases (λ x. map (stop_pair x) (filter (stops_meet x) SY)) SX r h in
        let v = Has-map_cases (stop_pair u.0) (filter (stops_meet u.0) SY) r u.2 in
        let w = filter_cases (stops_meet u.0) SY v.0 v.1 in
        let z = Has-map_cases (half_stop own2 shared2) B.graph.stops v.0 w.0 in
        let l : v.0.stop.state < n2 = rw (← z.2) (b.whole.stops z.0 z.1) in
        rw (← v.2) l;
    idles = b.whole.idles;
  }

  within_starts : (keys0 : List Pair) → AreStarted A.graph.starts B.graph.starts [] keys0 → ArePairsWithin n1 n2 keys0
  within_starts keys0 started = λ k h. elim (started.only k h) [ inl n ↦ absurd n | inr r ↦ (a.whole.starts k.left r.0, b.whole.starts k.right r.1) ]

  module _ {one two : Operand} (left : IsSideOf own1 shared1 A one) (right : IsSideOf own2 shared2 B two) where
    abbrev xs : List HalfWay
    xs = half_ways_of one

    abbrev ys : List HalfWay
    ys = half_ways_of two

    abbrev sx : List HalfStop
    sx = one.stops.items

    abbrev sy : List HalfStop
    sy = two.stops.items

    -- the ways of the two sides are these, and what they bring is small
    left_ways : xs ≡ X
    left_ways = λ i. map (half_way (left.own i) (left.shared i)) (left.automaton i).graph.ways

    right_ways : ys ≡ Y
    right_ways = λ i. map (half_way (right.own i) (right.shared i)) (right.automaton i).graph.ways

    pub small_marks : length all ≤ MOST_VARIABLES → HaveSmallMarks xs ys
    small_marks few =
        let le = power_le (2 * length all) 64 (omega (arith, few)) in
        rw right_ways
        (rw left_ways (λ x y hx hy. omega (arith, way_marks x y hx hy, le)))

    pub small_stop_marks : (x y : HalfStop) → Has sx x → Has sy y → x.stop.marks + y.stop.marks < 2 ^ (2 * length all)
    small_stop_marks x y hx hy = stop_marks x y (rows_has half_at sx SX left.stops x hx) (rows_has half_at sy SY right.stops y hy)

    -- the steps for the ways are those of the two automata
    pub ways_steps : 3 * (length xs * length ys) ≡ 3 * (length A.graph.ways * length B.graph.ways)
    ways_steps =
        let one : length xs ≡ length A.graph.ways = ap length left_ways ∙ length-map A.graph.ways (half_way own1 shared1) in
        let two : length ys ≡ length B.graph.ways = ap length right_ways ∙ length-map B.graph.ways (half_way own2 shared2) in
        (λ i. 3 * (one i * two i))

    -- a refusal of the search is one of the join
    refusal : all ≡ all_names A.names B.names → (e : SizeFault) → IsSearchRefusal one two e → IsJoinFault A B (Size e)
    refusal all_are e h =
        let of_both : IsRefusedSearch A.graph B.graph xs ys e =
        rw (← right.automaton)
        (rw (← left.automaton) h) in
        let all_ways : IsRefusedSearch A.graph B.graph X Y e =
        rw (← right_ways)
        (rw (← left_ways) of_both) in
        rw (← all_are)
        (all_ways (length J.ways) a.whole.starts b.whole.starts lead_within (omega (arith, ways_len)))

    pub told_refusal : all ≡ all_names A.names B.names → (f : JoinFault) → IsTold (IsSearchRefusal one two) f → IsJoinFault A B f
    told_refusal all_are (Size e) h = refusal all_are e h
    told_refusal all_are (Ends count) h = absurd h
    told_refusal all_are Spent h = tt

    module _ {keys : List Pair} {count : ℕ} {made : List Way} (s : IsSearchOf one two keys count made) where
      abbrev keys0 : List Pair
      keys0 = s.first

      started : AreStarted A.graph.starts B.graph.starts [] keys0
      started =
          rw (← right.automaton)
          (rw (← left.automaton) s.started)

      rows : flat_map (ways_at xs ys) keys ≡ flat_map (ways_at X Y) keys
      rows = λ i. flat_map (ways_at (left_ways i) (right_ways i)) keys

      stop_rows : flat_map (stops_at_pair sx sy) keys ≡ flat_map (stops_at_pair SX SY) keys
      stop_rows = λ i. flat_map (λ (k : Pair). pairs stops_meet stop_pair (right.stops k.right i) (left.stops k.left i)) keys

      starts_within : ArePairsWithin n1 n2 keys0
      starts_within = within_starts keys0 started

      in_all : (r : PairWay) → Has (flat_map (ways_at xs ys) keys) r → Has R r
      in_all r h = gathered_ways keys X Y r s.apart (rw (← rows) h)

      within : ArePairsWithin n1 n2 keys
      within = s.followed.within n1 n2 starts_within (λ r h. lead_within r (in_all r h))

      pub within_sides : ArePairsWithin (graph_of one).states (graph_of two).states keys
      within_sides =
          rw right.automaton
          (rw left.automaton within)

      between : Matched (IsWayBetween keys) (flat_map (ways_at xs ys) keys) made
      between = rw s.followed.ways s.followed.between

      ways_fit : (y : Way) → Has made y → IsWayOf (length keys) (length all) y
      ways_fit y h =
          let k = place_of-Has made y h in
          let m = match_from (IsWayBetween keys) (flat_map (ways_at xs ys) keys) made k.0 y between k.2 in
          let p = way_parts m.0 (in_all m.0 (Has-slice_get (flat_map (ways_at xs ys) keys) k.0 m.0 m.1)) in
          let small = way_marks p.0 p.1 p.2 p.3 in
          let marks : p.0.way.marks + p.1.way.marks ≡ y.marks = ap (λ (r : PairWay). r.marks) p.5 ∙ sym m.2.marks in
          let bytes : meet p.0.way.bytes p.1.way.bytes ≡ y.bytes = ap (λ (r : PairWay). r.bytes) p.5 ∙ sym m.2.bytes in
          let some : has_some (meet p.0.way.bytes p.1.way.bytes) ≡ true = right_true (nat_eq p.0.shared p.1.shared) (has_some (meet p.0.way.bytes p.1.way.bytes)) p.4 in
          record {
            from = slice_get_within keys y.from m.0.from m.2.from;
            to = slice_get_within keys y.to m.0.to m.2.to;
            marks = rw (← marks) small;
            bytes = λ e. let f : true ≡ false = sym some ∙ no_bytes (meet p.0.way.bytes p.1.way.bytes) (bytes ∙ e) in absurd (cc);
          }

      pub all_fit : All (IsWayOf (length keys) (length all)) made
      all_fit = λ k d l. ways_fit (slice_index_or made k d) (Has-get_or made k d l)

      -- no more pairs and no more ways than there are in all
      keys_few : length keys ≤ n1 * n2
      keys_few = pairs_few n1 n2 keys s.apart within

      made_few : length made ≤ length J.ways
      made_few =
          let some = filter (λ (r : PairWay). one_of keys r.from) R in
          let perm = gathered half_from half_from ways_meet way_pair (λ (r : PairWay). r.from) (λ x y. refl) keys Y X s.apart in
          let len : length (flat_map (ways_at X Y) keys) ≡ length some = length_permutation some (flat_map (ways_at X Y) keys) perm in
          let few : length some ≤ length R = filter_no_more (λ (r : PairWay). one_of keys r.from) R in
          let match : length (flat_map (ways_at xs ys) keys) ≡ length made = match_len (IsWayBetween keys) (flat_map (ways_at xs ys) keys) made between in
          omega (arith, len, few, match, ap length rows, ways_len)

      -- and no more ends
      stops_few : length (flat_map (stops_at_pair sx sy) keys) ≤ length J.stops
      stops_few =
          let some = filter (λ (r : PairStop). one_of keys r.at) S in
          let perm = gathered half_at half_at stops_meet stop_pair (λ (r : PairStop). r.at) (λ x y. refl) keys SY SX s.apart in
          let len : length (flat_map (stops_at_pair SX SY) keys) ≡ length some = length_permutation some (flat_map (stops_at_pair SX SY) keys) perm in
          let few : length some ≤ length S = filter_no_more (λ (r : PairStop). one_of keys r.at) S in
          omega (arith, len, few, ap length stop_rows, stops_len)

      -- and no more steps for the ends than there are pairs of them
      pub stops_steps : length (stops_tried sx sy keys) ≤ length A.graph.stops * length B.graph.stops
      stops_steps =
          let one : length SX ≡ length A.graph.stops = length-map A.graph.stops (half_stop own1 shared1) in
          let two : length SY ≡ length B.graph.stops = length-map B.graph.stops (half_stop own2 shared2) in
          let all : length SX * length SY ≡ length A.graph.stops * length B.graph.stops = (λ i. one i * two i) in
          omega (arith, ap length (tried_same half_at half_at sx SX sy SY keys left.stops right.stops), tried_few half_at half_at keys SX SY s.apart, all)

      one_place : (k : Pair) (i j : ℕ) → slice_get keys i ≡ Some k → slice_get keys j ≡ Some k → i ≡ j
      one_place k i j p q = some_same i j (sym (place_there keys k i s.apart p) ∙ place_there keys k j s.apart q)

      idle_there : (p : ℕ) → IsIdlePair keys A.graph.idle B.graph.idle p → Has made (idle_way p)
      idle_there p h =
          let k = h.0 in
          let wx = a.idle_ways k.left h.2 in
          let wy = b.idle_ways k.right h.3 in
          let x = half_way own1 shared1 (idle_way k.left) in
          let y = half_way own2 shared2 (idle_way k.right) in
          let hx : Has (those_at half_from k.left X) x =
          has_filter (λ z. nat_eq (half_from z) k.left) X x (Has-map (half_way own1 shared1) A.graph.ways (idle_way k.left) wx) (eq-eqb k.left k.left refl) in
          let hy : Has (those_at half_from k.right Y) y =
          has_filter (λ z. nat_eq (half_from z) k.right) Y y (Has-map (half_way own2 shared2) B.graph.ways (idle_way k.right) wy) (eq-eqb k.right k.right refl) in
          let some : has_some (meet all_bytes all_bytes) ≡ true = ap has_some (meet_itself all_bytes) ∙ some_bytes all_bytes (a.some_byte (idle_way k.left) wx) in
          let agrees : nat_eq x.shared y.shared ≡ true = eq-eqb x.shared y.shared (moved_none shared1 ∙ sym (moved_none shared2)) in
          let ok : ways_meet x y ≡ true = both_true (nat_eq x.shared y.shared) (has_some (meet all_bytes all_bytes)) agrees some in
          let r = way_pair x y in
          let here : Has (ways_at X Y k) r = has_flat_map (λ x. map (way_pair x) (filter (ways_meet x) (those_at half_from k.right Y))) (those_at half_from k.left X) x r hx
          (Has-map (way_pair x) (filter (ways_meet x) (those_at half_from k.right Y)) y (has_filter (ways_meet x) (those_at half_from k.right Y) y hy ok)) in
          let there : Has (flat_map (ways_at xs ys) keys) r = rw rows (has_flat_map (ways_at X Y) keys k r (Has-slice_get keys p k h.1) here) in
          let place = place_of-Has (flat_map (ways_at xs ys) keys) r there in
          let m = match_of (IsWayBetween keys) (flat_map (ways_at xs ys) keys) made place.0 r between place.2 in
          let from : m.0.from ≡ p = one_place k m.0.from p m.2.from h.1 in
          let to : m.0.to ≡ p = one_place k m.0.to p m.2.to h.1 in
          let marks : m.0.marks ≡ 0 = omega (arith, m.2.marks, moved_none own1, moved_none own2) in
          let bytes : m.0.bytes ≡ all_bytes = m.2.bytes ∙ meet_itself all_bytes in
          subst (Has made) (λ i. record { from = from i; marks = marks i; bytes = bytes i; to = to i }) (Has-slice_get made place.0 m.0 m.1)

      pub idle_in_sides : (p : ℕ) → IsIdlePair keys (graph_of one).idle (graph_of two).idle p → Has made (idle_way p)
      idle_in_sides p h =
          idle_there p
          (rw (← right.automaton)
          (rw (← left.automaton) h))

      pub starts_few : count ≤ length keys
      starts_few = omega (arith, s.counted, ap length s.followed.keys, length-append s.first s.followed.found)

      module _ {C : Automaton} (is : IsMadeOf keys count made sx sy A.graph.idle B.graph.idle C) where
        is0 : IsMadeOf keys (length keys0) made sx sy A.graph.idle B.graph.idle C
        is0 = rw (← s.counted) is

        start_place : (i : ℕ) (k : Pair) → slice_get keys i ≡ Some k → (i < length keys0) ↔ (Has A.graph.starts k.left × Has B.graph.starts k.right)
        start_place i k at = (
          (λ l.
              let d = pair_of 0 0 in
              let there = slice_get-get_or keys0 i d l in
              let same : get_or keys0 i d ≡ k = some_same (get_or keys0 i d) k (sym (ap (λ zs. slice_get zs i) s.followed.keys ∙ get_left keys0 s.followed.found i (get_or keys0 i d) there) ∙ at) in
              elim (started.only k (subst (Has keys0) same (Has-slice_get keys0 i (get_or keys0 i d) there))) [ inl n ↦ absurd n | inr r ↦ r ]),
          (λ h.
              let has : Has keys0 k = started.all k.left k.right h.0 h.1 in
              let j = place_of-Has keys0 k has in
              let there : slice_get keys j.0 ≡ Some k = ap (λ zs. slice_get zs j.0) s.followed.keys ∙ get_left keys0 s.followed.found j.0 k j.2 in
              omega (arith, one_place k i j.0 at there, j.1)),
        )

        fewer : length keys0 ≤ length keys
        fewer = omega (arith, ap length s.followed.keys, length-append keys0 s.followed.found)

        of_found : IsOfFound A.graph.starts B.graph.starts R (flat_map (ways_at X Y) keys) S (flat_map (stops_at_pair SX SY) keys) A.graph.idle B.graph.idle keys C
        of_found = record {
          apart = s.apart;
          states = is.states;
          started = λ p q h k. rw s.followed.keys (Has-append_left keys0 s.followed.found (pair_of p q) (started.all p q h k));
          starts = λ i k at. let here = start_place i k at in ((λ h. here.0 ((is0.starts i).0 h)), (λ h. (is0.starts i).1 (here.1 h)));
          starts_within = λ i h. omega (arith, (is0.starts i).0 h, fewer);
          ways_are = gathered half_from half_from ways_meet way_pair (λ (r : PairWay). r.from) (λ x y. refl) keys Y X s.apart;
          ways_match = rw is.ways
              (rw (← rows) between);
          stops_are = gathered half_at half_at stops_meet stop_pair (λ (r : PairStop). r.at) (λ x y. refl) keys SY SX s.apart;
          stops_match = rw (← stop_rows) is.stops;
          idles = λ i k at. (
            (λ h.
                let r = (is.idles i).0 h in
                let same : r.0 ≡ k = some_same r.0 k (sym r.1 ∙ at) in
                (rw (← same) r.2, rw (← same) r.3)),
            (λ h. (is.idles i).1 (k, at, h.0, h.1)),
          );
        }

        -- each state is that of a pair of starts, or a way leads to it from a state before it
        reached : (p : ℕ) → p < C.states → IsReached C p
        reached p l = below (suc p) p (omega arith) (omega (arith, l, is.states))
          where
            below : (b p : ℕ) → p < b → p < length keys → IsReached C p
            below zero p l m = absurd (omega (arith, l))
            below (suc b) p l m = elim (cases_lt p (length keys0)) [
              | inl first ↦ (0, (is0.starts p).1 first)
              | inr later ↦
                  let y = s.followed.led p later m in
                  let r = below b y.0.from (omega (arith, l, y.3)) (omega (arith, m, y.3)) in
                  (suc r.0, (y.0, rw (is.ways ∙ s.followed.ways) y.1, r.1, y.2))
            ]

        join_reduces : Reduces C J
        join_reduces = subst (Reduces C) join_is
            (found_reduces n1 n2 A.graph.starts B.graph.starts R S A.graph.idle B.graph.idle sides keys within (flat_map (ways_at X Y) keys) (flat_map (stops_at_pair SX SY) keys) C of_found)

      pub join_made : all ≡ all_names A.names B.names → (r : Result Marked JoinFault) → IfOk r (λ (j : Marked). j.names ≡ all) →
          IfOk r (λ (j : Marked). IsAssembledOf one two keys count made j.graph) → IfOk r (IsJoinOf A B)
      join_made all_are r names is =
          join_by A B all all_are r (λ C. IsMadeOf keys count made sx sy A.graph.idle B.graph.idle C) (λ C is. join_reduces is) (λ C is. reached is) names
          (rw (← right.automaton)
          (rw (← left.automaton) is))

      pub fault_made : all ≡ all_names A.names B.names → (r : Result Marked JoinFault) →
          IfErr r (IsJoinFaultWithin (length keys) (length made) (length (flat_map (stops_at_pair sx sy) keys))) → IfErr r (IsJoinFault A B)
      fault_made all_are r h =
          let ends = length (flat_map (stops_at_pair sx sy) keys) in
          IfErr-weaker r (IsJoinFaultWithin (length keys) (length made) ends) (IsJoinFault A B)
          (λ e f. rw (← all_are)
          (faults_more (length keys) (n1 * n2) (length made) (length J.ways) ends (length J.stops) e keys_few made_few stops_few f)) h
