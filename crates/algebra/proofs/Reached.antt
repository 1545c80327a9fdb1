-- The pairs of some states, among which are all that are reached, are enough of a join.
use Rattle.std.proofs.Common.{◌≡◌, ℕ, zero, suc, ◌+◌, ◌*◌, ◌/◌, ◌%◌, ◌<◌, ◌↔◌, List, Option, Some, length, get_or, sym, ap, subst, arith, ◌∙◌}
use Rattle.std.specs.Prelude.{slice_get, map}
use Rattle.std.specs.List.{filter, flat_map}
use Rattle.std.specs.List.Sorted.{IsPermutation}
use Rattle.std.proofs.lemmas.Nat.{div-mul-add, mod-mul-add, div-add-mod', mul-add-lt}
use Rattle.std.proofs.lemmas.Option.{slice_get_within, slice_get-get_or}
use Rattle.span_core.specs.Lists.{Has, AreDistinct}
use Rattle.span_core.proofs.HasLaws.{Has-slice_get, Has-map, Has-map_cases, place_of-Has}
use Rattle.marked_automaton.specs.declared.way.Way.{Way}
use Rattle.marked_automaton.specs.declared.way.Stop.{Stop}
use Rattle.marked_automaton.specs.Automaton.{Automaton, HasByte}
use Rattle.marked_automaton.specs.Reduct.{IsReachedIn, IsReached, HasEnd, Knows, Reduces}
use Rattle.marked_automaton.proofs.Listed.{some_same, get_map, get_map_cases}
use Rattle.algebra.specs.declared.pairs.Pair.{Pair}
use Rattle.algebra.specs.Pairs.{pair_of, PairWay, PairStop, IsWayBetween, IsStopAt, Matched, ArePairsWithin}
use Rattle.algebra.proofs.Gathered.{one_of}
use Rattle.marked_automaton.proofs.Passing.{flat_map_cases, has_flat_map}
use Rattle.algebra.proofs.Joins.{pair_same}
use Rattle.algebra.proofs.Places as put
use Rattle.algebra.proofs.Places.{place_in, place_is, place_there, match_of, match_from}

-- the number of a pair among all pairs, where the second side has n states
abbrev pub coded : ℕ → Pair → ℕ
coded n k = k.left * n + k.right

abbrev pub coded_way : ℕ → PairWay → Way
coded_way n r = record { from = coded n r.from; marks = r.marks; bytes = r.bytes; to = coded n r.to }

abbrev pub coded_stop : ℕ → PairStop → Stop
coded_stop n r = record { state = coded n r.at; marks = r.marks }

abbrev pub numbers : ℕ → List ℕ → List ℕ → List ℕ
numbers n ys xs = flat_map (λ p. map (λ q. p * n + q) ys) xs

-- the automaton of all pairs
abbrev pub of_pairs : ℕ → ℕ → List ℕ → List ℕ → List PairWay → List PairStop → List ℕ → List ℕ → Automaton
of_pairs n1 n2 starts1 starts2 ways stops idle1 idle2 = record {
  states = n1 * n2;
  starts = numbers n2 starts2 starts1;
  ways = map (coded_way n2) ways;
  stops = map (coded_stop n2) stops;
  idle = numbers n2 idle2 idle1;
}

-- what stands in the two sides
pub record AreSides (n1 n2 : ℕ) (starts1 starts2 : List ℕ) (ways : List PairWay) (stops : List PairStop) (idle1 idle2 : List ℕ) : Type 0 where
  pub starts : (q : ℕ) → Has starts2 q → q < n2
  pub froms : (r : PairWay) → Has ways r → r.from.right < n2
  pub tos : (r : PairWay) → Has ways r → r.to.right < n2
  pub stops_at : (r : PairStop) → Has stops r → r.at.right < n2
  pub idles : (q : ℕ) → Has idle2 q → q < n2

-- an automaton of the pairs that are found
pub record IsOfFound (starts1 starts2 : List ℕ) (ways made : List PairWay) (stops made_stops : List PairStop) (idle1 idle2 : List ℕ) (keys : List Pair) (C : Automaton) : Type 0 where
  pub apart : AreDistinct keys
  pub states : C.states ≡ length keys
  pub started : (p q : ℕ) → Has starts1 p → Has starts2 q → Has keys (pair_of p q)
  pub starts : (a : ℕ) (k : Pair) → slice_get keys a ≡ Some k → Has C.starts a ↔ (Has starts1 k.left × Has starts2 k.right)
  pub starts_within : (a : ℕ) → Has C.starts a → a < length keys
  pub ways_are : IsPermutation (filter (λ (r : PairWay). one_of keys r.from) ways) made
  pub ways_match : Matched (IsWayBetween keys) made C.ways
  pub stops_are : IsPermutation (filter (λ (r : PairStop). one_of keys r.at) stops) made_stops
  pub stops_match : Matched (IsStopAt keys) made_stops C.stops
  pub idles : (a : ℕ) (k : Pair) → slice_get keys a ≡ Some k → Has C.idle a ↔ (Has idle1 k.left × Has idle2 k.right)

module _ (n1 n2 : ℕ) (starts1 starts2 : List ℕ) (ways : List PairWay) (stops : List PairStop) (idle1 idle2 : List ℕ)
    (sides : AreSides n1 n2 starts1 starts2 ways stops idle1 idle2) (keys : List Pair) (within : ArePairsWithin n1 n2 keys)
    (made : List PairWay) (made_stops : List PairStop) (C : Automaton)
    (found : IsOfFound starts1 starts2 ways made stops made_stops idle1 idle2 keys C) where
  abbrev J : Automaton
  J = of_pairs n1 n2 starts1 starts2 ways stops idle1 idle2

  abbrev c : Pair → ℕ
  c k = coded n2 k

  abbrev way_at : PairWay → Pair
  way_at r = r.from

  abbrev stop_at : PairStop → Pair
  stop_at r = r.at

  abbrev decoded : ℕ → Pair
  decoded b = pair_of (b / n2) (b % n2)

  pub f : ℕ → Option ℕ
  f b = place_in keys (decoded b)

  pub g : ℕ → Option ℕ
  g k = put.place way_at keys ways made found.ways_are k

  pub e : ℕ → ℕ → ℕ
  e b k = put.origin stop_at keys stops made_stops found.stops_are k

  decode : (k : Pair) → k.right < n2 → decoded (c k) ≡ k
  decode k l =
      let p = div-mul-add k.left n2 k.right l in
      let q = mod-mul-add k.left n2 k.right l in
      λ i. record { left = p i; right = q i }

  f_at : (k : Pair) (a : ℕ) → k.right < n2 → slice_get keys a ≡ Some k → f (c k) ≡ Some a
  unfolding f
  f_at k a l at = ap (place_in keys) (decode k l) ∙ place_there keys k a found.apart at

  f_is : (b a : ℕ) → f b ≡ Some a → (k : Pair) × (slice_get keys a ≡ Some k) × (c k ≡ b) × (k.left < n1) × (k.right < n2)
  unfolding f
  f_is b a at =
      let k = decoded b in
      let there = place_is keys k a at in
      let w = within k (Has-slice_get keys a k there) in
      (k, there, div-add-mod' b n2, w.0, w.1)

  same_pair : (k r : Pair) → k.right < n2 → r.right < n2 → c k ≡ c r → k ≡ r
  same_pair k r l m at =
      let s = pair_same n2 k.left k.right r.left r.right l m at in
      λ i. record { left = s.0 i; right = s.1 i }

  -- of a pair that f knows
  known_pair : (k : Pair) → k.right < n2 → Has keys k → Knows f (c k)
  known_pair k l h = let r = place_of-Has keys k h in (r.0, f_at k r.0 l r.2)

  pair_known : (k : Pair) → k.right < n2 → Knows f (c k) → Has keys k
  pair_known k l h =
      let r = f_is (c k) h.0 h.1 in
      subst (Has keys) (same_pair r.0 k r.4 l r.2) (Has-slice_get keys h.0 r.0 r.1)

  one_place : (k : Pair) (a b : ℕ) → slice_get keys a ≡ Some k → slice_get keys b ≡ Some k → a ≡ b
  one_place k a b p q = some_same a b (sym (place_there keys k a found.apart p) ∙ place_there keys k b found.apart q)

  numbers_of : (xs ys : List ℕ) (v : ℕ) → Has (numbers n2 ys xs) v → (p : ℕ) × (q : ℕ) × Has xs p × Has ys q × (p * n2 + q ≡ v)
  numbers_of xs ys v h =
      let r = flat_map_cases (λ p. map (λ q. p * n2 + q) ys) xs v h in
      let s = Has-map_cases (λ q. r.0 * n2 + q) ys v r.2 in
      (r.0, s.0, r.1, s.1, s.2)

  has_number : (xs ys : List ℕ) (p q : ℕ) → Has xs p → Has ys q → Has (numbers n2 ys xs) (p * n2 + q)
  has_number xs ys p q a b = has_flat_map (λ p. map (λ q. p * n2 + q) ys) xs p (p * n2 + q) a (Has-map (λ q. p * n2 + q) ys q b)

  -- a way of all pairs, by what it is made of
  way_of : (k : ℕ) (y : Way) → slice_get J.ways k ≡ Some y → (r : PairWay) × (slice_get ways k ≡ Some r) × (coded_way n2 r ≡ y)
  way_of k y at = get_map_cases (coded_way n2) ways k y at

  -- what is made at a pair that is found leads to one
  leads_on : (k : ℕ) (r : PairWay) → slice_get ways k ≡ Some r → Has keys r.from → Has keys r.to
  leads_on k r at h =
      let x = put.known way_at keys ways made found.ways_are k r at h in
      let m = match_of (IsWayBetween keys) made C.ways x.0 r found.ways_match x.2 in
      Has-slice_get keys m.0.to r.to m.2.to

  reached_found : (n b : ℕ) → IsReachedIn J n b → (k : Pair) × Has keys k × (c k ≡ b) × (k.right < n2)
  reached_found zero b h =
      let s = numbers_of starts1 starts2 b h in
      (pair_of s.0 s.1, found.started s.0 s.1 s.2 s.3, s.4, sides.starts s.1 s.3)
  reached_found (suc n) b h =
      let before = reached_found n h.0.from h.2 in
      let r = Has-map_cases (coded_way n2) ways h.0 h.1 in
      let place = place_of-Has ways r.0 r.1 in
      let same = same_pair before.0 r.0.from before.3 (sides.froms r.0 r.1) (before.2 ∙ sym (ap (λ (y : Way). y.from) r.2)) in (
        r.0.to,
        leads_on place.0 r.0 place.2 (subst (Has keys) same before.1),
        ap (λ (y : Way). y.to) r.2 ∙ h.3,
        sides.tos r.0 r.1,
      )

  found_if : (k : Pair) → k.right < n2 → IsReached J (c k) → Has keys k
  found_if k l h =
      let r = reached_found h.0 (c k) h.1 in
      subst (Has keys) (same_pair r.0 k r.3 l r.2) r.1

  from_states : (b : ℕ) → Knows f b → b < n1 * n2
  from_states b h =
      let r = f_is b h.0 h.1 in
      let l = mul-add-lt r.0.left n2 r.0.right n1 r.3 r.4 in
      omega (arith, l, r.2)

  onto : (a : ℕ) → a < C.states → (b : ℕ) × (f b ≡ Some a)
  onto a l =
      let d : Pair = pair_of 0 0 in
      let k = get_or keys a d in
      let at = slice_get-get_or keys a d (omega (arith, l, found.states)) in
      let w = within k (Has-slice_get keys a k at) in
      (c k, f_at k a w.1 at)

  starts_there : (b a : ℕ) → Has J.starts b → f b ≡ Some a → Has C.starts a
  starts_there b a h at =
      let s = numbers_of starts1 starts2 b h in
      let r = f_is b a at in
      let same = same_pair r.0 (pair_of s.0 s.1) r.4 (sides.starts s.1 s.3) (r.2 ∙ sym s.4) in
      (found.starts a r.0 r.1).1 (subst (Has starts1) (ap (λ (k : Pair). k.left) (sym same)) s.2, subst (Has starts2) (ap (λ (k : Pair). k.right) (sym same)) s.3)

  starts_back : (a : ℕ) → Has C.starts a → (b : ℕ) × Has J.starts b × (f b ≡ Some a)
  starts_back a h =
      let d : Pair = pair_of 0 0 in
      let k = get_or keys a d in
      let at = slice_get-get_or keys a d (found.starts_within a h) in
      let w = within k (Has-slice_get keys a k at) in
      let s = (found.starts a k at).0 h in
      (c k, has_number starts1 starts2 k.left k.right s.0 s.1, f_at k a w.1 at)

  knows_ends : (b m : ℕ) → IsReached J b → HasEnd J b m → Knows f b
  knows_ends b m way h =
      let x = Has-map_cases (coded_stop n2) stops (record { state = b; marks = m }) h in
      let at : c x.0.at ≡ b = ap (λ (s : Stop). s.state) x.2 in
      let l = sides.stops_at x.0 x.1 in
      subst (Knows f) at (known_pair x.0.at l (found_if x.0.at l (way.0, subst (IsReachedIn J way.0) (sym at) way.1)))

  knows_before : (y : Way) → Has J.ways y → IsReached J y.from → Knows f y.to → Knows f y.from
  knows_before y h way to =
      let x = Has-map_cases (coded_way n2) ways y h in
      let at : c x.0.from ≡ y.from = ap (λ (y : Way). y.from) x.2 in
      let l = sides.froms x.0 x.1 in
      subst (Knows f) at (known_pair x.0.from l (found_if x.0.from l (way.0, subst (IsReachedIn J way.0) (sym at) way.1)))

  ways_known : (k : ℕ) (y : Way) → slice_get J.ways k ≡ Some y → Knows g k ↔ (Knows f y.from × Knows f y.to)
  unfolding g
  ways_known k y at =
      let r = way_of k y at in
      let has = Has-slice_get ways k r.0 r.1 in
      let from_at : c r.0.from ≡ y.from = ap (λ (y : Way). y.from) r.2 in
      let to_at : c r.0.to ≡ y.to = ap (λ (y : Way). y.to) r.2 in (
        (λ h.
            let t = put.told way_at keys ways made found.ways_are k h.0 r.0 r.1 h.1 in (
              subst (Knows f) from_at (known_pair r.0.from (sides.froms r.0 has) t.0),
              subst (Knows f) to_at (known_pair r.0.to (sides.tos r.0 has) (leads_on k r.0 r.1 t.0)),
            )),
        (λ h.
            let from = pair_known r.0.from (sides.froms r.0 has) (subst (Knows f) (sym from_at) h.0) in
            let x = put.known way_at keys ways made found.ways_are k r.0 r.1 from in
            (x.0, x.1)),
      )

  ways_there : (k : ℕ) (y : Way) (h : ℕ) → slice_get J.ways k ≡ Some y → g k ≡ Some h →
      (x : Way) × (slice_get C.ways h ≡ Some x) × (x.marks ≡ y.marks) × (f y.from ≡ Some x.from) × (f y.to ≡ Some x.to)
      × ((b : ℕ) → HasByte y.bytes b → HasByte x.bytes b)
  unfolding g
  ways_there k y h at image =
      let r = way_of k y at in
      let has = Has-slice_get ways k r.0 r.1 in
      let t = put.told way_at keys ways made found.ways_are k h r.0 r.1 image in
      let m = match_of (IsWayBetween keys) made C.ways h r.0 found.ways_match t.1 in (
        m.0,
        m.1,
        m.2.marks ∙ ap (λ (y : Way). y.marks) r.2,
        ap f (sym (ap (λ (y : Way). y.from) r.2)) ∙ f_at r.0.from m.0.from (sides.froms r.0 has) m.2.from,
        ap f (sym (ap (λ (y : Way). y.to) r.2)) ∙ f_at r.0.to m.0.to (sides.tos r.0 has) m.2.to,
        λ b byte. rw (m.2.bytes ∙ ap (λ (y : Way). y.bytes) r.2) byte,
      )

  ways_back : (b h v : ℕ) (x : Way) → slice_get C.ways h ≡ Some x → f b ≡ Some x.from → HasByte x.bytes v →
      (k : ℕ) × (y : Way) × (slice_get J.ways k ≡ Some y) × (y.from ≡ b) × HasByte y.bytes v × (g k ≡ Some h)
  unfolding g
  ways_back b h v x at image byte =
      let m = match_from (IsWayBetween keys) made C.ways h x found.ways_match at in
      let o = put.back way_at keys ways made found.ways_are h m.0 m.1 in
      let k = put.origin way_at keys ways made found.ways_are h in
      let r = f_is b x.from image in
      let same : r.0 ≡ m.0.from = some_same r.0 m.0.from (sym r.1 ∙ m.2.from) in (
        k,
        coded_way n2 m.0,
        get_map (coded_way n2) ways k m.0 o.0,
        ap c (sym same) ∙ r.2,
        rw (← m.2.bytes) byte,
        o.1,
      )

  ends_back : (b a m : ℕ) → f b ≡ Some a → HasEnd J b m → HasEnd C a m
  ends_back b a m at h =
      let x = Has-map_cases (coded_stop n2) stops (record { state = b; marks = m }) h in
      let here : c x.0.at ≡ b = ap (λ (s : Stop). s.state) x.2 in
      let r = f_is b a at in
      let same = same_pair r.0 x.0.at r.4 (sides.stops_at x.0 x.1) (r.2 ∙ sym here) in
      let place = place_of-Has stops x.0 x.1 in
      let t = put.known stop_at keys stops made_stops found.stops_are place.0 x.0 place.2 (subst (Has keys) same (Has-slice_get keys a r.0 r.1)) in
      let w = match_of (IsStopAt keys) made_stops C.stops t.0 x.0 found.stops_match t.2 in
      let state : w.0.state ≡ a = one_place x.0.at w.0.state a w.2.at (r.1 ∙ ap Some same) in
      let marks : w.0.marks ≡ m = w.2.marks ∙ ap (λ (s : Stop). s.marks) x.2 in
      subst (Has C.stops) (λ i. record { state = state i; marks = marks i }) (Has-slice_get C.stops t.0 w.0 w.1)

  ends_there : (b a k : ℕ) (x : Stop) → f b ≡ Some a → slice_get C.stops k ≡ Some x → x.state ≡ a →
      (y : Stop) × (slice_get J.stops (e b k) ≡ Some y) × (y.state ≡ b) × (y.marks ≡ x.marks)
  unfolding e
  ends_there b a k x at get end =
      let m = match_from (IsStopAt keys) made_stops C.stops k x found.stops_match get in
      let o = put.back stop_at keys stops made_stops found.stops_are k m.0 m.1 in
      let r = f_is b a at in
      let same : r.0 ≡ m.0.at = some_same r.0 m.0.at (sym r.1 ∙ (sym (ap (slice_get keys) end) ∙ m.2.at)) in (
        coded_stop n2 m.0,
        get_map (coded_stop n2) stops (put.origin stop_at keys stops made_stops found.stops_are k) m.0 o.0,
        ap c (sym same) ∙ r.2,
        sym m.2.marks,
      )

  ends_apart : (b a k l : ℕ) (x y : Stop) → f b ≡ Some a → slice_get C.stops k ≡ Some x → x.state ≡ a →
      slice_get C.stops l ≡ Some y → y.state ≡ a → e b k ≡ e b l → k ≡ l
  unfolding e
  ends_apart b a k l x y at getx endx gety endy same =
      let m = match_from (IsStopAt keys) made_stops C.stops k x found.stops_match getx in
      let o = put.back stop_at keys stops made_stops found.stops_are k m.0 m.1 in
      let n = match_from (IsStopAt keys) made_stops C.stops l y found.stops_match gety in
      let p = put.back stop_at keys stops made_stops found.stops_are l n.0 n.1 in
      some_same k l (sym o.1 ∙ (ap (put.place stop_at keys stops made_stops found.stops_are) same ∙ p.1))

  idles : (b a : ℕ) → f b ≡ Some a → Has C.idle a ↔ Has J.idle b
  idles b a at =
      let r = f_is b a at in (
        (λ h.
            let s = (found.idles a r.0 r.1).0 h in
            subst (Has J.idle) r.2 (has_number idle1 idle2 r.0.left r.0.right s.0 s.1)),
        (λ h.
            let s = numbers_of idle1 idle2 b h in
            let same = same_pair (pair_of s.0 s.1) r.0 (sides.idles s.1 s.3) r.4 (s.4 ∙ sym r.2) in
            (found.idles a r.0 r.1).1 (subst (Has idle1) (ap (λ (k : Pair). k.left) same) s.2, subst (Has idle2) (ap (λ (k : Pair). k.right) same) s.3)),
      )

  pub found_reduces : Reduces C J
  found_reduces = (
    f,
    g,
    e,
    record {
      from_states = from_states;
      to_states = λ b a at. let r = f_is b a at in omega (arith, slice_get_within keys a r.0 r.1, found.states);
      onto = onto;
      starts_there = starts_there;
      starts_back = starts_back;
      knows_ends = knows_ends;
      knows_before = knows_before;
      ways_known = ways_known;
      ways_there = ways_there;
      ways_back = ways_back;
      ends_back = ends_back;
      ends_there = ends_there;
      ends_apart = ends_apart;
      idles = idles;
    },
  )
