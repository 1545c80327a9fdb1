-- The join of reducts reduces the join.
use Rattle.std.proofs.Common.{◌≡◌, ℕ, zero, suc, ◌+◌, ◌*◌, ◌/◌, ◌%◌, ◌<◌, ◌↔◌, Bool, true, List, Option, Some, None, refl, sym, ap, subst, arith, ◌∙◌}
use Rattle.std.specs.Prelude.{slice_get, map}
use Rattle.std.specs.List.{filter, flat_map}
use Rattle.std.specs.Option.{unwrap_or}
use Rattle.std.proofs.lemmas.Nat.{div-mul-add, mod-mul-add, div-add-mod', mul-add-lt, div_below, mod_below}
use Rattle.marked_automaton.specs.Automaton.{HasByte}
use Rattle.span_core.specs.Lists.{Has}
use Rattle.marked_automaton.specs.declared.way.Way.{Way}
use Rattle.marked_automaton.specs.declared.way.Stop.{Stop}
use Rattle.marked_automaton.specs.Automaton.{Automaton}
use Rattle.marked_automaton.specs.Automaton.{IsWhole}
use Rattle.algebra.specs.Operations.{meet, has_some, goes_with, pair_way, ends_with, pair_stop, join_of}
use Rattle.marked_automaton.specs.Reduct.{IsReachedIn, IsReached, HasEnd, Knows, IsReduct}
use Rattle.algebra.specs.Laws.{ReductOfJoin}
use Rattle.marked_automaton.proofs.Passing.{both_true, filter_cases, flat_map_cases, has_filter, has_flat_map, left_true, right_true}
use Rattle.span_core.proofs.HasLaws.{Has-map, Has-map_cases}
use Rattle.algebra.proofs.Joins.{pair_same}
use Rattle.algebra.proofs.Bytes.{meet_left, meet_right, in_meet, some_byte, some_has}
use Rattle.algebra.proofs.PairPlaces.{Spot, spots, spot_of, spot_exists, spot_once, find_spot, find_is, find_there}
use Rattle.marked_automaton.proofs.Listed.{some_same, place_has}

-- both, made one
abbrev pub both_of : Option ℕ → Option ℕ → (ℕ → ℕ → Option ℕ) → Option ℕ
both_of None y h = None
both_of (Some x) None h = None
both_of (Some x) (Some y) h = h x y

both_cases : (x y : Option ℕ) (h : ℕ → ℕ → Option ℕ) (v : ℕ) → both_of x y h ≡ Some v → (a : ℕ) × (b : ℕ) × (x ≡ Some a) × (y ≡ Some b) × (h a b ≡ Some v)
both_cases None y h v e = absurd (cc)
both_cases (Some x) None h v e = absurd (cc)
both_cases (Some x) (Some y) h v e = (x, y, refl, refl, e)

both_some : (x y : Option ℕ) (h : ℕ → ℕ → Option ℕ) (a b : ℕ) → x ≡ Some a → y ≡ Some b → both_of x y h ≡ h a b
both_some x y h a b e f = ap (λ x. both_of x y h) e ∙ ap (λ y. both_of (Some a) y h) f

-- at a spot
abbrev pub at_spot : Option Spot → (ℕ → ℕ → Option ℕ) → Option ℕ
at_spot None h = None
at_spot (Some s) h = h s.one s.two

module _ (agree : ℕ → ℕ → Bool) (both : ℕ → ℕ → ℕ) where
  abbrev pub way_spots : Automaton → Automaton → List Spot
  way_spots A B = spots (goes_with agree both) (pair_way agree both B.states) B.ways A.ways 0

  abbrev pub stop_spots : Automaton → Automaton → List Spot
  stop_spots A B = spots (ends_with agree both) (pair_stop agree both B.states) B.stops A.stops 0

  -- the maps of a join of reducts
  abbrev pub state_map : ℕ → ℕ → (ℕ → Option ℕ) → (ℕ → Option ℕ) → ℕ → Option ℕ
  state_map n k f1 f2 b = both_of (f1 (b / n)) (f2 (b % n)) (λ p q. Some (p * k + q))

  abbrev pub way_map : List Spot → List Spot → (ℕ → Option ℕ) → (ℕ → Option ℕ) → ℕ → Option ℕ
  way_map from to g1 g2 k = at_spot (slice_get from k) (λ a b. both_of (g1 a) (g2 b) (find_spot to))

  abbrev pub end_map : ℕ → List Spot → List Spot → (ℕ → ℕ → ℕ) → (ℕ → ℕ → ℕ) → ℕ → ℕ → ℕ
  end_map n from to e1 e2 b k = unwrap_or (at_spot (slice_get to k) (λ x y. find_spot from (e1 (b / n) x) (e2 (b % n) y))) 0

  -- a way, and an end, of a join by their parts
  way_parts : (A B : Automaton) (y : Way) → Has (join_of agree both A B).ways y →
      (x1 : Way) × (x2 : Way) × Has A.ways x1 × Has B.ways x2 × (goes_with agree both x1 x2 ≡ true) × (pair_way agree both B.states x1 x2 ≡ y)
  way_parts A B y h =
      let r = flat_map_cases (λ x. map (pair_way agree both B.states x) (filter (goes_with agree both x) B.ways)) A.ways y h in
      let s = Has-map_cases (pair_way agree both B.states r.0) (filter (goes_with agree both r.0) B.ways) y r.2 in
      let t = filter_cases (goes_with agree both r.0) B.ways s.0 s.1 in
      (r.0, s.0, r.1, t.0, t.1, s.2)

  stop_parts : (A B : Automaton) (y : Stop) → Has (join_of agree both A B).stops y →
      (x1 : Stop) × (x2 : Stop) × Has A.stops x1 × Has B.stops x2 × (ends_with agree both x1 x2 ≡ true) × (pair_stop agree both B.states x1 x2 ≡ y)
  stop_parts A B y h =
      let r = flat_map_cases (λ x. map (pair_stop agree both B.states x) (filter (ends_with agree both x) B.stops)) A.stops y h in
      let s = Has-map_cases (pair_stop agree both B.states r.0) (filter (ends_with agree both r.0) B.stops) y r.2 in
      let t = filter_cases (ends_with agree both r.0) B.stops s.0 s.1 in
      (r.0, s.0, r.1, t.0, t.1, s.2)

  numbers_of : (xs ys : List ℕ) (n v : ℕ) → Has (flat_map (λ p. map (λ q. p * n + q) ys) xs) v → (p : ℕ) × (q : ℕ) × Has xs p × Has ys q × (p * n + q ≡ v)
  numbers_of xs ys n v h =
      let r = flat_map_cases (λ p. map (λ q. p * n + q) ys) xs v h in
      let s = Has-map_cases (λ q. r.0 * n + q) ys v r.2 in
      (r.0, s.0, r.1, s.1, s.2)

  has_number : (xs ys : List ℕ) (n p q : ℕ) → Has xs p → Has ys q → Has (flat_map (λ p. map (λ q. p * n + q) ys) xs) (p * n + q)
  has_number xs ys n p q a b = has_flat_map (λ p. map (λ q. p * n + q) ys) xs p (p * n + q) a (Has-map (λ q. p * n + q) ys q b)

  module _ (A1 B1 A2 B2 : Automaton) (wa1 : IsWhole A1) (wb1 : IsWhole B1) (wa2 : IsWhole A2) (wb2 : IsWhole B2)
      (f1 g1 f2 g2 : ℕ → Option ℕ) (e1 e2 : ℕ → ℕ → ℕ) (red1 : IsReduct A1 B1 f1 g1 e1) (red2 : IsReduct A2 B2 f2 g2 e2) where
    abbrev A : Automaton
    A = join_of agree both A1 A2

    abbrev B : Automaton
    B = join_of agree both B1 B2

    abbrev n : ℕ
    n = B2.states

    abbrev k : ℕ
    k = A2.states

    abbrev f : ℕ → Option ℕ
    f = state_map n k f1 f2

    abbrev g : ℕ → Option ℕ
    g = way_map (way_spots B1 B2) (way_spots A1 A2) g1 g2

    abbrev e : ℕ → ℕ → ℕ
    e = end_map n (stop_spots B1 B2) (stop_spots A1 A2) e1 e2

    -- a state that f knows, by its parts
    abbrev StateCases : ℕ → ℕ → Type 0
    StateCases b a =
        (p : ℕ) × (q : ℕ) × (x : ℕ) × (y : ℕ) × (b ≡ p * n + q) × (q < n) × (f1 p ≡ Some x) × (f2 q ≡ Some y) × (x * k + y ≡ a)

    state_cases : (b a : ℕ) → f b ≡ Some a → StateCases b a
    state_cases b a h =
        let r = both_cases (f1 (b / n)) (f2 (b % n)) (λ p q. Some (p * k + q)) a h in
        (b / n, b % n, r.0, r.1, sym (div-add-mod' b n), red2.from_states (b % n) (r.1, r.3), r.2, r.3, some_same (r.0 * k + r.1) a r.4)

    state_some : (b p q x y : ℕ) → b ≡ p * n + q → q < n → f1 p ≡ Some x → f2 q ≡ Some y → f b ≡ Some (x * k + y)
    state_some b p q x y at l fx fy =
        let d : b / n ≡ p = ap (λ b. b / n) at ∙ div-mul-add p n q l in
        let m : b % n ≡ q = ap (λ b. b % n) at ∙ mod-mul-add p n q l in
        both_some (f1 (b / n)) (f2 (b % n)) (λ p q. Some (p * k + q)) x y (ap f1 d ∙ fx) (ap f2 m ∙ fy)

    -- of a pair that f knows
    pair_known : (p q : ℕ) → q < n → Knows f (p * n + q) → Knows f1 p × Knows f2 q
    pair_known p q l h =
        let s = state_cases (p * n + q) h.0 h.1 in
        let same = pair_same n p q s.0 s.1 l s.5 s.4 in
        ((s.2, ap f1 same.0 ∙ s.6), (s.3, ap f2 same.1 ∙ s.7))

    known_pair : (p q : ℕ) → q < n → Knows f1 p → Knows f2 q → Knows f (p * n + q)
    known_pair p q l a b = (a.0 * k + b.0, state_some (p * n + q) p q a.0 b.0 refl l a.1 b.1)

    pair_value : (p q a : ℕ) → q < n → f (p * n + q) ≡ Some a → (x : ℕ) × (y : ℕ) × (f1 p ≡ Some x) × (f2 q ≡ Some y) × (x * k + y ≡ a)
    pair_value p q a l h =
        let s = state_cases (p * n + q) a h in
        let same = pair_same n p q s.0 s.1 l s.5 s.4 in
        (s.2, s.3, ap f1 same.0 ∙ s.6, ap f2 same.1 ∙ s.7, s.8)

    from_states : (b : ℕ) → Knows f b → b < B1.states * B2.states
    from_states b h =
        let s = state_cases b h.0 h.1 in
        let l = mul-add-lt s.0 n s.1 B1.states (red1.from_states s.0 (s.2, s.6)) s.5 in
        omega (arith, l, s.4)

    to_states : (b a : ℕ) → f b ≡ Some a → a < A1.states * A2.states
    to_states b a h =
        let s = state_cases b a h in
        let l = mul-add-lt s.2 k s.3 A1.states (red1.to_states s.0 s.2 s.6) (red2.to_states s.1 s.3 s.7) in
        omega (arith, l, s.8)

    onto : (a : ℕ) → a < A1.states * A2.states → (b : ℕ) × (f b ≡ Some a)
    onto a l =
        let pos : 0 < k = positive k l in
        let p = red1.onto (a / k) (div_below a k A1.states pos l) in
        let q = red2.onto (a % k) (mod_below a k pos) in
        (p.0 * n + q.0, state_some (p.0 * n + q.0) p.0 q.0 (a / k) (a % k) refl (red2.from_states q.0 (a % k, q.1)) p.1 q.1 ∙ ap Some (div-add-mod' a k))
      where
        positive : (k : ℕ) → a < A1.states * k → 0 < k
        positive zero l = absurd (omega (arith, l))
        positive (suc k) l = omega arith

    starts_there : (b a : ℕ) → Has B.starts b → f b ≡ Some a → Has A.starts a
    starts_there b a h at =
        let s = numbers_of B1.starts B2.starts n b h in
        let l = wb2.starts s.1 s.3 in
        let v = pair_value s.0 s.1 a l (ap f s.4 ∙ at) in
        subst (Has A.starts) v.4 (has_number A1.starts A2.starts k v.0 v.1 (red1.starts_there s.0 v.0 s.2 v.2) (red2.starts_there s.1 v.1 s.3 v.3))

    starts_back : (a : ℕ) → Has A.starts a → (b : ℕ) × Has B.starts b × (f b ≡ Some a)
    starts_back a h =
        let s = numbers_of A1.starts A2.starts k a h in
        let p = red1.starts_back s.0 s.2 in
        let q = red2.starts_back s.1 s.3 in (
          p.0 * n + q.0,
          has_number B1.starts B2.starts n p.0 q.0 p.1 q.1,
          state_some (p.0 * n + q.0) p.0 q.0 s.0 s.1 refl (wb2.starts q.0 q.1) p.2 q.2 ∙ ap Some s.4,
        )

    reached_parts : (m b : ℕ) → IsReachedIn B m b → (p : ℕ) × (q : ℕ) × (p * n + q ≡ b) × (q < n) × IsReachedIn B1 m p × IsReachedIn B2 m q
    reached_parts zero b h = let s = numbers_of B1.starts B2.starts n b h in (s.0, s.1, s.4, wb2.starts s.1 s.3, s.2, s.3)
    reached_parts (suc m) b h =
        let y = way_parts B1 B2 h.0 h.1 in
        let r = reached_parts m h.0.from h.2 in
        let same = pair_same n r.0 r.1 y.0.from y.1.from r.3 (wb2.froms y.1 y.3) (r.2 ∙ sym (ap (λ (g : Way). g.from) y.5)) in (
          y.0.to,
          y.1.to,
          ap (λ (g : Way). g.to) y.5 ∙ h.3,
          wb2.tos y.1 y.3,
          (y.0, y.2, subst (IsReachedIn B1 m) same.0 r.4, refl),
          (y.1, y.3, subst (IsReachedIn B2 m) same.1 r.5, refl),
        )

    -- a reached pair has reached parts
    parts_reached : (p q : ℕ) → q < n → IsReached B (p * n + q) → IsReached B1 p × IsReached B2 q
    parts_reached p q l h =
        let r = reached_parts h.0 (p * n + q) h.1 in
        let same = pair_same n r.0 r.1 p q r.3 l r.2 in
        ((h.0, subst (IsReachedIn B1 h.0) same.0 r.4), (h.0, subst (IsReachedIn B2 h.0) same.1 r.5))

    knows_ends : (b m : ℕ) → IsReached B b → HasEnd B b m → Knows f b
    knows_ends b m way h =
        let x = stop_parts B1 B2 (record { state = b; marks = m }) h in
        let at : x.0.state * n + x.1.state ≡ b = ap (λ (g : Stop). g.state) x.5 in
        let l = wb2.stops x.1 x.3 in
        let r = parts_reached x.0.state x.1.state l (way.0, subst (IsReachedIn B way.0) (sym at) way.1) in
        subst (Knows f) at (known_pair x.0.state x.1.state l (red1.knows_ends x.0.state x.0.marks r.0 x.2) (red2.knows_ends x.1.state x.1.marks r.1 x.3))

    knows_before : (y : Way) → Has B.ways y → IsReached B y.from → Knows f y.to → Knows f y.from
    knows_before y h way to =
        let x = way_parts B1 B2 y h in
        let from_at = ap (λ (g : Way). g.from) x.5 in
        let to_at = ap (λ (g : Way). g.to) x.5 in
        let l = wb2.froms x.1 x.3 in
        let r = parts_reached x.0.from x.1.from l (way.0, subst (IsReachedIn B way.0) (sym from_at) way.1) in
        let v = pair_known x.0.to x.1.to (wb2.tos x.1 x.3) (subst (Knows f) (sym to_at) to) in
        subst (Knows f) from_at (known_pair x.0.from x.1.from l (red1.knows_before x.0 x.2 r.0 v.0) (red2.knows_before x.1 x.3 r.1 v.1))

    abbrev SA : List Spot
    SA = way_spots A1 A2

    abbrev SB : List Spot
    SB = way_spots B1 B2

    abbrev spot : ℕ → ℕ → Spot
    spot a b = record { one = a; two = b }

    -- the image of a pair of ways, by the images
    g_value : (m a b h1 h2 h : ℕ) → slice_get SB m ≡ Some (spot (0 + a) b) → g1 a ≡ Some h1 → g2 b ≡ Some h2 → find_spot SA h1 h2 ≡ Some h → g m ≡ Some h
    g_value m a b h1 h2 h at ga gb found =
        let z : 0 + a ≡ a = omega arith in
        ap (λ o. at_spot o (λ a b. both_of (g1 a) (g2 b) (find_spot SA))) at
        ∙ (both_some (g1 (0 + a)) (g2 b) (find_spot SA) h1 h2 (ap g1 z ∙ ga) gb ∙ found)

    g_cases : (m h a b : ℕ) → slice_get SB m ≡ Some (spot (0 + a) b) → g m ≡ Some h →
        (h1 : ℕ) × (h2 : ℕ) × (g1 a ≡ Some h1) × (g2 b ≡ Some h2) × (slice_get SA h ≡ Some (spot h1 h2))
    g_cases m h a b at known =
        let z : a ≡ 0 + a = omega arith in
        let here : both_of (g1 (0 + a)) (g2 b) (find_spot SA) ≡ Some h = sym (ap (λ o. at_spot o (λ a b. both_of (g1 a) (g2 b) (find_spot SA))) at) ∙ known in
        let r = both_cases (g1 (0 + a)) (g2 b) (find_spot SA) h here in
        (r.0, r.1, ap g1 z ∙ r.2, r.3, find_is SA r.0 r.1 h r.4)

    spot_same : (a b c : ℕ) → slice_get SA c ≡ Some (spot (0 + a) b) → slice_get SA c ≡ Some (spot a b)
    spot_same a b c h = let z : 0 + a ≡ a = omega arith in h ∙ ap (λ v. Some (spot v b)) z

    -- two ways of the parts that go together stand at the spot of their places
    way_at : (h h1 h2 : ℕ) (z1 z2 : Way) → slice_get SA h ≡ Some (spot h1 h2) → slice_get A1.ways h1 ≡ Some z1 → slice_get A2.ways h2 ≡ Some z2 →
        goes_with agree both z1 z2 ≡ true → slice_get A.ways h ≡ Some (pair_way agree both k z1 z2)
    way_at h h1 h2 z1 z2 at get1 get2 ok =
        let s = spot_exists (goes_with agree both) (pair_way agree both k) A2.ways A1.ways 0 h1 h2 z1 z2 get1 get2 ok in
        let same : s.0 ≡ h = spot_once (goes_with agree both) (pair_way agree both k) A2.ways A1.ways 0 s.0 h (spot h1 h2) (spot_same h1 h2 s.0 s.1) at in
        ap (slice_get A.ways) (sym same) ∙ s.2

    -- images of ways that go together go together
    together : (x1 x2 z1 z2 : Way) → goes_with agree both x1 x2 ≡ true → z1.marks ≡ x1.marks → z2.marks ≡ x2.marks →
        ((c : ℕ) → HasByte x1.bytes c → HasByte z1.bytes c) → ((c : ℕ) → HasByte x2.bytes c → HasByte z2.bytes c) → goes_with agree both z1 z2 ≡ true
    together x1 x2 z1 z2 ok m1 m2 b1 b2 =
        let c = some_has (meet x1.bytes x2.bytes) (right_true (agree x1.marks x2.marks) (has_some (meet x1.bytes x2.bytes)) ok) in
        let fits : agree z1.marks z2.marks ≡ true =
        ap (λ m. agree m z2.marks) m1 ∙ (ap (agree x1.marks) m2 ∙ left_true (agree x1.marks x2.marks) (has_some (meet x1.bytes x2.bytes)) ok) in
        let both_have : HasByte (meet z1.bytes z2.bytes) c.0 =
        in_meet z1.bytes z2.bytes c.0 (b1 c.0 (meet_left x1.bytes x2.bytes c.0 c.1)) (b2 c.0 (meet_right x1.bytes x2.bytes c.0 c.1)) in
        both_true (agree z1.marks z2.marks) (has_some (meet z1.bytes z2.bytes)) fits (some_byte (meet z1.bytes z2.bytes) c.0 both_have)

    ways_known : (m : ℕ) (y : Way) → slice_get B.ways m ≡ Some y → Knows g m ↔ (Knows f y.from × Knows f y.to)
    ways_known m y at = (there, back)
      where
        s : (a : ℕ) × (b : ℕ) × (x1 : Way) × (x2 : Way) × (slice_get SB m ≡ Some (spot (0 + a) b)) × (slice_get B1.ways a ≡ Some x1) × (slice_get B2.ways b ≡ Some x2)
            × (goes_with agree both x1 x2 ≡ true) × (pair_way agree both n x1 x2 ≡ y)
        s = spot_of (goes_with agree both) (pair_way agree both n) B2.ways B1.ways 0 m y at

        h2 : Has B2.ways s.3
        h2 = place_has B2.ways s.1 s.3 s.6

        there : Knows g m → Knows f y.from × Knows f y.to
        there known =
            let v = g_cases m known.0 s.0 s.1 s.4 known.1 in
            let p = (red1.ways_known s.0 s.2 s.5).0 (v.0, v.2) in
            let q = (red2.ways_known s.1 s.3 s.6).0 (v.1, v.3) in (
              subst (Knows f) (ap (λ (g : Way). g.from) s.8) (known_pair s.2.from s.3.from (wb2.froms s.3 h2) p.0 q.0),
              subst (Knows f) (ap (λ (g : Way). g.to) s.8) (known_pair s.2.to s.3.to (wb2.tos s.3 h2) p.1 q.1),
            )

        back : Knows f y.from × Knows f y.to → Knows g m
        back known =
            let from = pair_known s.2.from s.3.from (wb2.froms s.3 h2) (subst (Knows f) (sym (ap (λ (g : Way). g.from) s.8)) known.0) in
            let to = pair_known s.2.to s.3.to (wb2.tos s.3 h2) (subst (Knows f) (sym (ap (λ (g : Way). g.to) s.8)) known.1) in
            let u = (red1.ways_known s.0 s.2 s.5).1 (from.0, to.0) in
            let v = (red2.ways_known s.1 s.3 s.6).1 (from.1, to.1) in
            let z1 = red1.ways_there s.0 s.2 u.0 s.5 u.1 in
            let z2 = red2.ways_there s.1 s.3 v.0 s.6 v.1 in
            let ok = together s.2 s.3 z1.0 z2.0 s.7 z1.2 z2.2 z1.5 z2.5 in
            let w = spot_exists (goes_with agree both) (pair_way agree both k) A2.ways A1.ways 0 u.0 v.0 z1.0 z2.0 z1.1 z2.1 ok in
            let found = find_there SA w.0 u.0 v.0 (spot_same u.0 v.0 w.0 w.1) in
            (found.0, g_value m s.0 s.1 u.0 v.0 found.0 s.4 u.1 v.1 found.1)

    ways_there : (m : ℕ) (y : Way) (h : ℕ) → slice_get B.ways m ≡ Some y → g m ≡ Some h →
        (x : Way) × (slice_get A.ways h ≡ Some x) × (x.marks ≡ y.marks) × (f y.from ≡ Some x.from) × (f y.to ≡ Some x.to)
        × ((c : ℕ) → HasByte y.bytes c → HasByte x.bytes c)
    ways_there m y h at known =
        let s = spot_of (goes_with agree both) (pair_way agree both n) B2.ways B1.ways 0 m y at in
        let h2 = place_has B2.ways s.1 s.3 s.6 in
        let v = g_cases m h s.0 s.1 s.4 known in
        let z1 = red1.ways_there s.0 s.2 v.0 s.5 v.2 in
        let z2 = red2.ways_there s.1 s.3 v.1 s.6 v.3 in
        let ok = together s.2 s.3 z1.0 z2.0 s.7 z1.2 z2.2 z1.5 z2.5 in (
          pair_way agree both k z1.0 z2.0,
          way_at h v.0 v.1 z1.0 z2.0 v.4 z1.1 z2.1 ok,
          (ap (λ m. both m z2.0.marks) z1.2 ∙ ap (both s.2.marks) z2.2) ∙ ap (λ (g : Way). g.marks) s.8,
          state_some y.from s.2.from s.3.from z1.0.from z2.0.from (sym (ap (λ (g : Way). g.from) s.8)) (wb2.froms s.3 h2) z1.3 z2.3,
          state_some y.to s.2.to s.3.to z1.0.to z2.0.to (sym (ap (λ (g : Way). g.to) s.8)) (wb2.tos s.3 h2) z1.4 z2.4,
          λ c has.
              let both_have : HasByte (meet s.2.bytes s.3.bytes) c = rw (← s.8) at has in
              in_meet z1.0.bytes z2.0.bytes c (z1.5 c (meet_left s.2.bytes s.3.bytes c both_have)) (z2.5 c (meet_right s.2.bytes s.3.bytes c both_have)),
        )

    ways_back : (b h c : ℕ) (x : Way) → slice_get A.ways h ≡ Some x → f b ≡ Some x.from → HasByte x.bytes c →
        (m : ℕ) × (y : Way) × (slice_get B.ways m ≡ Some y) × (y.from ≡ b) × HasByte y.bytes c × (g m ≡ Some h)
    ways_back b h c x at image has =
        let s = spot_of (goes_with agree both) (pair_way agree both k) A2.ways A1.ways 0 h x at in
        let t = state_cases b x.from image in
        let in2 = wa2.froms s.3 (place_has A2.ways s.1 s.3 s.6) in
        let same = pair_same k t.2 t.3 s.2.from s.3.from (red2.to_states t.1 t.3 t.7) in2 (t.8 ∙ sym (ap (λ (g : Way). g.from) s.8)) in
        let byte : HasByte (meet s.2.bytes s.3.bytes) c = rw (← s.8) at has in
        let y1 = red1.ways_back t.0 s.0 c s.2 s.5 (t.6 ∙ ap Some same.0) (meet_left s.2.bytes s.3.bytes c byte) in
        let y2 = red2.ways_back t.1 s.1 c s.3 s.6 (t.7 ∙ ap Some same.1) (meet_right s.2.bytes s.3.bytes c byte) in
        let z1 = red1.ways_there y1.0 y1.1 s.0 y1.2 y1.5 in
        let z2 = red2.ways_there y2.0 y2.1 s.1 y2.2 y2.5 in
        let m1 : y1.1.marks ≡ s.2.marks = sym z1.2 ∙ ap (λ (g : Way). g.marks) (some_same z1.0 s.2 (sym z1.1 ∙ s.5)) in
        let m2 : y2.1.marks ≡ s.3.marks = sym z2.2 ∙ ap (λ (g : Way). g.marks) (some_same z2.0 s.3 (sym z2.1 ∙ s.6)) in
        let fits : agree y1.1.marks y2.1.marks ≡ true =
        ap (λ m. agree m y2.1.marks) m1 ∙ (ap (agree s.2.marks) m2 ∙ left_true (agree s.2.marks s.3.marks) (has_some (meet s.2.bytes s.3.bytes)) s.7) in
        let both_have : HasByte (meet y1.1.bytes y2.1.bytes) c = in_meet y1.1.bytes y2.1.bytes c y1.4 y2.4 in
        let ok : goes_with agree both y1.1 y2.1 ≡ true =
        both_true (agree y1.1.marks y2.1.marks) (has_some (meet y1.1.bytes y2.1.bytes)) fits (some_byte (meet y1.1.bytes y2.1.bytes) c both_have) in
        let w = spot_exists (goes_with agree both) (pair_way agree both n) B2.ways B1.ways 0 y1.0 y2.0 y1.1 y2.1 y1.2 y2.2 ok in
        let here = spot_same s.0 s.1 h s.4 in
        let found = find_there SA h s.0 s.1 here in
        let h_same : found.0 ≡ h = spot_once (goes_with agree both) (pair_way agree both k) A2.ways A1.ways 0 found.0 h (spot s.0 s.1) (find_is SA s.0 s.1 found.0 found.1) here in (
          w.0,
          pair_way agree both n y1.1 y2.1,
          w.2,
          (ap (λ v. v * n + y2.1.from) y1.3 ∙ ap (λ v. t.0 * n + v) y2.3) ∙ sym t.4,
          both_have,
          g_value w.0 y1.0 y2.0 s.0 s.1 h w.1 y1.5 y2.5 (found.1 ∙ ap Some h_same),
        )

    ends_back : (b a m : ℕ) → f b ≡ Some a → HasEnd B b m → HasEnd A a m
    ends_back b a m at h =
        let x = stop_parts B1 B2 (record { state = b; marks = m }) h in
        let here : x.0.state * n + x.1.state ≡ b = ap (λ (g : Stop). g.state) x.5 in
        let v = pair_value x.0.state x.1.state a (wb2.stops x.1 x.3) (ap f here ∙ at) in
        let p : HasEnd A1 v.0 x.0.marks = red1.ends_back x.0.state v.0 x.0.marks v.2 x.2 in
        let q : HasEnd A2 v.1 x.1.marks = red2.ends_back x.1.state v.1 x.1.marks v.3 x.3 in
        let z1 : Stop = record { state = v.0; marks = x.0.marks } in
        let z2 : Stop = record { state = v.1; marks = x.1.marks } in
        let marks : both x.0.marks x.1.marks ≡ m = ap (λ (g : Stop). g.marks) x.5 in
        subst (Has A.stops) (λ i. record { state = v.4 i; marks = marks i })
        (has_flat_map (λ x. map (pair_stop agree both k x) (filter (ends_with agree both x) A2.stops)) A1.stops z1 (pair_stop agree both k z1 z2) p
        (Has-map (pair_stop agree both k z1) (filter (ends_with agree both z1) A2.stops) z2 (has_filter (ends_with agree both z1) A2.stops z2 q x.4)))

    abbrev TA : List Spot
    TA = stop_spots A1 A2

    abbrev TB : List Spot
    TB = stop_spots B1 B2

    -- an end of an image, by the parts, and the end that is its own
    abbrev EndFacts : ℕ → ℕ → Stop → Type 0
    EndFacts b m x =
        (p : ℕ) × (q : ℕ) × (v : ℕ) × (w : ℕ) × (f1 p ≡ Some v) × (f2 q ≡ Some w)
        × (a1 : ℕ) × (a2 : ℕ) × (z1 : Stop) × (z2 : Stop) × (slice_get TA m ≡ Some (spot a1 a2)) × (slice_get A1.stops a1 ≡ Some z1) × (slice_get A2.stops a2 ≡ Some z2)
        × (z1.state ≡ v) × (z2.state ≡ w) × (slice_get TB (e b m) ≡ Some (spot (e1 p a1) (e2 q a2)))
        × (y : Stop) × (slice_get B.stops (e b m) ≡ Some y) × (y.state ≡ b) × (y.marks ≡ x.marks) × (b / n ≡ p) × (b % n ≡ q)

    end_facts : (b a m : ℕ) (x : Stop) → f b ≡ Some a → slice_get A.stops m ≡ Some x → x.state ≡ a → EndFacts b m x
    end_facts b a m x at get end =
        let s = spot_of (ends_with agree both) (pair_stop agree both k) A2.stops A1.stops 0 m x get in
        let zero_at : 0 + s.0 ≡ s.0 = omega arith in
        let here : slice_get TA m ≡ Some (spot s.0 s.1) = s.4 ∙ ap (λ v. Some (spot v s.1)) zero_at in
        let t = state_cases b a at in
        let in2 = wa2.stops s.3 (place_has A2.stops s.1 s.3 s.6) in
        let same = pair_same k s.2.state s.3.state t.2 t.3 in2 (red2.to_states t.1 t.3 t.7) ((ap (λ (g : Stop). g.state) s.8 ∙ end) ∙ sym t.8) in
        let y1 = red1.ends_there t.0 t.2 s.0 s.2 t.6 s.5 same.0 in
        let y2 = red2.ends_there t.1 t.3 s.1 s.3 t.7 s.6 same.1 in
        let ok : ends_with agree both y1.0 y2.0 ≡ true = ap (λ m. agree m y2.0.marks) y1.3 ∙ (ap (agree s.2.marks) y2.3 ∙ s.7) in
        let w = spot_exists (ends_with agree both) (pair_stop agree both n) B2.stops B1.stops 0 (e1 t.0 s.0) (e2 t.1 s.1) y1.0 y2.0 y1.1 y2.1 ok in
        let zero_there : 0 + e1 t.0 s.0 ≡ e1 t.0 s.0 = omega arith in
        let w_at : slice_get TB w.0 ≡ Some (spot (e1 t.0 s.0) (e2 t.1 s.1)) = w.1 ∙ ap (λ v. Some (spot v (e2 t.1 s.1))) zero_there in
        let found = find_there TB w.0 (e1 t.0 s.0) (e2 t.1 s.1) w_at in
        let found_at = find_is TB (e1 t.0 s.0) (e2 t.1 s.1) found.0 found.1 in
        let d : b / n ≡ t.0 = ap (λ b. b / n) t.4 ∙ div-mul-add t.0 n t.1 t.5 in
        let r : b % n ≡ t.1 = ap (λ b. b % n) t.4 ∙ mod-mul-add t.0 n t.1 t.5 in
        let value : e b m ≡ found.0 =
        ap (λ o. unwrap_or (at_spot o (λ x y. find_spot TB (e1 (b / n) x) (e2 (b % n) y))) 0) here
        ∙ (ap (λ v. unwrap_or (find_spot TB (e1 v s.0) (e2 (b % n) s.1)) 0) d
        ∙ (ap (λ v. unwrap_or (find_spot TB (e1 t.0 s.0) (e2 v s.1)) 0) r ∙ ap (λ o. unwrap_or o 0) found.1)) in
        let same_spot : found.0 ≡ w.0 = spot_once (ends_with agree both) (pair_stop agree both n) B2.stops B1.stops 0 found.0 w.0 (spot (e1 t.0 s.0) (e2 t.1 s.1)) found_at w_at in (
          t.0,
          t.1,
          t.2,
          t.3,
          t.6,
          t.7,
          s.0,
          s.1,
          s.2,
          s.3,
          here,
          s.5,
          s.6,
          same.0,
          same.1,
          ap (slice_get TB) value ∙ found_at,
          pair_stop agree both n y1.0 y2.0,
          ap (slice_get B.stops) (value ∙ same_spot) ∙ w.2,
          (ap (λ v. v * n + y2.0.state) y1.2 ∙ ap (λ v. t.0 * n + v) y2.2) ∙ sym t.4,
          (ap (λ m. both m y2.0.marks) y1.3 ∙ ap (both s.2.marks) y2.3) ∙ ap (λ (g : Stop). g.marks) s.8,
          d,
          r,
        )

    ends_there : (b a m : ℕ) (x : Stop) → f b ≡ Some a → slice_get A.stops m ≡ Some x → x.state ≡ a →
        (y : Stop) × (slice_get B.stops (e b m) ≡ Some y) × (y.state ≡ b) × (y.marks ≡ x.marks)
    ends_there b a m x at get end = let r = end_facts b a m x at get end in (r.16, r.17, r.18, r.19)

    ends_apart : (b a m l : ℕ) (x y : Stop) → f b ≡ Some a → slice_get A.stops m ≡ Some x → x.state ≡ a →
        slice_get A.stops l ≡ Some y → y.state ≡ a → e b m ≡ e b l → m ≡ l
    ends_apart b a m l x y at getx endx gety endy same =
        let r = end_facts b a m x at getx endx in
        let s = end_facts b a l y at gety endy in
        let p : s.0 ≡ r.0 = sym s.20 ∙ r.20 in
        let q : s.1 ≡ r.1 = sym s.21 ∙ r.21 in
        let v : s.2 ≡ r.2 = some_same s.2 r.2 (sym s.4 ∙ (ap f1 p ∙ r.4)) in
        let w : s.3 ≡ r.3 = some_same s.3 r.3 (sym s.5 ∙ (ap f2 q ∙ r.5)) in
        let spots_same : spot (e1 r.0 r.6) (e2 r.1 r.7) ≡ spot (e1 s.0 s.6) (e2 s.1 s.7) =
        some_same (spot (e1 r.0 r.6) (e2 r.1 r.7)) (spot (e1 s.0 s.6) (e2 s.1 s.7)) (sym r.15 ∙ (ap (slice_get TB) same ∙ s.15)) in
        let one : e1 r.0 r.6 ≡ e1 r.0 s.6 = ap (λ (s : Spot). s.one) spots_same ∙ ap (λ v. e1 v s.6) p in
        let two : e2 r.1 r.7 ≡ e2 r.1 s.7 = ap (λ (s : Spot). s.two) spots_same ∙ ap (λ v. e2 v s.7) q in
        let a1 : r.6 ≡ s.6 = red1.ends_apart r.0 r.2 r.6 s.6 r.8 s.8 r.4 r.11 r.13 s.11 (s.13 ∙ v) one in
        let a2 : r.7 ≡ s.7 = red2.ends_apart r.1 r.3 r.7 s.7 r.9 s.9 r.5 r.12 r.14 s.12 (s.14 ∙ w) two in
        spot_once (ends_with agree both) (pair_stop agree both k) A2.stops A1.stops 0 m l (spot s.6 s.7)
        (r.10 ∙ (ap (λ u. Some (spot u r.7)) a1 ∙ ap (λ u. Some (spot s.6 u)) a2)) s.10

    idles : (b a : ℕ) → f b ≡ Some a → Has A.idle a ↔ Has B.idle b
    idles b a at =
        let t = state_cases b a at in (
          (λ h.
              let s = numbers_of A1.idle A2.idle k a h in
              let same = pair_same k s.0 s.1 t.2 t.3 (wa2.idles s.1 s.3) (red2.to_states t.1 t.3 t.7) (s.4 ∙ sym t.8) in
              subst (Has B.idle) (sym t.4) (has_number B1.idle B2.idle n t.0 t.1
              ((red1.idles t.0 t.2 t.6).0 (subst (Has A1.idle) same.0 s.2)) ((red2.idles t.1 t.3 t.7).0 (subst (Has A2.idle) same.1 s.3)))),
          (λ h.
              let s = numbers_of B1.idle B2.idle n b h in
              let same = pair_same n s.0 s.1 t.0 t.1 (wb2.idles s.1 s.3) t.5 (s.4 ∙ t.4) in
              subst (Has A.idle) t.8 (has_number A1.idle A2.idle k t.2 t.3
              ((red1.idles t.0 t.2 t.6).1 (subst (Has B1.idle) same.0 s.2)) ((red2.idles t.1 t.3 t.7).1 (subst (Has B2.idle) same.1 s.3)))),
        )

    pub joined : IsReduct A B f g e
    joined = record {
      from_states = from_states;
      to_states = to_states;
      onto = onto;
      starts_there = starts_there;
      starts_back = starts_back;
      knows_ends = knows_ends;
      knows_before = knows_before;
      ways_known = ways_known;
      ways_there = ways_there;
      ways_back = ways_back;
      ends_back = ends_back;
      ends_there = ends_there;
      ends_apart = ends_apart;
      idles = idles;
    }

pub reduct_of_join : ReductOfJoin
reduct_of_join agree both A1 B1 A2 B2 wa1 wb1 wa2 wb2 red1 red2 = (
  state_map agree both B2.states A2.states red1.0 red2.0,
  way_map agree both (way_spots agree both B1 B2) (way_spots agree both A1 A2) red1.1 red2.1,
  end_map agree both B2.states (stop_spots agree both B1 B2) (stop_spots agree both A1 A2) red1.2 red2.2,
  joined agree both A1 B1 A2 B2 wa1 wb1 wa2 wb2 red1.0 red1.1 red2.0 red2.1 red1.2 red2.2 red1.3 red2.3,
)
