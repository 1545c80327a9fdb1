-- What a reduct costs is no more than what it reduces costs.
--   Each set that the reduct reaches at a place is the image of a set that is reached there, and the image
--   determines it; it has no more members, and no more edges.
use Rattle.std.proofs.Common.{◌≡◌, ℕ, suc, ◌+◌, ◌<◌, ◌≤◌, ◌⊎◌, ◌↔◌, Bool, true, false, List, [], ◌∷◌, Option, Some, length, map, inl, inr, refl, sym, ap, subst, arith, ◌∙◌}
use Rattle.std.specs.Prelude.{nat_eq, nat_lt, if◌then◌else◌, ◌&&◌, cond}
use Rattle.std.specs.FinSet as bytes
use Rattle.std.specs.List.{filter, flat_map, sum_by}
use Rattle.std.specs.Str.{bytes_eq}
use Rattle.std.proofs.lemmas.List.{length-map}
use Rattle.std.proofs.lemmas.Bool.{cases_order, eqb-true, eqb-false, eq-eqb, lt-ltb, ltb-true}
use Rattle.std.proofs.lemmas.List.Sums.{sum_by-append}
use Rattle.std.proofs.lemmas.Slice.Eq.{bytes_eq-Decides}
use Rattle.span_core.specs.Lists.{Has, AreDistinct}
use Rattle.span_core.proofs.HasLaws.{Has-append_left, Has-append_right, Has-append_cases}
use Rattle.marked_automaton.specs.declared.way.Way.{Way}
use Rattle.marked_automaton.specs.declared.way.Stop.{Stop}
use Rattle.marked_automaton.specs.Automaton.{Automaton}
use Rattle.marked_automaton.specs.Images.{IsImage, AllAreReached, LeadsTo}
use Rattle.marked_automaton.specs.Reduct.{HasEnd, IsReduct}
use Rattle.marked_automaton.proofs.Listed.{some_same}
use Rattle.marked_automaton.proofs.ReductWords.{image_law}
use Rattle.automaton_reading.specs.Measures.{ReductMeasures}
use Rattle.automaton_reading.specs.Reading.{put_up, put_down, set_of, blocks_down, is_among, Question, byte_read, rest_taken, ended, question_same, questions, Reach, ways_taken, reach_with, rest_edge, edges, once, next_sets, LookUp, look_up_same, look_ups_asked, look_ups_read, look_up_edges, edges_K, look_ups_K, weight_K}
use Rattle.automaton_reading.proofs.Determined.{put_up_cases, put_down_cases, set_has, has_set, blocks_has, has_block, among_has, has_among}
use Rattle.span_core.proofs.HasLaws.{Has-map, Has-map_cases}
use Rattle.marked_automaton.proofs.Passing.{has_flat_map, flat_map_cases, filter_cases, has_filter, left_true, right_true, both_true}
use Rattle.automaton_reading.proofs.Matching.{match_sum, once_has, has_once, once_distinct, length_sum, map_distinct}

-- ---- ascending and descending lists

abbrev pub AllAbove : ℕ → List ℕ → Type 0
AllAbove x ys = (y : ℕ) → Has ys y → x < y

abbrev pub IsUp : List ℕ → Type 0
IsUp [] = Unit {0}
IsUp (x ∷ xs) = AllAbove x xs × IsUp xs

pub up_same : (xs ys : List ℕ) → IsUp xs → IsUp ys → ((z : ℕ) → Has xs z → Has ys z) → ((z : ℕ) → Has ys z → Has xs z) → xs ≡ ys
up_same [] [] a b to back = refl
up_same [] (y ∷ ys) a b to back = absurd (back y (inl refl))
up_same (x ∷ xs) [] a b to back = absurd (to x (inl refl))
up_same (x ∷ xs) (y ∷ ys) a b to back =
    let same : x ≡ y = first in
    ap (λ z. z ∷ xs) same ∙ ap (λ zs. y ∷ zs) (up_same xs ys a.1 b.1 (λ z h. later z h same) (λ z h. before z h same))
  where
    first : x ≡ y
    first =
        elim (to x (inl refl)) as (λ _. x ≡ y) [
          | inl e ↦ sym e
          | inr h ↦ elim (back y (inl refl)) as (λ _. x ≡ y) [ inl e ↦ e | inr k ↦ absurd (omega (arith, b.0 x h, a.0 y k)) ]
        ]

    later : (z : ℕ) → Has xs z → x ≡ y → Has ys z
    later z h same = elim (to z (inr h)) as (λ _. Has ys z) [ inl e ↦ absurd (omega (arith, a.0 z h, e, same)) | inr k ↦ k ]

    before : (z : ℕ) → Has ys z → x ≡ y → Has xs z
    before z h same = elim (back z (inr h)) as (λ _. Has xs z) [ inl e ↦ absurd (omega (arith, b.0 z h, e, same)) | inr k ↦ k ]

put_is_up : (p : ℕ) (qs : List ℕ) → IsUp qs → IsUp (put_up p qs)
put_is_up p [] u = (λ y h. absurd h, tt)
put_is_up p (q ∷ qs) u = go (put_is_up p qs u.1) (nat_lt p q) (nat_eq p q) refl refl
  where
    go : IsUp (put_up p qs) → (a b : Bool) → nat_lt p q ≡ a → nat_eq p q ≡ b → IsUp (if a then p ∷ q ∷ qs else (if b then q ∷ qs else q ∷ put_up p qs))
    go rest true b less e =
        let l : p < q = ltb-true p q less in
        (λ y h. elim h as (λ _. p < y) [ inl i ↦ omega (arith, l, i) | inr j ↦ omega (arith, l, u.0 y j) ], u)
    go rest false true less e = u
    go rest false false less e = (
      λ y h. elim (put_up_cases p qs y h) as (λ _. q < y) [
        | inl i ↦ rw (← i) (more (cases_order p q))
        | inr j ↦ u.0 y j
      ],
      rest,
    )
      where
        more : (p ≡ q) ⊎ ((p < q) ⊎ (q < p)) → q < p
        more (inr (inl l)) = absurd (false_true (sym less ∙ lt-ltb p q l))
          where
            false_true : false ≡ true → ⊥
            false_true f = cc
        more (inl i) = absurd (eqb-false p q e i)
        more (inr (inr g)) = g

pub set_is_up : (xs : List ℕ) → IsUp (set_of xs)
set_is_up [] = tt
set_is_up (x ∷ xs) = put_is_up x (set_of xs) (set_is_up xs)

filter_is_up : (t : ℕ → Bool) (xs : List ℕ) → IsUp xs → IsUp (filter t xs)
filter_is_up t [] u = tt
filter_is_up t (x ∷ xs) u = go (filter_is_up t xs u.1) (t x)
  where
    go : IsUp (filter t xs) → (b : Bool) → IsUp (cond b (x ∷ filter t xs) (filter t xs))
    go rest true = (λ y h. u.0 y (filter_cases t xs y h).0, rest)
    go rest false = rest

up_distinct : (xs : List ℕ) → IsUp xs → AreDistinct xs
up_distinct [] u = tt
up_distinct (x ∷ xs) u = (λ h. (let l = u.0 x h in omega (arith, l)), up_distinct xs u.1)

abbrev pub AllBelow : ℕ → List ℕ → Type 0
AllBelow x ys = (y : ℕ) → Has ys y → y < x

abbrev pub IsDown : List ℕ → Type 0
IsDown [] = Unit {0}
IsDown (x ∷ xs) = AllBelow x xs × IsDown xs

put_is_down : (p : ℕ) (qs : List ℕ) → IsDown qs → IsDown (put_down p qs)
put_is_down p [] u = (λ y h. absurd h, tt)
put_is_down p (q ∷ qs) u = go (put_is_down p qs u.1) (nat_lt q p) (nat_eq p q) refl refl
  where
    go : IsDown (put_down p qs) → (a b : Bool) → nat_lt q p ≡ a → nat_eq p q ≡ b → IsDown (if a then p ∷ q ∷ qs else (if b then q ∷ qs else q ∷ put_down p qs))
    go rest true b less e =
        let l : q < p = ltb-true q p less in
        (λ y h. elim h as (λ _. y < p) [ inl i ↦ omega (arith, l, i) | inr j ↦ omega (arith, l, u.0 y j) ], u)
    go rest false true less e = u
    go rest false false less e = (
      λ y h. elim (put_down_cases p qs y h) as (λ _. y < q) [
        | inl i ↦ rw (← i) (fewer (cases_order p q))
        | inr j ↦ u.0 y j
      ],
      rest,
    )
      where
        fewer : (p ≡ q) ⊎ ((p < q) ⊎ (q < p)) → p < q
        fewer (inl i) = absurd (eqb-false p q e i)
        fewer (inr (inl l)) = l
        fewer (inr (inr g)) = absurd (false_true (sym less ∙ lt-ltb q p g))
          where
            false_true : false ≡ true → ⊥
            false_true f = cc

pub blocks_are_down : (xs : List ℕ) → IsDown (blocks_down xs)
blocks_are_down [] = tt
blocks_are_down (x ∷ xs) = put_is_down x (blocks_down xs) (blocks_are_down xs)

pub down_distinct : (xs : List ℕ) → IsDown xs → AreDistinct xs
down_distinct [] u = tt
down_distinct (x ∷ xs) u = (λ h. (let l = u.0 x h in omega (arith, l)), down_distinct xs u.1)

-- ---- what edges are

module _ (A : Automaton) (S : List ℕ) (b : ℕ) where
  abbrev passes : Way → Bool
  passes y = is_among S y.from && bytes.contains y.bytes b

  abbrev pub Marks : List ℕ
  Marks = blocks_down (map (λ (y : Way). y.marks) (ways_taken A S b))

  taken_leads : (y : Way) → Has (ways_taken A S b) y → LeadsTo A S b y.marks y.to
  taken_leads y h =
      let t = filter_cases passes A.ways y h in
      (y, t.0, among_has S y.from (left_true (is_among S y.from) (bytes.contains y.bytes b) t.1), right_true (is_among S y.from) (bytes.contains y.bytes b) t.1, refl, refl)

  leads_taken : (m q : ℕ) → (l : LeadsTo A S b m q) → Has (ways_taken A S b) l.0
  leads_taken m q l = has_filter passes A.ways l.0 l.1 (both_true (is_among S l.0.from) (bytes.contains l.0.bytes b) (has_among S l.0.from l.2) l.3)

  -- a block that members take
  pub mark_leads : (m : ℕ) → Has Marks m → (q : ℕ) × LeadsTo A S b m q
  mark_leads m h =
      let y = Has-map_cases (λ (y : Way). y.marks) (ways_taken A S b) m (has_block (map (λ (y : Way). y.marks) (ways_taken A S b)) m h) in
      (y.0.to, rw y.2 at (taken_leads y.0 y.1))

  pub leads_mark : (m q : ℕ) → LeadsTo A S b m q → Has Marks m
  leads_mark m q l =
      blocks_has (map (λ (y : Way). y.marks) (ways_taken A S b)) m
      (subst (Has (map (λ (y : Way). y.marks) (ways_taken A S b))) l.4 (Has-map (λ (y : Way). y.marks) (ways_taken A S b) l.0 (leads_taken m q l)))

  abbrev pub Reached : ℕ → List ℕ
  Reached m = (reach_with (ways_taken A S b) m).to

  pub reached_leads : (m q : ℕ) → Has (Reached m) q ↔ LeadsTo A S b m q
  reached_leads m q = (there, back)
    where
      there : Has (Reached m) q → LeadsTo A S b m q
      there h =
          let y = Has-map_cases (λ (y : Way). y.to) (filter (λ y. nat_eq y.marks m) (ways_taken A S b)) q
          (has_set (map (λ (y : Way). y.to) (filter (λ y. nat_eq y.marks m) (ways_taken A S b))) q h) in
          let f = filter_cases (λ (y : Way). nat_eq y.marks m) (ways_taken A S b) y.0 y.1 in
          rw (eqb-true y.0.marks m f.1) at (rw y.2 at (taken_leads y.0 f.0))

      back : LeadsTo A S b m q → Has (Reached m) q
      back l =
          let f = has_filter (λ (z : Way). nat_eq z.marks m) (ways_taken A S b) l.0 (leads_taken m q l) (eq-eqb l.0.marks m l.4) in
          set_has (map (λ (y : Way). y.to) (filter (λ y. nat_eq y.marks m) (ways_taken A S b))) q
          (subst (Has (map (λ (y : Way). y.to) (filter (λ y. nat_eq y.marks m) (ways_taken A S b)))) l.5
          (Has-map (λ (y : Way). y.to) (filter (λ y. nat_eq y.marks m) (ways_taken A S b)) l.0 f))

module _ (A : Automaton) (S : List ℕ) where
  abbrev pub Ends : List ℕ
  Ends = blocks_down (map (λ (x : Stop). x.marks) (filter (λ (x : Stop). is_among S x.state) A.stops))

  pub ends_are : (m : ℕ) → Has Ends m ↔ ((a : ℕ) × Has S a × HasEnd A a m)
  ends_are m = (there, back)
    where
      there : Has Ends m → (a : ℕ) × Has S a × HasEnd A a m
      there h =
          let x = Has-map_cases (λ (x : Stop). x.marks) (filter (λ (x : Stop). is_among S x.state) A.stops) m
          (has_block (map (λ (x : Stop). x.marks) (filter (λ (x : Stop). is_among S x.state) A.stops)) m h) in
          let f = filter_cases (λ (x : Stop). is_among S x.state) A.stops x.0 x.1 in
          (x.0.state, among_has S x.0.state f.1, subst (λ k. HasEnd A x.0.state k) x.2 f.0)

      back : (a : ℕ) × Has S a × HasEnd A a m → Has Ends m
      back e =
          let f = has_filter (λ (x : Stop). is_among S x.state) A.stops (record { state = e.0; marks = m }) e.2 (has_among S e.0 e.1) in
          blocks_has (map (λ (x : Stop). x.marks) (filter (λ (x : Stop). is_among S x.state) A.stops)) m
          (Has-map (λ (x : Stop). x.marks) (filter (λ (x : Stop). is_among S x.state) A.stops) (record { state = e.0; marks = m }) f)

  pub idle_are : (a : ℕ) → Has (filter (is_among A.idle) S) a ↔ (Has S a × Has A.idle a)
  idle_are a =
      (λ h. let f = filter_cases (is_among A.idle) S a h in (f.0, among_has A.idle a f.1), λ h. has_filter (is_among A.idle) S a h.0 (has_among A.idle a h.1))

-- ---- equality of sets and of look-ups

pub same_bytes : (x y : List ℕ) → bytes_eq x y ≡ true → x ≡ y
same_bytes x y e = (bytes_eq-Decides x y).0 e

pub bytes_itself : (x : List ℕ) → bytes_eq x x ≡ true
bytes_itself x = (bytes_eq-Decides x x).1 refl

pub same_ask : (a b : Question) → question_same a b ≡ true → a ≡ b
same_ask (byte_read b) (byte_read c) e = ap byte_read (eqb-true b c e)
same_ask (byte_read b) rest_taken e = absurd (cc)
same_ask (byte_read b) ended e = absurd (cc)
same_ask rest_taken (byte_read c) e = absurd (cc)
same_ask rest_taken rest_taken e = refl
same_ask rest_taken ended e = absurd (cc)
same_ask ended (byte_read c) e = absurd (cc)
same_ask ended rest_taken e = absurd (cc)
same_ask ended ended e = refl

pub ask_itself : (a : Question) → question_same a a ≡ true
ask_itself (byte_read b) = eq-eqb b b refl
ask_itself rest_taken = refl
ask_itself ended = refl

pub same_look_up : (r s : LookUp) → look_up_same r s ≡ true → r ≡ s
same_look_up r s e =
    let sets = same_bytes r.set s.set (left_true (bytes_eq r.set s.set) (question_same r.ask s.ask) e) in
    let asks = same_ask r.ask s.ask (right_true (bytes_eq r.set s.set) (question_same r.ask s.ask) e) in
    ap (λ set. let w : LookUp = record { set = set; ask = r.ask } in w) sets ∙ ap (λ a. let w : LookUp = record { set = s.set; ask = a } in w) asks

pub look_up_itself : (r : LookUp) → look_up_same r r ≡ true
look_up_itself r = both_true (bytes_eq r.set r.set) (question_same r.ask r.ask) (bytes_itself r.set) (ask_itself r.ask)

-- ---- images

module _ (A B : Automaton) (f g : ℕ → Option ℕ) (e : ℕ → ℕ → ℕ) (r : IsReduct A B f g e) where
  -- a set of A, and a reached set of B whose image it is
  pub record IsShadow (SB SA : List ℕ) : Type 0 where
    pub up : IsUp SA
    pub reached : AllAreReached B SB
    pub image : IsImage f SB SA

  -- the image determines it
  shadow_same : (SA TA SB : List ℕ) → IsShadow SB SA → IsShadow SB TA → SA ≡ TA
  shadow_same SA TA SB s t = up_same SA TA s.up t.up (λ z h. (t.image z).1 ((s.image z).0 h)) (λ z h. (s.image z).1 ((t.image z).0 h))

  -- it has no more members
  shadow_members : (SB SA : List ℕ) → IsShadow SB SA → length SA ≤ length SB
  shadow_members SB SA s =
      let le = match_sum (λ a b. f b ≡ Some a) (λ a. 1) (λ b. 1) SA SB (up_distinct SA s.up)
      (λ a h. let b = (s.image a).0 h in (b.0, b.1, b.2, omega arith)) (λ a c b x y. some_same a c (sym x ∙ y)) in
      omega (arith, le, length_sum SA, length_sum SB)

  -- fewer of them
  no_more_of : (xs ys : List ℕ) → AreDistinct xs → ((x : ℕ) → Has xs x → Has ys x) → length xs ≤ length ys
  no_more_of xs ys d sub =
      let le = match_sum (λ (x y : ℕ). x ≡ y) (λ x. 1) (λ y. 1) xs ys d (λ x h. (x, sub x h, refl, omega arith)) (λ x z y a b. a ∙ sym b) in
      omega (arith, le, length_sum xs, length_sum ys)

  law : (SB SA : List ℕ) → IsShadow SB SA →
      ((c m q : ℕ) → LeadsTo A SA c m q ↔ ((b : ℕ) × LeadsTo B SB c m b × (f b ≡ Some q)))
      × ((m : ℕ) → ((a : ℕ) × Has SA a × HasEnd A a m) ↔ ((b : ℕ) × Has SB b × HasEnd B b m))
      × ((a : ℕ) → (Has SA a × Has A.idle a) ↔ ((b : ℕ) × Has SB b × Has B.idle b × (f b ≡ Some a)))
  law SB SA s = image_law A B f g e r SB SA s.reached s.image

  marks_there : (SB SA : List ℕ) → IsShadow SB SA → (c m : ℕ) → Has (Marks A SA c) m → Has (Marks B SB c) m
  marks_there SB SA s c m h =
      let l = mark_leads A SA c m h in
      let t = ((law SB SA s).0 c m l.0).0 l.1 in
      leads_mark B SB c m t.0 t.1

  -- what is reached by a block
  shadow_reached : (SB SA : List ℕ) → IsShadow SB SA → (c m : ℕ) → IsShadow (Reached B SB c m) (Reached A SA c m)
  shadow_reached SB SA s c m = record {
    up = set_is_up (map (λ (y : Way). y.to) (filter (λ y. nat_eq y.marks m) (ways_taken A SA c)));
    reached = λ b h.
        let l = (reached_leads B SB c m b).0 h in
        let from = s.reached l.0.from l.2 in
        (suc from.0, (l.0, l.1, from.1, l.5));
    image = λ q. (
      λ h. let t = ((law SB SA s).0 c m q).0 ((reached_leads A SA c m q).0 h) in (t.0, (reached_leads B SB c m t.0).1 t.1, t.2),
      λ h. (reached_leads A SA c m q).1 (((law SB SA s).0 c m q).1 (h.0, (reached_leads B SB c m h.0).0 h.1, h.2)),
    );
  }

  -- the idle members
  shadow_idle : (SB SA : List ℕ) → IsShadow SB SA → IsShadow (filter (is_among B.idle) SB) (filter (is_among A.idle) SA)
  shadow_idle SB SA s = record {
    up = filter_is_up (is_among A.idle) SA s.up;
    reached = λ b h. s.reached b ((idle_are B SB b).0 h).0;
    image = λ a. (
      λ h. let t = ((law SB SA s).2 a).0 ((idle_are A SA a).0 h) in (t.0, (idle_are B SB t.0).1 (t.1, t.2), t.3),
      λ h. let k = (idle_are B SB h.0).0 h.1 in (idle_are A SA a).1 (((law SB SA s).2 a).1 (h.0, k.0, k.1, h.2)),
    );
  }

  shadow_none : IsShadow [] []
  shadow_none = record { up = tt; reached = λ b h. absurd h; image = λ a. (λ h. absurd h, λ h. absurd h.1) }

  rest_length : (xs ys : List ℕ) → ((x : ℕ) → Has xs x → (y : ℕ) × Has ys y) → length (rest_edge xs) ≤ length (rest_edge ys)
  rest_length [] ys h = omega arith
  rest_length (x ∷ xs) [] h = absurd (h x (inl refl)).1
  rest_length (x ∷ xs) (y ∷ ys) h = omega arith

  -- ---- edges

  edges_no_more : (SB SA : List ℕ) → IsShadow SB SA → (a : Question) → length (edges A SA a) ≤ length (edges B SB a)
  edges_no_more SB SA s (byte_read c) =
      let le = no_more_of (Marks A SA c) (Marks B SB c) (down_distinct (Marks A SA c) (blocks_are_down (map (λ (y : Way). y.marks) (ways_taken A SA c)))) (marks_there SB SA s c) in
      omega (arith, le, length-map (Marks A SA c) (reach_with (ways_taken A SA c)), length-map (Marks B SB c) (reach_with (ways_taken B SB c)))
  edges_no_more SB SA s rest_taken =
      rest_length (filter (is_among A.idle) SA) (filter (is_among B.idle) SB)
      (λ x h. let t = ((shadow_idle SB SA s).image x).0 h in (t.0, t.1))
  edges_no_more SB SA s ended =
      let ends : ℕ → Reach = λ m. record { marks = m; to = [] } in
      let le = no_more_of (Ends A SA) (Ends B SB) (down_distinct (Ends A SA) (blocks_are_down (map (λ (x : Stop). x.marks) (filter (λ (x : Stop). is_among SA x.state) A.stops))))
      (λ m h. (ends_are B SB m).1 (((law SB SA s).1 m).0 ((ends_are A SA m).0 h))) in
      omega (arith, le, length-map (Ends A SA) ends, length-map (Ends B SB) ends)

  rest_shadow : (XA XB : List ℕ) → IsShadow XB XA → (p : Reach) → Has (rest_edge XA) p → (q : Reach) × Has (rest_edge XB) q × IsShadow q.to p.to
  rest_shadow [] XB s p h = absurd h
  rest_shadow (x ∷ xs) [] s p h = absurd ((s.image x).0 (inl refl)).1
  rest_shadow (x ∷ xs) (y ∷ ys) s p (inl i) =
      (record { marks = 0; to = y ∷ ys }, inl refl, rw (← i) s)
  rest_shadow (x ∷ xs) (y ∷ ys) s p (inr h) = absurd h

  -- each edge leads to the image of what one leads to
  edge_shadow : (SB SA : List ℕ) → IsShadow SB SA → (a : Question) (p : Reach) → Has (edges A SA a) p → (q : Reach) × Has (edges B SB a) q × IsShadow q.to p.to
  edge_shadow SB SA s (byte_read c) p h =
      let m = Has-map_cases (reach_with (ways_taken A SA c)) (Marks A SA c) p h in
      let there = marks_there SB SA s c m.0 m.1 in (
        reach_with (ways_taken B SB c) m.0,
        Has-map (reach_with (ways_taken B SB c)) (Marks B SB c) m.0 there,
        subst (λ (t : Reach). IsShadow (Reached B SB c m.0) t.to) m.2 (shadow_reached SB SA s c m.0),
      )
  edge_shadow SB SA s rest_taken p h =
      rest_shadow (filter (is_among A.idle) SA) (filter (is_among B.idle) SB) (shadow_idle SB SA s) p h
  edge_shadow SB SA s ended p h =
      let ends : ℕ → Reach = λ m. record { marks = m; to = [] } in
      let m = Has-map_cases ends (Ends A SA) p h in
      let there = (ends_are B SB m.0).1 (((law SB SA s).1 m.0).0 ((ends_are A SA m.0).0 m.1)) in
      (ends m.0, Has-map ends (Ends B SB) m.0 there, rw (← m.2) shadow_none)

  -- ---- sets, place by place

  abbrev pub Covers : List (List ℕ) → List (List ℕ) → Type 0
  Covers BS AS = (SA : List ℕ) → Has AS SA → (SB : List ℕ) × Has BS SB × IsShadow SB SA

  abbrev targets : Automaton → List (List ℕ) → Question → List (List ℕ)
  targets X XS a = flat_map (λ set. map (λ (t : Reach). t.to) (edges X set a)) XS

  pub next_covers : (BS AS : List (List ℕ)) (a : Question) → Covers BS AS → Covers (next_sets B BS a) (next_sets A AS a)
  next_covers BS AS a cover SA h =
      let k = has_once bytes_eq same_bytes bytes_itself (targets A AS a) SA h in
      let x = flat_map_cases (λ set. map (λ (t : Reach). t.to) (edges A set a)) AS SA k in
      let p = Has-map_cases (λ (t : Reach). t.to) (edges A x.0 a) SA x.2 in
      let y = cover x.0 x.1 in
      let q = edge_shadow y.0 x.0 y.2 a p.0 p.1 in (
        q.0.to,
        once_has bytes_eq same_bytes bytes_itself (targets B BS a) q.0.to
            (has_flat_map (λ set. map (λ (t : Reach). t.to) (edges B set a)) BS y.0 q.0.to y.1 (Has-map (λ (t : Reach). t.to) (edges B y.0 a) q.0 q.1)),
        subst (IsShadow q.0.to) p.2 q.2,
      )

  next_distinct : (AS : List (List ℕ)) (a : Question) → AreDistinct (next_sets A AS a)
  next_distinct AS a = once_distinct bytes_eq same_bytes bytes_itself (targets A AS a)

  pub start_covers : Covers (set_of B.starts ∷ []) (set_of A.starts ∷ [])
  start_covers SA (inl i) = (set_of B.starts, inl refl, subst (IsShadow (set_of B.starts)) i start)
    where
      start : IsShadow (set_of B.starts) (set_of A.starts)
      start = record {
        up = set_is_up A.starts;
        reached = λ b h. (0, has_set B.starts b h);
        image = λ a. (
          λ h. let t = r.starts_back a (has_set A.starts a h) in (t.0, set_has B.starts t.0 t.1, t.2),
          λ h. set_has A.starts a (r.starts_there h.0 a (has_set B.starts h.0 h.1) h.2),
        );
      }
  start_covers SA (inr h) = absurd h

  -- ---- look-ups

  abbrev look_up_of_set : Question → List ℕ → LookUp
  look_up_of_set a set = record { set = set; ask = a }

  pub record IsLookUpShadow (x y : LookUp) : Type 0 where
    pub sets : IsShadow y.set x.set
    pub asks : x.ask ≡ y.ask

  look_up_one : (x z y : LookUp) → IsLookUpShadow x y → IsLookUpShadow z y → x ≡ z
  look_up_one x z y s t =
      let sets = shadow_same x.set z.set y.set s.sets t.sets in
      let asks : x.ask ≡ z.ask = s.asks ∙ sym t.asks in
      ap (λ set. let w : LookUp = record { set = set; ask = x.ask } in w) sets ∙ ap (λ a. let w : LookUp = record { set = z.set; ask = a } in w) asks

  pub look_up_no_more : (x y : LookUp) → IsLookUpShadow x y → look_up_edges A x ≤ look_up_edges B y
  look_up_no_more x y s = rw (← s.asks) (edges_no_more y.set x.set s.sets x.ask)

  pub look_ups_cover : (BS AS : List (List ℕ)) (asks : List Question) → Covers BS AS → (x : LookUp) → Has (look_ups_asked A AS asks) x →
      (y : LookUp) × Has (look_ups_asked B BS asks) y × IsLookUpShadow x y
  look_ups_cover BS AS [] cover x h = absurd h
  look_ups_cover BS AS (a ∷ later) cover x h =
      elim (Has-append_cases (map (look_up_of_set a) AS) (look_ups_asked A (next_sets A AS a) later) x h) as (λ _. (y : LookUp) × Has (look_ups_asked B BS (a ∷ later)) y × IsLookUpShadow x y) [
        | inl i ↦
            let s = Has-map_cases (look_up_of_set a) AS x i in
            let t = cover s.0 s.1 in (
              look_up_of_set a t.0,
              Has-append_left (map (look_up_of_set a) BS) (look_ups_asked B (next_sets B BS a) later) (look_up_of_set a t.0) (Has-map (look_up_of_set a) BS t.0 t.1),
              record { sets = subst (λ (w : LookUp). IsShadow t.0 w.set) s.2 t.2; asks = sym (ap (λ (w : LookUp). w.ask) s.2) },
            )
        | inr j ↦
            let t = look_ups_cover (next_sets B BS a) (next_sets A AS a) later (next_covers BS AS a cover) x j in
            (t.0, Has-append_right (map (look_up_of_set a) BS) (look_ups_asked B (next_sets B BS a) later) t.0 t.1, t.2)
      ]

  -- ---- the numbers

  edges_sum : (BS AS : List (List ℕ)) (asks : List Question) → AreDistinct AS → Covers BS AS → sum_by (look_up_edges A) (look_ups_asked A AS asks) ≤ sum_by (look_up_edges B) (look_ups_asked B BS asks)
  edges_sum BS AS [] d cover = omega arith
  edges_sum BS AS (a ∷ later) d cover =
      let here = match_sum IsLookUpShadow (look_up_edges A) (look_up_edges B) (map (look_up_of_set a) AS) (map (look_up_of_set a) BS)
      (map_distinct (look_up_of_set a) AS (λ x z i. ap (λ (w : LookUp). w.set) i) d)
      (λ x h.
      let s = Has-map_cases (look_up_of_set a) AS x h in
      let t = cover s.0 s.1 in
      let shadow : IsLookUpShadow x (look_up_of_set a t.0) = record { sets = subst (λ (w : LookUp). IsShadow t.0 w.set) s.2 t.2; asks = sym (ap (λ (w : LookUp). w.ask) s.2) } in
      (look_up_of_set a t.0, Has-map (look_up_of_set a) BS t.0 t.1, shadow, look_up_no_more x (look_up_of_set a t.0) shadow))
      look_up_one in
      let rest = edges_sum (next_sets B BS a) (next_sets A AS a) later (next_distinct AS a) (next_covers BS AS a cover) in
      omega (
        arith,
        here,
        rest,
        sum_by-append (look_up_edges A) (map (look_up_of_set a) AS) (look_ups_asked A (next_sets A AS a) later),
        sum_by-append (look_up_edges B) (map (look_up_of_set a) BS) (look_ups_asked B (next_sets B BS a) later),
      )

  -- sums over distinct look-ups, and over distinct sets
  pub once_look_ups : (w v : LookUp → ℕ) (xs ys : List LookUp) → ((x : LookUp) → Has xs x → (y : LookUp) × Has ys y × IsLookUpShadow x y) → ((x y : LookUp) → IsLookUpShadow x y → w x ≤ v y) →
      sum_by w (once look_up_same xs) ≤ sum_by v (once look_up_same ys)
  once_look_ups w v xs ys cover less =
      match_sum IsLookUpShadow w v (once look_up_same xs) (once look_up_same ys) (once_distinct look_up_same same_look_up look_up_itself xs)
      (λ x h. let t = cover x (has_once look_up_same same_look_up look_up_itself xs x h) in (t.0, once_has look_up_same same_look_up look_up_itself ys t.0 t.1, t.2, less x t.0 t.2)) look_up_one

  pub once_sets : (xs ys : List LookUp) → ((x : LookUp) → Has xs x → (y : LookUp) × Has ys y × IsLookUpShadow x y) →
      sum_by (λ (set : List ℕ). 1 + length set) (once bytes_eq (map (λ (x : LookUp). x.set) xs)) ≤ sum_by (λ (set : List ℕ). 1 + length set) (once bytes_eq (map (λ (x : LookUp). x.set) ys))
  once_sets xs ys cover =
      match_sum (λ SA SB. IsShadow SB SA) (λ (set : List ℕ). 1 + length set) (λ (set : List ℕ). 1 + length set)
      (once bytes_eq (map (λ (x : LookUp). x.set) xs)) (once bytes_eq (map (λ (x : LookUp). x.set) ys))
      (once_distinct bytes_eq same_bytes bytes_itself (map (λ (x : LookUp). x.set) xs))
      (λ SA h.
      let x = Has-map_cases (λ (x : LookUp). x.set) xs SA (has_once bytes_eq same_bytes bytes_itself (map (λ (x : LookUp). x.set) xs) SA h) in
      let t = cover x.0 x.1 in
      let shadow : IsShadow t.0.set SA = subst (IsShadow t.0.set) x.2 t.2.sets in
      let le = shadow_members t.0.set SA shadow in
      (t.0.set, once_has bytes_eq same_bytes bytes_itself (map (λ (x : LookUp). x.set) ys) t.0.set (Has-map (λ (x : LookUp). x.set) ys t.0 t.1), shadow, omega (arith, le)))
      (λ SA TA SB s t. shadow_same SA TA SB s t)

  measures : (d : List ℕ) (K : ℕ → Bool) → (edges_K A d K ≤ edges_K B d K) × (look_ups_K A d K ≤ look_ups_K B d K) × (weight_K A d K ≤ weight_K B d K)
  measures d K =
      let asks = questions K d 0 false in
      let cover = look_ups_cover (set_of B.starts ∷ []) (set_of A.starts ∷ []) asks start_covers in
      let look_ups = once_look_ups (λ x. 1) (λ y. 1) (look_ups_read A d K) (look_ups_read B d K) cover (λ x y s. omega arith) in
      let sets = once_sets (look_ups_read A d K) (look_ups_read B d K) cover in
      let weights = once_look_ups (λ x. 1 + look_up_edges A x) (λ y. 1 + look_up_edges B y) (look_ups_read A d K) (look_ups_read B d K) cover
      (λ x y s. let le = look_up_no_more x y s in omega (arith, le)) in (
        edges_sum (set_of B.starts ∷ []) (set_of A.starts ∷ []) asks (λ h. h, tt) start_covers,
        omega (arith, look_ups, length_sum (once look_up_same (look_ups_read A d K)), length_sum (once look_up_same (look_ups_read B d K))),
        omega (arith, sets, weights),
      )

pub reduct_measures : ReductMeasures
reduct_measures A B h d K = measures A B h.0 h.1 h.2 h.3 d K
