-- The places of the pairs that pass a test, in the list of all of them.
use Rattle.std.proofs.Common.{◌≡◌, ℕ, zero, suc, ◌+◌, ◌≤◌, Bool, true, false, List, [], ◌∷◌, ◌++◌, Option, Some, None, length, inl, inr, refl, sym, ap, arith, ◌∙◌}
use Rattle.std.specs.Prelude.{map, slice_get, nat_eq, if◌then◌else◌, ◌&&◌, cond}
use Rattle.std.specs.List.{filter, flat_map}
use Rattle.std.specs.Option.{option_map}
use Rattle.std.proofs.lemmas.Bool.{eqb-true, eq-eqb, false≢true}
use Rattle.span_core.proofs.ListLaws.{get_left}
use Rattle.marked_automaton.proofs.Passing.{both_true, left_true, right_true}
use Rattle.marked_automaton.proofs.Listed.{get_map_cases, get_map}
use Rattle.marked_automaton.proofs.Listed.{some_same}
use Rattle.algebra.proofs.ReductUnions.{get_right, get_append_cases}

pub record Spot : Type 0 where
  pub one : ℕ
  pub two : ℕ

module _ {Y : Type 0} (t : Y → Bool) where
  -- the places of what passes, counted from o on
  abbrev pub places_of : List Y → ℕ → List ℕ
  places_of [] o = []
  places_of (y ∷ ys) o = if t y then o ∷ places_of ys (suc o) else places_of ys (suc o)

  abbrev Found : List Y → ℕ → ℕ → Y → Type 0
  Found ys o k y = (j : ℕ) × (slice_get (places_of ys o) k ≡ Some (o + j)) × (slice_get ys j ≡ Some y) × (t y ≡ true)

  filter_place : (ys : List Y) (o k : ℕ) (y : Y) → slice_get (filter t ys) k ≡ Some y → Found ys o k y
  filter_place [] o k y e = absurd (cc)
  filter_place (x ∷ ys) o k y e = go (t x) refl k (λ k. filter_place ys (suc o) k y) e
    where
      go : (b : Bool) → t x ≡ b → (k : ℕ) → ((k : ℕ) → slice_get (filter t ys) k ≡ Some y → Found ys (suc o) k y) →
          slice_get (cond b (x ∷ filter t ys) (filter t ys)) k ≡ Some y →
          (j : ℕ) × (slice_get (if b then o ∷ places_of ys (suc o) else places_of ys (suc o)) k ≡ Some (o + j)) × (slice_get (x ∷ ys) j ≡ Some y) × (t y ≡ true)
      go true at zero rest e =
          let s : x ≡ y = some_same x y e in
          let z : o ≡ o + 0 = omega arith in
          (0, ap Some z, e, ap t (sym s) ∙ at)
      go true at (suc k) rest e = let r = rest k e in let z : suc o + r.0 ≡ o + suc r.0 = omega arith in (suc r.0, r.1 ∙ ap Some z, r.2, r.3)
      go false at k rest e = let r = rest k e in let z : suc o + r.0 ≡ o + suc r.0 = omega arith in (suc r.0, r.1 ∙ ap Some z, r.2, r.3)

  place_exists : (ys : List Y) (o j : ℕ) (y : Y) → slice_get ys j ≡ Some y → t y ≡ true →
      (k : ℕ) × (slice_get (places_of ys o) k ≡ Some (o + j)) × (slice_get (filter t ys) k ≡ Some y)
  place_exists [] o j y e h = absurd (cc)
  place_exists (x ∷ ys) o zero y e h =
      let s : x ≡ y = some_same x y e in
      let z : o ≡ o + 0 = omega arith in
      go (t x) (ap t s ∙ h) z
    where
      go : (b : Bool) → b ≡ true → o ≡ o + 0 →
          (k : ℕ) × (slice_get (if b then o ∷ places_of ys (suc o) else places_of ys (suc o)) k ≡ Some (o + 0)) × (slice_get (cond b (x ∷ filter t ys) (filter t ys)) k ≡ Some y)
      go true at z = (0, ap Some z, e)
      go false at z = absurd (false≢true at)
  place_exists (x ∷ ys) o (suc j) y e h = go (t x) (place_exists ys (suc o) j y e h)
    where
      go : (b : Bool) → (k : ℕ) × (slice_get (places_of ys (suc o)) k ≡ Some (suc o + j)) × (slice_get (filter t ys) k ≡ Some y) →
          (k : ℕ) × (slice_get (if b then o ∷ places_of ys (suc o) else places_of ys (suc o)) k ≡ Some (o + suc j)) × (slice_get (cond b (x ∷ filter t ys) (filter t ys)) k ≡ Some y)
      go true r = let z : suc o + j ≡ o + suc j = omega arith in (suc r.0, r.1 ∙ ap Some z, r.2)
      go false r = let z : suc o + j ≡ o + suc j = omega arith in (r.0, r.1 ∙ ap Some z, r.2)

  place_from : (ys : List Y) (o k v : ℕ) → slice_get (places_of ys o) k ≡ Some v → o ≤ v
  place_from [] o k v e = absurd (cc)
  place_from (y ∷ ys) o k v e = go (t y) k (λ k. place_from ys (suc o) k v) e
    where
      go : (b : Bool) (k : ℕ) → ((k : ℕ) → slice_get (places_of ys (suc o)) k ≡ Some v → suc o ≤ v) →
          slice_get (if b then o ∷ places_of ys (suc o) else places_of ys (suc o)) k ≡ Some v → o ≤ v
      go true zero rest e = omega (arith, some_same o v e)
      go true (suc k) rest e = omega (arith, rest k e)
      go false k rest e = omega (arith, rest k e)

  place_once : (ys : List Y) (o k l v : ℕ) → slice_get (places_of ys o) k ≡ Some v → slice_get (places_of ys o) l ≡ Some v → k ≡ l
  place_once [] o k l v e f = absurd (cc)
  place_once (y ∷ ys) o k l v e f = go (t y) k l (λ k l. place_once ys (suc o) k l v) e f
    where
      go : (b : Bool) (k l : ℕ) → ((k l : ℕ) → slice_get (places_of ys (suc o)) k ≡ Some v → slice_get (places_of ys (suc o)) l ≡ Some v → k ≡ l) →
          slice_get (if b then o ∷ places_of ys (suc o) else places_of ys (suc o)) k ≡ Some v →
          slice_get (if b then o ∷ places_of ys (suc o) else places_of ys (suc o)) l ≡ Some v → k ≡ l
      go true zero zero rest e f = refl
      go true zero (suc l) rest e f = absurd (omega (arith, some_same o v e, place_from ys (suc o) l v f))
      go true (suc k) zero rest e f = absurd (omega (arith, some_same o v f, place_from ys (suc o) k v e))
      go true (suc k) (suc l) rest e f = ap suc (rest k l e f)
      go false k l rest e f = rest k l e f

module _ {X Y Z : Type 0} (test : X → Y → Bool) (pair : X → Y → Z) (ys : List Y) where
  abbrev pub pairs : List X → List Z
  pairs xs = flat_map (λ x. map (pair x) (filter (test x) ys)) xs

  abbrev spot_at : ℕ → ℕ → Spot
  spot_at i j = record { one = i; two = j }

  abbrev pub spots : List X → ℕ → List Spot
  spots [] i = []
  spots (x ∷ xs) i = map (spot_at i) (places_of (test x) ys 0) ++ spots xs (suc i)

  -- the blocks of the two lists are as long
  same_length : (x : X) (zs : List Y) (o i : ℕ) → length (map (spot_at i) (places_of (test x) zs o)) ≡ length (map (pair x) (filter (test x) zs))
  same_length x [] o i = refl
  same_length x (z ∷ zs) o i = go (test x z) (same_length x zs (suc o) i)
    where
      go : (b : Bool) → length (map (spot_at i) (places_of (test x) zs (suc o))) ≡ length (map (pair x) (filter (test x) zs)) →
          length (map (spot_at i) (if b then o ∷ places_of (test x) zs (suc o) else places_of (test x) zs (suc o)))
          ≡ length (map (pair x) (cond b (z ∷ filter (test x) zs) (filter (test x) zs)))
      go true e = omega (arith, e)
      go false e = e

  pub spot_of : (xs : List X) (i k : ℕ) (z : Z) → slice_get (pairs xs) k ≡ Some z →
      (a : ℕ) × (b : ℕ) × (x : X) × (y : Y) × (slice_get (spots xs i) k ≡ Some (spot_at (i + a) b)) × (slice_get xs a ≡ Some x) × (slice_get ys b ≡ Some y)
      × (test x y ≡ true) × (pair x y ≡ z)
  spot_of [] i k z e = absurd (cc)
  spot_of (x ∷ xs) i k z e =
      elim (get_append_cases (map (pair x) (filter (test x) ys)) (pairs xs) k z e) [
        | inl h ↦
            let m = get_map_cases (pair x) (filter (test x) ys) k z h.1 in
            let p = filter_place (test x) ys 0 k m.0 m.1 in
            let n : i ≡ i + 0 = omega arith in
            let q : 0 + p.0 ≡ p.0 = omega arith in (
              0,
              p.0,
              x,
              m.0,
              get_left (map (spot_at i) (places_of (test x) ys 0)) (spots xs (suc i)) k (spot_at (i + 0) p.0)
                  (get_map (spot_at i) (places_of (test x) ys 0) k (0 + p.0) p.1 ∙ (ap (λ v. Some (spot_at i v)) q ∙ ap (λ v. Some (spot_at v p.0)) n)),
              refl,
              p.2,
              p.3,
              m.2,
            )
        | inr h ↦
            let r = spot_of xs (suc i) h.0 z h.2 in
            let n : suc i + r.0 ≡ i + suc r.0 = omega arith in (
              suc r.0,
              r.1,
              r.2,
              r.3,
              get_right (map (spot_at i) (places_of (test x) ys 0)) (spots xs (suc i)) k h.0 (spot_at (i + suc r.0) r.1)
                  (omega (arith, h.1, same_length x ys 0 i)) (r.4 ∙ ap (λ v. Some (spot_at v r.1)) n),
              r.5,
              r.6,
              r.7,
              r.8,
            )
      ]

  pub spot_exists : (xs : List X) (i a b : ℕ) (x : X) (y : Y) → slice_get xs a ≡ Some x → slice_get ys b ≡ Some y → test x y ≡ true →
      (k : ℕ) × (slice_get (spots xs i) k ≡ Some (spot_at (i + a) b)) × (slice_get (pairs xs) k ≡ Some (pair x y))
  spot_exists [] i a b x y e f h = absurd (cc)
  spot_exists (v ∷ xs) i zero b x y e f h =
      let s : v ≡ x = some_same v x e in
      let p = place_exists (test v) ys 0 b y f (ap (λ v. test v y) s ∙ h) in
      let n : i ≡ i + 0 = omega arith in
      let q : 0 + b ≡ b = omega arith in (
        p.0,
        get_left (map (spot_at i) (places_of (test v) ys 0)) (spots xs (suc i)) p.0 (spot_at (i + 0) b)
            (get_map (spot_at i) (places_of (test v) ys 0) p.0 (0 + b) p.1 ∙ (ap (λ u. Some (spot_at i u)) q ∙ ap (λ u. Some (spot_at u b)) n)),
        get_left (map (pair v) (filter (test v) ys)) (pairs xs) p.0 (pair x y)
            (get_map (pair v) (filter (test v) ys) p.0 y p.2 ∙ ap (λ v. Some (pair v y)) s),
      )
  spot_exists (v ∷ xs) i (suc a) b x y e f h =
      let r = spot_exists xs (suc i) a b x y e f h in
      let n : suc i + a ≡ i + suc a = omega arith in (
        length (map (spot_at i) (places_of (test v) ys 0)) + r.0,
        get_right (map (spot_at i) (places_of (test v) ys 0)) (spots xs (suc i)) (length (map (spot_at i) (places_of (test v) ys 0)) + r.0) r.0 (spot_at (i + suc a) b)
            refl (r.1 ∙ ap (λ u. Some (spot_at u b)) n),
        get_right (map (pair v) (filter (test v) ys)) (pairs xs) (length (map (spot_at i) (places_of (test v) ys 0)) + r.0) r.0 (pair x y)
            (omega (arith, same_length v ys 0 i)) r.2,
      )

  spot_from : (xs : List X) (i k : ℕ) (s : Spot) → slice_get (spots xs i) k ≡ Some s → i ≤ s.one
  spot_from [] i k s e = absurd (cc)
  spot_from (x ∷ xs) i k s e =
      elim (get_append_cases (map (spot_at i) (places_of (test x) ys 0)) (spots xs (suc i)) k s e) [
        | inl h ↦ let m = get_map_cases (spot_at i) (places_of (test x) ys 0) k s h.1 in omega (arith, ap (λ (s : Spot). s.one) m.2)
        | inr h ↦ omega (arith, spot_from xs (suc i) h.0 s h.2)
      ]

  pub spot_once : (xs : List X) (i k l : ℕ) (s : Spot) → slice_get (spots xs i) k ≡ Some s → slice_get (spots xs i) l ≡ Some s → k ≡ l
  spot_once [] i k l s e f = absurd (cc)
  spot_once (x ∷ xs) i k l s e f =
      elim (get_append_cases (map (spot_at i) (places_of (test x) ys 0)) (spots xs (suc i)) k s e) [
        | inl h ↦ let m = get_map_cases (spot_at i) (places_of (test x) ys 0) k s h.1 in
            elim (get_append_cases (map (spot_at i) (places_of (test x) ys 0)) (spots xs (suc i)) l s f) [
              | inl g ↦ let n = get_map_cases (spot_at i) (places_of (test x) ys 0) l s g.1 in
                  let same : n.0 ≡ m.0 = ap (λ (s : Spot). s.two) n.2 ∙ sym (ap (λ (s : Spot). s.two) m.2) in
                  place_once (test x) ys 0 k l m.0 m.1 (n.1 ∙ ap Some same)
              | inr g ↦ absurd (omega (arith, ap (λ (s : Spot). s.one) m.2, spot_from xs (suc i) g.0 s g.2))
            ]
        | inr h ↦
            elim (get_append_cases (map (spot_at i) (places_of (test x) ys 0)) (spots xs (suc i)) l s f) [
              | inl g ↦ let n = get_map_cases (spot_at i) (places_of (test x) ys 0) l s g.1 in
                  absurd (omega (arith, ap (λ (s : Spot). s.one) n.2, spot_from xs (suc i) h.0 s h.2))
              | inr g ↦ omega (arith, h.1, g.1, spot_once xs (suc i) h.0 g.0 s h.2 g.2)
            ]
      ]

-- the place of a spot
abbrev pub find_spot : List Spot → ℕ → ℕ → Option ℕ
find_spot [] a b = None
find_spot (s ∷ ss) a b = if nat_eq s.one a && nat_eq s.two b then Some 0 else option_map suc (find_spot ss a b)

pub find_is : (ss : List Spot) (a b h : ℕ) → find_spot ss a b ≡ Some h → slice_get ss h ≡ Some (record { one = a; two = b })
find_is [] a b h e = absurd (cc)
find_is (s ∷ ss) a b h e = go (nat_eq s.one a && nat_eq s.two b) refl h (find_is ss a b) e
  where
    go : (c : Bool) → (nat_eq s.one a && nat_eq s.two b) ≡ c → (h : ℕ) → ((h : ℕ) → find_spot ss a b ≡ Some h → slice_get ss h ≡ Some (record { one = a; two = b })) →
        (if c then Some 0 else option_map suc (find_spot ss a b)) ≡ Some h → slice_get (s ∷ ss) h ≡ Some (record { one = a; two = b })
    go true at h rest e =
        let z : 0 ≡ h = some_same 0 h e in
        let p : s.one ≡ a = eqb-true s.one a (left_true (nat_eq s.one a) (nat_eq s.two b) at) in
        let q : s.two ≡ b = eqb-true s.two b (right_true (nat_eq s.one a) (nat_eq s.two b) at) in
        rw (← z) (λ i. Some (record { one = p i; two = q i }))
    go false at h rest e = later (find_spot ss a b) refl e
      where
        later : (o : Option ℕ) → find_spot ss a b ≡ o → option_map suc o ≡ Some h → slice_get (s ∷ ss) h ≡ Some (record { one = a; two = b })
        later None f e = absurd (cc)
        later (Some g) f e = rw (← some_same (suc g) h e) (rest g f)

pub find_there : (ss : List Spot) (k a b : ℕ) → slice_get ss k ≡ Some (record { one = a; two = b }) → (h : ℕ) × (find_spot ss a b ≡ Some h)
find_there [] k a b e = absurd (cc)
find_there (s ∷ ss) zero a b e =
    let same : s ≡ record { one = a; two = b } = some_same s (record { one = a; two = b }) e in (
      0,
      ap (λ c. if c then Some 0 else option_map suc (find_spot ss a b))
          (both_true (nat_eq s.one a) (nat_eq s.two b) (eq-eqb s.one a (ap (λ (s : Spot). s.one) same)) (eq-eqb s.two b (ap (λ (s : Spot). s.two) same))),
    )
find_there (s ∷ ss) (suc k) a b e = go (nat_eq s.one a && nat_eq s.two b) (find_there ss k a b e)
  where
    go : (c : Bool) → (h : ℕ) × (find_spot ss a b ≡ Some h) → (h : ℕ) × ((if c then Some 0 else option_map suc (find_spot ss a b)) ≡ Some h)
    go true r = (0, refl)
    go false r = (suc r.0, ap (option_map suc) r.1)
