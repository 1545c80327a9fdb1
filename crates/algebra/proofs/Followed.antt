-- How the search of pairs grows.
use Rattle.std.proofs.Common.{◌≡◌, ℕ, suc, ◌+◌, ◌*◌, ◌<◌, ◌≤◌, ◌⊎◌, Bool, true, false, List, [], ◌∷◌, ◌++◌, Some, length, cond, not, get_or, take, drop, inl, inr, refl, sym, ap, subst, arith, ◌∙◌, append_assoc, length-append}
use Rattle.std.specs.Prelude.{slice_get, map, if◌then◌else◌}
use Rattle.std.specs.List.{filter}
use Rattle.std.proofs.lemmas.Grind.{flat_map-append}
use Rattle.std.proofs.lemmas.List.{append-nil, map-append, take-append-drop}
use Rattle.std.proofs.lemmas.List.Elements.{filter-append}
use Rattle.std.specs.FinSet as set
use Rattle.std.specs.List.{AllByRecursion, IsDistinct, list_any, position_or_len}
use Rattle.std.specs.Prelude.{IfErr, IsErrAnd, ◌||◌}
use Rattle.std.specs.declared.result.Result.{Result}
use Rattle.std.specs.declared.result.Result.TheVariants.{Ok, Err}
use Rattle.std.proofs.lemmas.Bool.{cases_lt, true≢false}
use Rattle.std.proofs.lemmas.Nat.{mul-add-lt}
use Rattle.std.proofs.lemmas.Option.{slice_get-get_or}
use Rattle.span_core.specs.Lists.{Has, AreDistinct}
use Rattle.span_core.proofs.HasLaws.{Has-append_left, Has-append_right, Has-append_cases, Has-slice_get}
use Rattle.std.proofs.lemmas.List.{take_more}
use Rattle.marked_automaton.specs.Automaton.{ByteClass}
use Rattle.marked_automaton.proofs.Listed.{some_same}
use Rattle.marked_automaton.specs.declared.way.Way.{Way}
use Rattle.marked_automaton.specs.declared.TheConstants.{MOST_WAYS}
use Rattle.marked_automaton.specs.declared.fault.SizeFault.{SizeFault}
use Rattle.marked_automaton.specs.declared.fault.SizeFault.TheVariants.{Ways}
use Rattle.marked_automaton.proofs.Sizes.{no_more}
use Rattle.algebra.specs.declared.pairs.Pair.{Pair}
use Rattle.algebra.specs.Pairs.{pair_of, pairs, PairWay, IsWayBetween, Matched, ArePairsWithin, IsFollowed, IsRefusalOf}
use Rattle.algebra.specs.Operations.{has_some, is_some_list}
use Rattle.algebra.proofs.Bytes.{some_has}
use Rattle.std.specs.Ordering.{nat_cmp, eq_by_cmp}
use Rattle.std.proofs.lemmas.Cmp.{nat_cmp_total}
use Rattle.span_core.proofs.ListLaws.{get_left}
use Rattle.marked_automaton.proofs.Segments.{filter_yes, filter_no}
use Rattle.algebra.proofs.Joins.{pair_same}
use Rattle.algebra.proofs.Places.{match_len, place_in, place_there}

module _ {X Y : Type 0} (P Q : X → Y → Type 0) where
  pub matched_more : ((x : X) (y : Y) → P x y → Q x y) → (xs : List X) (ys : List Y) → Matched P xs ys → Matched Q xs ys
  matched_more h [] [] m = tt
  matched_more h [] (y ∷ ys) m = absurd m
  matched_more h (x ∷ xs) [] m = absurd m
  matched_more h (x ∷ xs) (y ∷ ys) m = (h x y m.0, matched_more h xs ys m.1)

module _ {X Y : Type 0} (P : X → Y → Type 0) where
  pub matched_append : (xs us : List X) (ys vs : List Y) → Matched P xs ys → Matched P us vs → Matched P (xs ++ us) (ys ++ vs)
  matched_append [] us [] vs m n = n
  matched_append [] us (y ∷ ys) vs m n = absurd m
  matched_append (x ∷ xs) us [] vs m n = absurd m
  matched_append (x ∷ xs) us (y ∷ ys) vs m n = (m.0, matched_append xs us ys vs m.1 n)

-- a way between pairs is one where more are found
pub between_more : (keys found : List Pair) (r : PairWay) (y : Way) → IsWayBetween keys r y → IsWayBetween (keys ++ found) r y
between_more keys found r y b = record {
  from = get_left keys found y.from r.from b.from;
  marks = b.marks;
  bytes = b.bytes;
  to = get_left keys found y.to r.to b.to;
}

pub followed_none : (keys : List Pair) (ways : List Way) → IsFollowed [] keys ways keys ways
followed_none keys ways = record {
  found = [];
  keys = sym (append-nil keys);
  few = λ h. h;
  within = λ n1 n2 h l. h;
  new = [];
  ways = sym (append-nil ways);
  between = tt;
  led = λ p l m. absurd (omega (arith, l, m));
}

pub followed_then : (made1 made2 : List PairWay) (k1 k2 k3 : List Pair) (ways1 ways2 ways3 : List Way) →
    IsFollowed made1 k1 ways1 k2 ways2 → IsFollowed made2 k2 ways2 k3 ways3 → IsFollowed (made1 ++ made2) k1 ways1 k3 ways3
followed_then made1 made2 k1 k2 k3 ways1 ways2 ways3 a b = record {
  found = a.found ++ b.found;
  keys = b.keys ∙ (ap (λ k. k ++ b.found) a.keys ∙ append_assoc k1 a.found b.found);
  few = λ h. b.few (a.few h);
  within = λ n1 n2 h l. b.within n1 n2 (a.within n1 n2 h (λ r x. l r (Has-append_left made1 made2 r x))) (λ r x. l r (Has-append_right made1 made2 r x));
  new = a.new ++ b.new;
  ways = b.ways ∙ (ap (λ w. w ++ b.new) a.ways ∙ append_assoc ways1 a.new b.new);
  between = matched_append (IsWayBetween k3) made1 made2 a.new b.new
      (matched_more (IsWayBetween k2) (IsWayBetween k3) (λ r y m. rw b.keys (between_more k2 b.found r y m)) made1 a.new a.between)
      b.between;
  led = λ p l m. elim (cases_lt p (length k2)) [
    | inl less ↦ let y = a.led p l less in (y.0, Has-append_left a.new b.new y.0 y.1, y.2, y.3)
    | inr le ↦ let y = b.led p le m in (y.0, Has-append_right a.new b.new y.0 y.1, y.2, y.3)
  ];
}

-- the ways of one more element of the second side, and of one more of the first
module _ {X Y R : Type 0} (test : X → Y → Bool) (make : X → Y → R) where
  pub row_more : (x : X) (ys : List Y) (i : ℕ) (y : Y) → i < length ys → y ≡ get_or ys i y →
      map (make x) (filter (test x) (take (i + 1) ys)) ≡ map (make x) (filter (test x) (take i ys)) ++ map (make x) (filter (test x) (y ∷ []))
  row_more x ys i y l is =
      ap (λ zs. map (make x) (filter (test x) zs)) (take_more ys i y l ∙ ap (λ z. take i ys ++ z ∷ []) (sym is))
      ∙ (ap (map (make x)) (filter-append (test x) (take i ys) (y ∷ []))
      ∙ map-append (make x) (filter (test x) (take i ys)) (filter (test x) (y ∷ [])))

  pub pairs_more : (xs : List X) (ys : List Y) (i : ℕ) (x : X) → i < length xs → x ≡ get_or xs i x →
      pairs test make ys (take (i + 1) xs) ≡ pairs test make ys (take i xs) ++ map (make x) (filter (test x) ys)
  pairs_more xs ys i x l is =
      ap (pairs test make ys) (take_more xs i x l ∙ ap (λ z. take i xs ++ z ∷ []) (sym is))
      ∙ (flat_map-append (λ (x : X). map (make x) (filter (test x) ys)) (take i xs) (x ∷ [])
      ∙ ap (λ zs. pairs test make ys (take i xs) ++ zs) (append-nil (map (make x) (filter (test x) ys))))

  -- the ways of the elements before, of one, and of those behind it
  pub row_split : (x : X) (ys : List Y) (i : ℕ) (y : Y) → i < length ys → y ≡ get_or ys i y →
      map (make x) (filter (test x) ys)
      ≡ map (make x) (filter (test x) (take i ys)) ++ (map (make x) (filter (test x) (y ∷ [])) ++ map (make x) (filter (test x) (drop (i + 1) ys)))
  row_split x ys i y l is =
      ap (λ zs. map (make x) (filter (test x) zs)) (sym (take-append-drop (i + 1) ys))
      ∙ (ap (map (make x)) (filter-append (test x) (take (i + 1) ys) (drop (i + 1) ys))
      ∙ (map-append (make x) (filter (test x) (take (i + 1) ys)) (filter (test x) (drop (i + 1) ys))
      ∙ (ap (λ zs. zs ++ map (make x) (filter (test x) (drop (i + 1) ys))) (row_more x ys i y l is)
      ∙ append_assoc (map (make x) (filter (test x) (take i ys))) (map (make x) (filter (test x) (y ∷ []))) (map (make x) (filter (test x) (drop (i + 1) ys))))))

  pub pairs_split : (xs : List X) (ys : List Y) (i : ℕ) (x : X) → i < length xs → x ≡ get_or xs i x →
      pairs test make ys xs ≡ pairs test make ys (take i xs) ++ (map (make x) (filter (test x) ys) ++ pairs test make ys (drop (i + 1) xs))
  pairs_split xs ys i x l is =
      ap (pairs test make ys) (sym (take-append-drop (i + 1) xs))
      ∙ (flat_map-append (λ (x : X). map (make x) (filter (test x) ys)) (take (i + 1) xs) (drop (i + 1) xs)
      ∙ (ap (λ zs. zs ++ pairs test make ys (drop (i + 1) xs)) (pairs_more xs ys i x l is)
      ∙ append_assoc (pairs test make ys (take i xs)) (map (make x) (filter (test x) ys)) (pairs test make ys (drop (i + 1) xs))))

pub refusal_then : (made1 made2 rest : List PairWay) (k1 k2 : List Pair) (ways1 ways2 : List Way) (e : SizeFault) →
    IsFollowed made1 k1 ways1 k2 ways2 → IsRefusalOf made2 k2 ways2 e → IsRefusalOf (made1 ++ (made2 ++ rest)) k1 ways1 e
refusal_then made1 made2 rest k1 k2 ways1 ways2 e a b = λ n1 n2 w h l le.
    let len : length made1 ≡ length a.new = match_len (IsWayBetween k2) made1 a.new a.between in
    let l1 : length (made1 ++ (made2 ++ rest)) ≡ length made1 + length (made2 ++ rest) = length-append made1 (made2 ++ rest) in
    let l2 : length (made2 ++ rest) ≡ length made2 + length rest = length-append made2 rest in
    let l3 : length ways2 ≡ length ways1 + length a.new = ap length a.ways ∙ length-append ways1 a.new in
    b n1 n2 w (a.within n1 n2 h (λ r x. l r (Has-append_left made1 (made2 ++ rest) r x)))
    (λ r x. l r (Has-append_right made1 (made2 ++ rest) r (Has-append_left made2 rest r x))) (omega (arith, len, l1, l2, l3, le))

-- too many ways are made
pub refusal_of_ways : (made1 rest : List PairWay) (k1 k2 : List Pair) (ways1 ways2 : List Way) (count : ℕ) →
    IsFollowed made1 k1 ways1 k2 ways2 → MOST_WAYS < count → count ≡ length ways2 → IsRefusalOf (made1 ++ rest) k1 ways1 (Ways count)
refusal_of_ways made1 rest k1 k2 ways1 ways2 count a many is = λ n1 n2 w h l le.
    let len : length made1 ≡ length a.new = match_len (IsWayBetween k2) made1 a.new a.between in
    let l1 : length (made1 ++ rest) ≡ length made1 + length rest = length-append made1 rest in
    let l3 : length ways2 ≡ length ways1 + length a.new = ap length a.ways ∙ length-append ways1 a.new in
    (many, omega (arith, len, l1, l3, le, is))

-- of places in keys the number of the pair
abbrev Numbered : ℕ → List Pair → ℕ → ℕ → Type 0
Numbered n2 keys i v = (k : Pair) × (slice_get keys i ≡ Some k) × (k.left * n2 + k.right ≡ v) × (k.right < n2)

-- pairs that differ, of so many states of each side, are no more than the product
pub pairs_few : (n1 n2 : ℕ) (keys : List Pair) → AreDistinct keys → ArePairsWithin n1 n2 keys → length keys ≤ n1 * n2
pairs_few n1 n2 keys apart within = no_more (n1 * n2) (length keys) (Numbered n2 keys)
    (λ i l.
    let d : Pair = pair_of 0 0 in
    let k = get_or keys i d in
    let at = slice_get-get_or keys i d l in
    let w = within k (Has-slice_get keys i k at) in
    let l : k.left * n2 + k.right < n1 * n2 = omega (arith, mul-add-lt k.left n2 k.right n1 w.0 w.1) in
    (k.left * n2 + k.right, l, (k, at, refl, w.1)))
    (λ i j v p q.
    let s = pair_same n2 p.0.left p.0.right q.0.left q.0.right p.3 q.3 (p.2 ∙ sym q.2) in
    let same : p.0 ≡ q.0 = (λ i. record { left = s.0 i; right = s.1 i }) in
    some_same i j (sym (place_there keys p.0 i apart p.1) ∙ (ap (place_in keys) same ∙ place_there keys q.0 j apart q.1)))

-- keys of which no two are equal by a test that each passes with itself
module _ (same : Pair → Pair → Bool) (itself : (k : Pair) → same k k ≡ true) where
  apart_from : (k : Pair) (keys : List Pair) → AllByRecursion (λ y. same k y ≡ false) keys → Has keys k → ⊥
  apart_from k [] a h = absurd h
  apart_from k (x ∷ keys) a (inl e) = true≢false (sym (itself k) ∙ (ap (same k) (sym e) ∙ a.0))
  apart_from k (x ∷ keys) a (inr h) = apart_from k keys a.1 h

  pub keys_apart : (keys : List Pair) → IsDistinct same keys → AreDistinct keys
  unfolding IsDistinct
  keys_apart [] d = tt
  keys_apart (k ∷ keys) d = ((λ h. apart_from k keys d.0 h), keys_apart keys d.1)

-- keys with one put in
module _ (there : Bool) (keys : List Pair) (k : Pair) where
  abbrev pub with_key : List Pair
  with_key = if there then keys else keys ++ k ∷ []

  pub with_key_within : (n1 n2 : ℕ) → ArePairsWithin n1 n2 keys → k.left < n1 → k.right < n2 → ArePairsWithin n1 n2 with_key
  with_key_within n1 n2 h l r = by there
    where
      by : (b : Bool) → ArePairsWithin n1 n2 (if b then keys else keys ++ k ∷ [])
      by true = h
      by false = λ x has. elim (Has-append_cases keys (k ∷ []) x has) [
        | inl a ↦ h x a
        | inr b ↦ elim b as (λ _. (x.left < n1) × (x.right < n2)) [
          | inl e ↦ rw (← e) (l, r)
          | inr n ↦ absurd n
        ]
      ]

pub with_key_only : (there : Bool) (keys : List Pair) (k x : Pair) → Has (with_key there keys k) x → Has keys x ⊎ (x ≡ k)
with_key_only true keys k x h = inl h
with_key_only false keys k x h = elim (Has-append_cases keys (k ∷ []) x h) [
  | inl a ↦ inl a
  | inr b ↦ elim b as (λ _. Has keys x ⊎ (x ≡ k)) [ inl e ↦ inr (sym e) | inr n ↦ absurd n ]
]

-- the place of a key that is put in, where the test is that for the key
module _ (is : Pair → Bool) where
  none_before : (keys : List Pair) → list_any is keys ≡ false → position_or_len is keys ≡ length keys
  none_before [] e = refl
  none_before (x ∷ keys) e = go (is x) refl e (none_before keys)
    where
      go : (b : Bool) → is x ≡ b → (b || list_any is keys) ≡ false → (list_any is keys ≡ false → position_or_len is keys ≡ length keys) →
          position_or_len is (x ∷ keys) ≡ suc (length keys)
      go true at e rest = absurd (true≢false e)
      go false at e rest =
          let step : position_or_len is (x ∷ keys) ≡ 1 + position_or_len is keys = ap (λ b. cond (not b) (1 + position_or_len is keys) 0) at in
          omega (arith, step, rest e)

  pub with_key_last : (keys : List Pair) (k : Pair) (p : ℕ) → length keys ≤ p → p < length (with_key (list_any is keys) keys k) → position_or_len is keys ≡ p
  with_key_last keys k p l m = go (list_any is keys) refl m
    where
      go : (b : Bool) → list_any is keys ≡ b → p < length (with_key b keys k) → position_or_len is keys ≡ p
      go true e m = absurd (omega (arith, l, m))
      go false e m = none_before keys e ∙ omega (arith, l, m, length-append keys (k ∷ []))

-- what a refusal says of the error that is handed on
pub handed_on : {T F : Type 0} (P : F → Type 0) (r : Result T F) (e : F) → IsErrAnd r (λ g. g ≡ e) → P e → IfErr r P
handed_on P (Ok x) e h p = absurd h
handed_on P (Err g) e h p = subst P (sym h) p

-- two that do not go together
module _ {X Y R : Type 0} (test : X → Y → Bool) (make : X → Y → R) (x : X) (y : Y) where
  pub row_none : test x y ≡ false → map (make x) (filter (test x) (y ∷ [])) ≡ []
  row_none e = ap (map (make x)) (filter_no (test x) y [] e)

  pub row_one : test x y ≡ true → map (make x) (filter (test x) (y ∷ [])) ≡ make x y ∷ []
  row_one e = ap (map (make x)) (filter_yes (test x) y [] e)

pub no_bytes : (bytes : ByteClass) → bytes ≡ set.empty → has_some bytes ≡ false
no_bytes bytes e = go (has_some bytes) refl
  where
    go : (b : Bool) → has_some bytes ≡ b → has_some bytes ≡ false
    go false at = at
    go true at =
        let c = some_has bytes at in
        absurd (true≢false (sym c.1 ∙ (ap (λ s. set.contains s c.0) e ∙ set.contains-empty nat_cmp c.0)))

pub some_bytes : (bytes : ByteClass) → (bytes ≡ set.empty → ⊥) → has_some bytes ≡ true
some_bytes bytes n = go (set.items bytes) refl
  where
    go : (xs : List ℕ) → set.items bytes ≡ xs → is_some_list (set.items bytes) ≡ true
    go [] e =
        absurd (n (set.same_set nat_cmp_total set.nat_cmp-IsAntisymmetric bytes set.empty (λ q. set.contains-items bytes q ∙
        (ap (list_any (eq_by_cmp nat_cmp q)) e ∙ sym (set.contains-empty nat_cmp q)))))
    go (x ∷ xs) e = ap is_some_list e
