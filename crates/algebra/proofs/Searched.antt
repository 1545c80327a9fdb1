-- The search of pairs as a whole.
use Rattle.std.proofs.Common.{◌≡◌, ℕ, zero, suc, ◌+◌, ◌*◌, ◌<◌, ◌≤◌, ◌⊎◌, List, [], ◌∷◌, ◌++◌, length, map, get_or, take, nat_eq, inl, inr, refl, sym, ap, arith, ◌∙◌, append_assoc}
use Rattle.std.specs.Prelude.{Option}
use Rattle.std.specs.List.{filter, flat_map}
use Rattle.std.proofs.lemmas.Grind.{flat_map-append}
use Rattle.std.proofs.lemmas.List.{append-nil, length-map, take_more, take-append-le}
use Rattle.std.proofs.lemmas.List.Sorted.{length_permutation}
use Rattle.std.proofs.lemmas.Bool.{eqb-true}
use Rattle.span_core.specs.Lists.{Has, AreDistinct}
use Rattle.span_core.proofs.HasLaws.{Has-append_left, Has-append_right, Has-take, Has-take_more_cases}
use Rattle.span_core.proofs.ListLaws.{filter_no_more}
use Rattle.marked_automaton.specs.declared.way.Way.{Way}
use Rattle.marked_automaton.specs.declared.TheConstants.{MOST_STATES}
use Rattle.marked_automaton.specs.declared.fault.SizeFault.{SizeFault}
use Rattle.marked_automaton.specs.Faults.{IsSizeFaultWithin}
use Rattle.marked_automaton.proofs.Permuted.{permutation_placed, has_placed}
use Rattle.algebra.specs.declared.halves.HalfWay.{HalfWay}
use Rattle.marked_automaton.specs.Automaton.{Automaton}
use Rattle.algebra.specs.declared.halves.Operand.{Operand}
use Rattle.algebra.specs.declared.pairs.Pair.{Pair}
use Rattle.algebra.specs.Renaming.{half_way}
use Rattle.algebra.specs.Sides.{IsProductRefusal, graph_of, half_ways_of}
use Rattle.algebra.specs.Pairs.{pair_of, pairs, those_at, PairWay, AreRowsOf, AreStarted, ArePairsWithin, IsRefusalOf, LeadWithin, half_from, way_from, way_pair, ways_at, ways_meet}
use Rattle.algebra.proofs.Gathered.{one_of, gathered, those_map}
use Rattle.marked_automaton.proofs.Passing.{filter_cases}

pub rows_more : {R : Type 0} (f : Pair → List R) (keys found : List Pair) (done : ℕ) (k : Pair) → done < length keys → k ≡ get_or keys done k →
    flat_map f (take (done + 1) (keys ++ found)) ≡ flat_map f (take done keys) ++ f k
rows_more f keys found done k l is =
    ap (flat_map f) (take-append-le (done + 1) keys found (omega (arith, l)) ∙ (take_more keys done k l ∙ ap (λ z. take done keys ++ z ∷ []) (sym is)))
    ∙ (flat_map-append f (take done keys) (k ∷ []) ∙ ap (λ zs. flat_map f (take done keys) ++ zs) (append-nil (f k)))

pub read_pair : (xs ys : List Pair) (i : ℕ) (d e : Pair) → xs ≡ ys → i < length ys → get_or xs i d ≡ get_or ys i e
read_pair xs ys i d e same l = ap (λ zs. get_or zs i d) same ∙ any ys i l
  where
    any : (ys : List Pair) (i : ℕ) → i < length ys → get_or ys i d ≡ get_or ys i e
    any [] i l = absurd (omega arith)
    any (y ∷ ys) zero l = refl
    any (y ∷ ys) (suc i) l = any ys i (omega arith)

pub row_has : {X : Type 0} (at : X → ℕ) (p : ℕ) (xs : List X) (x : X) → Has (those_at at p xs) x → Has xs x × (at x ≡ p)
row_has at p xs x h = let r = filter_cases (λ x. nat_eq (at x) p) xs x h in (r.0, eqb-true (at x) p r.1)

pub apart_take : (n : ℕ) (keys : List Pair) → AreDistinct keys → AreDistinct (take n keys)
apart_take zero keys d = tt
apart_take (suc n) [] d = tt
apart_take (suc n) (k ∷ keys) d = ((λ h. d.0 (Has-take keys n k h)), apart_take n keys d.1)

pub gathered_ways : (keys : List Pair) (all1 all2 : List HalfWay) (r : PairWay) → AreDistinct keys → Has (flat_map (ways_at all1 all2) keys) r → Has (pairs ways_meet way_pair all2 all1) r
gathered_ways keys all1 all2 r apart h =
    let all = pairs ways_meet way_pair all2 all1 in
    let some = filter (λ (r : PairWay). one_of keys r.from) all in
    let made = flat_map (ways_at all1 all2) keys in
    let p = permutation_placed some made (gathered half_from half_from ways_meet way_pair (λ (r : PairWay). r.from) (λ x y. refl) keys all2 all1 apart) in
    (filter_cases (λ (r : PairWay). one_of keys r.from) all r (has_placed some made p.0 p.1 r h)).0

pub refusal_of_all : (xs ys : List HalfWay) (keys k0 : List Pair) (w0 : List Way) (e : SizeFault) → AreDistinct keys →
    IsRefusalOf (flat_map (ways_at xs ys) keys) k0 w0 e → IsRefusalOf (pairs ways_meet way_pair ys xs) k0 w0 e
refusal_of_all xs ys keys k0 w0 e apart h = λ n1 n2 w within l le.
    let all = pairs ways_meet way_pair ys xs in
    let some = filter (λ (r : PairWay). one_of keys r.from) all in
    let made = flat_map (ways_at xs ys) keys in
    let perm = gathered half_from half_from ways_meet way_pair (λ (r : PairWay). r.from) (λ x y. refl) keys ys xs apart in
    let len : length made ≡ length some = length_permutation some made perm in
    let few : length some ≤ length all = filter_no_more (λ (r : PairWay). one_of keys r.from) all in
    h n1 n2 w within (λ r x. l r (gathered_ways keys xs ys r apart x)) (omega (arith, len, few, le))

-- nothing is made where a side has nothing
pub pairs_none : (xs ys : List HalfWay) → ((length xs ≡ 0) ⊎ (length ys ≡ 0)) → pairs ways_meet way_pair ys xs ≡ []
pairs_none [] ys h = refl
pairs_none (x ∷ xs) [] h = pairs_none xs [] (inr refl)
pairs_none (x ∷ xs) (y ∷ ys) (inl e) = absurd (omega (arith, e))
pairs_none (x ∷ xs) (y ∷ ys) (inr e) = absurd (omega (arith, e))

-- the rows of a pair
pub row_of_side : (side : Operand) (p : ℕ) (ws : List Way) → ws ≡ those_at way_from p (graph_of side).ways →
    map (half_way side.own.items side.shared.items) ws ≡ those_at half_from p (half_ways_of side)
row_of_side side p ws e =
    ap (map (half_way side.own.items side.shared.items)) e ∙ those_map half_from (half_way side.own.items side.shared.items) p (graph_of side).ways

pub row_length : (side : Operand) (p : ℕ) (ws : List Way) → ws ≡ those_at way_from p (graph_of side).ways → length ws ≡ length (those_at half_from p (half_ways_of side))
row_length side p ws e =
    sym (length-map ws (half_way side.own.items side.shared.items)) ∙ ap length (row_of_side side p ws e)

-- what is made of a row is no more than all ways
pub row_few : (own shared : List (Option ℕ)) (p most : ℕ) (all ws : List Way) (hs : List HalfWay) → ws ≡ those_at way_from p all → hs ≡ map (half_way own shared) ws →
    length all ≤ most → length hs ≤ most
row_few own shared p most all ws hs row made few =
    omega (arith, ap length made, length-map ws (half_way own shared), ap length row, filter_no_more (λ y. nat_eq (way_from y) p) all, few)

pub rows_of : (xs ys lefts rights : List HalfWay) (k : Pair) → lefts ≡ those_at half_from k.left xs → rights ≡ those_at half_from k.right ys →
    AreRowsOf xs ys k lefts rights
rows_of xs ys lefts rights k l r = record {
  left = λ x h. row_has half_from k.left xs x (rw (← l) h);
  right = λ y h. row_has half_from k.right ys y (rw (← r) h);
  made = λ i. pairs ways_meet way_pair (r i) (l i);
}

pub no_rows_of : (xs ys : List HalfWay) (k : Pair) → ((length (those_at half_from k.left xs) ≡ 0) ⊎ (length (those_at half_from k.right ys) ≡ 0)) → AreRowsOf xs ys k [] []
no_rows_of xs ys k h = record {
  left = λ x n. absurd n;
  right = λ y n. absurd n;
  made = sym (pairs_none (those_at half_from k.left xs) (those_at half_from k.right ys) h);
}

-- a state of the second side more
pub started_more : (left : ℕ) (rights : List ℕ) (i right : ℕ) (k1 k2 k3 : List Pair) → i < length rights → get_or rights i 0 ≡ right →
    AreStarted (left ∷ []) (take i rights) k1 k2 → (found : List Pair) → k3 ≡ k2 ++ found → length k3 ≤ MOST_STATES →
    Has k3 (pair_of left right) → ((k : Pair) → Has k3 k → Has k2 k ⊎ (k ≡ pair_of left right)) → AreStarted (left ∷ []) (take (i + 1) rights) k1 k3
started_more left rights i right k1 k2 k3 l is a found keys few here only = record {
  found = a.found ++ found;
  keys = keys ∙ (ap (λ k. k ++ found) a.keys ∙ append_assoc k1 a.found found);
  few = λ h. few;
  all = λ p q h m. elim (Has-take_more_cases rights i 0 q l m) [
    | inl x ↦ rw keys (Has-append_left k2 found (pair_of p q) (a.all p q h x))
    | inr e ↦ elim h as (λ _. Has k3 (pair_of p q)) [
      | inl at ↦ rw (← sym is ∙ e) (rw (← at) here)
      | inr n ↦ absurd n
    ]
  ];
  only = λ k h. elim (only k h) [
    | inl x ↦ elim (a.only k x) [
      | inl y ↦ inl y
      | inr y ↦ inr (y.0, rw (take_more rights i 0 l) (Has-append_left (take i rights) (get_or rights i 0 ∷ []) k.right y.1))
    ]
    | inr e ↦ inr (
      inl (ap (λ (k : Pair). k.left) (sym e)),
      rw (take_more rights i 0 l)
          (Has-append_right (take i rights) (get_or rights i 0 ∷ []) k.right (inl (is ∙ ap (λ (k : Pair). k.right) (sym e)))),
    )
  ];
}

-- a state of the first side more
pub started_then : (lefts rights : List ℕ) (i left : ℕ) (k1 k2 k3 : List Pair) → i < length lefts → get_or lefts i 0 ≡ left →
    AreStarted (take i lefts) rights k1 k2 → AreStarted (left ∷ []) rights k2 k3 → AreStarted (take (i + 1) lefts) rights k1 k3
started_then lefts rights i left k1 k2 k3 l is a b = record {
  found = a.found ++ b.found;
  keys = b.keys ∙ (ap (λ k. k ++ b.found) a.keys ∙ append_assoc k1 a.found b.found);
  few = λ h. b.few (a.few h);
  all = λ p q h m. elim (Has-take_more_cases lefts i 0 p l h) [
    | inl x ↦ rw b.keys (Has-append_left k2 b.found (pair_of p q) (a.all p q x m))
    | inr e ↦ b.all p q (inl (sym is ∙ e)) m
  ];
  only = λ k h. elim (b.only k h) [
    | inl x ↦ elim (a.only k x) [
      | inl y ↦ inl y
      | inr y ↦ inr (rw (take_more lefts i 0 l) (Has-append_left (take i lefts) (get_or lefts i 0 ∷ []) k.left y.0), y.1)
    ]
    | inr y ↦ inr (
      rw (take_more lefts i 0 l)
          (Has-append_right (take i lefts) (get_or lefts i 0 ∷ []) k.left (elim y.0 as (λ _. Has (get_or lefts i 0 ∷ []) k.left) [ inl e ↦ inl (is ∙ e) | inr n ↦ absurd n ])),
      y.1,
    )
  ];
}

-- what is found of starts is within the sides
pub started_within : (lefts rights : List ℕ) (k1 k2 : List Pair) (n1 n2 : ℕ) → AreStarted lefts rights k1 k2 → ArePairsWithin n1 n2 k1 →
    ((p : ℕ) → Has lefts p → p < n1) → ((q : ℕ) → Has rights q → q < n2) → ArePairsWithin n1 n2 k2
started_within lefts rights k1 k2 n1 n2 a within l r = λ k h.
    elim (a.only k h) [ inl x ↦ within k x | inr y ↦ (l k.left y.0, r k.right y.1) ]

-- a refusal of a search, be it for want of effort, is one by the product of the states
pub refusal_within : (A B : Automaton) (xs ys : List HalfWay) (keys : List Pair) (ways : List Way) (e : SizeFault) →
    IsRefusalOf (pairs ways_meet way_pair ys xs) keys ways e ⊎ IsProductRefusal A B e →
    (w : ℕ) → ArePairsWithin A.states B.states keys → LeadWithin A.states B.states (pairs ways_meet way_pair ys xs) → length ways + length (pairs ways_meet way_pair ys xs) ≤ w →
    IsSizeFaultWithin (A.states * B.states) w e
refusal_within A B xs ys keys ways e (inl h) w within lead few = h A.states B.states w within lead few
refusal_within A B xs ys keys ways e (inr h) w within lead few = rw h.1 (h.0, omega arith)
