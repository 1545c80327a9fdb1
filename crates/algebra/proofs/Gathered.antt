-- What pairs of elements make, gathered by the numbers of the two.
use Rattle.std.proofs.Common.{◌≡◌, ℕ, Bool, true, false, List, [], ◌∷◌, ◌++◌, inl, inr, refl, sym, ap, subst, ◌∙◌}
use Rattle.std.specs.Prelude.{map, nat_eq, ◌&&◌, ◌||◌}
use Rattle.std.specs.List.{filter, flat_map}
use Rattle.std.specs.List.Sorted.{IsPermutation}
use Rattle.std.proofs.lemmas.List.Elements.{filter-append}
use Rattle.std.proofs.lemmas.List.Sorted.{IsPermutation-refl, IsPermutation-cons, IsPermutation-sym, IsPermutation-trans, IsPermutation-middle, IsPermutation-append_right}
use Rattle.std.proofs.lemmas.Bool.{eqb-true, eq-eqb, or_right}
use Rattle.span_core.specs.Lists.{Has, AreDistinct}
use Rattle.algebra.specs.declared.pairs.Pair.{Pair}
use Rattle.algebra.specs.Pairs.{pair_of, pairs, those_at, pairs_at}
use Rattle.marked_automaton.proofs.Passing.{both_true, left_true, right_true}
use Rattle.marked_automaton.proofs.Segments.{filter_yes, filter_no}

-- of tests of which no element passes both, what passes one is what passes the first, and then the second
module _ {X : Type 0} (s t : X → Bool) (apart : (x : X) → s x ≡ true → t x ≡ false) where
  pub parted : (xs : List X) → IsPermutation (filter (λ x. s x || t x) xs) (filter s xs ++ filter t xs)
  parted [] = IsPermutation-refl []
  parted (x ∷ xs) = go (s x) (t x) refl refl (parted xs)
    where
      go : (b c : Bool) → s x ≡ b → t x ≡ c → IsPermutation (filter (λ x. s x || t x) xs) (filter s xs ++ filter t xs) →
          IsPermutation (filter (λ x. s x || t x) (x ∷ xs)) (filter s (x ∷ xs) ++ filter t (x ∷ xs))
      go true c e f rest =
          let n : t x ≡ false = apart x e in
          let whole = filter_yes (λ x. s x || t x) x xs (ap (λ b. b || t x) e) in
          rw whole
          (rw (filter_yes s x xs e)
          (rw (filter_no t x xs n)
          (IsPermutation-cons x (filter (λ x. s x || t x) xs) (filter s xs ++ filter t xs) rest)))
      go false true e f rest =
          let whole = filter_yes (λ x. s x || t x) x xs (ap (λ b. b || t x) e ∙ f) in
          rw whole
          (rw (filter_no s x xs e)
          (rw (filter_yes t x xs f)
          (IsPermutation-trans (x ∷ filter (λ x. s x || t x) xs) (x ∷ (filter s xs ++ filter t xs)) (filter s xs ++ x ∷ filter t xs)
          (IsPermutation-cons x (filter (λ x. s x || t x) xs) (filter s xs ++ filter t xs) rest)
          (IsPermutation-sym (filter s xs ++ x ∷ filter t xs) (x ∷ (filter s xs ++ filter t xs)) (IsPermutation-middle (filter s xs) x (filter t xs))))))
      go false false e f rest =
          let whole = filter_no (λ x. s x || t x) x xs (ap (λ b. b || t x) e ∙ f) in
          rw whole
          (rw (filter_no s x xs e)
          (rw (filter_no t x xs f) rest))

none_pass : {X : Type 0} (xs : List X) → filter (λ x. false) xs ≡ []
none_pass [] = refl
none_pass (x ∷ xs) = none_pass xs

-- these are the two numbers of the pair
abbrev pub is_pair : Pair → Pair → Bool
is_pair k r = nat_eq r.left k.left && nat_eq r.right k.right

pub is_pair_same : (k r : Pair) → is_pair k r ≡ true → k ≡ r
is_pair_same k r e =
    let a : r.left ≡ k.left = eqb-true r.left k.left (left_true (nat_eq r.left k.left) (nat_eq r.right k.right) e) in
    let b : r.right ≡ k.right = eqb-true r.right k.right (right_true (nat_eq r.left k.left) (nat_eq r.right k.right) e) in
    λ i. record { left = sym a i; right = sym b i }

pub same_is_pair : (k r : Pair) → k ≡ r → is_pair k r ≡ true
same_is_pair k r e = both_true (nat_eq r.left k.left) (nat_eq r.right k.right)
    (eq-eqb r.left k.left (ap (λ (p : Pair). p.left) (sym e))) (eq-eqb r.right k.right (ap (λ (p : Pair). p.right) (sym e)))

-- the pair is one of these
abbrev pub one_of : List Pair → Pair → Bool
one_of [] r = false
one_of (k ∷ keys) r = is_pair k r || one_of keys r

pub one_of_has : (keys : List Pair) (r : Pair) → one_of keys r ≡ true → Has keys r
one_of_has [] r e = absurd (cc)
one_of_has (k ∷ keys) r e = go (is_pair k r) refl (one_of_has keys r) e
  where
    go : (b : Bool) → is_pair k r ≡ b → (one_of keys r ≡ true → Has keys r) → (b || one_of keys r) ≡ true → Has (k ∷ keys) r
    go true at rest e = inl (is_pair_same k r at)
    go false at rest e = inr (rest e)

pub has_one_of : (keys : List Pair) (r : Pair) → Has keys r → one_of keys r ≡ true
has_one_of [] r h = absurd h
has_one_of (k ∷ keys) r (inl e) = ap (λ b. b || one_of keys r) (same_is_pair k r e)
has_one_of (k ∷ keys) r (inr h) = or_right (is_pair k r) (one_of keys r) (has_one_of keys r h)

not_one_of : (keys : List Pair) (r : Pair) → (Has keys r → ⊥) → one_of keys r ≡ false
not_one_of keys r n = go (one_of keys r) refl
  where
    go : (b : Bool) → one_of keys r ≡ b → one_of keys r ≡ false
    go true e = absurd (n (one_of_has keys r e))
    go false e = e

module _ {X Y R : Type 0} (at1 : X → ℕ) (at2 : Y → ℕ) (test : X → Y → Bool) (make : X → Y → R) (at : R → Pair)
    (place : (x : X) (y : Y) → at (make x y) ≡ pair_of (at1 x) (at2 y)) where
  -- made of elements at these two states
  abbrev pub made_at : Pair → R → Bool
  made_at k r = is_pair k (at r)

  made_same : (k : Pair) (x : X) (y : Y) (b c : Bool) → nat_eq (at1 x) k.left ≡ b → nat_eq (at2 y) k.right ≡ c → made_at k (make x y) ≡ (b && c)
  made_same k x y b c e f = ap (is_pair k) (place x y) ∙ (ap (λ b. b && nat_eq (at2 y) k.right) e ∙ ap (λ c. b && c) f)

  abbrev of_left : Pair → X → Bool
  of_left k x = nat_eq (at1 x) k.left

  abbrev of_right : Pair → Y → Bool
  of_right k y = nat_eq (at2 y) k.right

  abbrev row : Pair → List Y → X → List R
  row k ys x = map (make x) (filter (test x) (those_at at2 k.right ys))

  row_here : (k : Pair) (x : X) → nat_eq (at1 x) k.left ≡ true → (ys : List Y) →
      filter (made_at k) (map (make x) (filter (test x) ys)) ≡ map (make x) (filter (test x) (those_at at2 k.right ys))
  row_here k x e [] = refl
  row_here k x e (y ∷ ys) = go (test x y) (nat_eq (at2 y) k.right) refl refl (row_here k x e ys)
    where
      go : (b c : Bool) → test x y ≡ b → of_right k y ≡ c → filter (made_at k) (map (make x) (filter (test x) ys)) ≡ map (make x) (filter (test x) (filter (of_right k) ys)) →
          filter (made_at k) (map (make x) (filter (test x) (y ∷ ys))) ≡ map (make x) (filter (test x) (filter (of_right k) (y ∷ ys)))
      go true true p q rest =
          ap (λ zs. filter (made_at k) (map (make x) zs)) (filter_yes (test x) y ys p)
          ∙ (filter_yes (made_at k) (make x y) (map (make x) (filter (test x) ys)) (made_same k x y true true e q)
          ∙ (ap (λ zs. make x y ∷ zs) rest
          ∙ sym (ap (λ zs. map (make x) (filter (test x) zs)) (filter_yes (of_right k) y ys q) ∙ ap (map (make x)) (filter_yes (test x) y (filter (of_right k) ys) p))))
      go true false p q rest =
          ap (λ zs. filter (made_at k) (map (make x) zs)) (filter_yes (test x) y ys p)
          ∙ (filter_no (made_at k) (make x y) (map (make x) (filter (test x) ys)) (made_same k x y true false e q)
          ∙ (rest ∙ sym (ap (λ zs. map (make x) (filter (test x) zs)) (filter_no (of_right k) y ys q))))
      go false true p q rest =
          ap (λ zs. filter (made_at k) (map (make x) zs)) (filter_no (test x) y ys p)
          ∙ (rest ∙ sym (ap (λ zs. map (make x) (filter (test x) zs)) (filter_yes (of_right k) y ys q) ∙ ap (map (make x)) (filter_no (test x) y (filter (of_right k) ys) p)))
      go false false p q rest =
          ap (λ zs. filter (made_at k) (map (make x) zs)) (filter_no (test x) y ys p)
          ∙ (rest ∙ sym (ap (λ zs. map (make x) (filter (test x) zs)) (filter_no (of_right k) y ys q)))

  row_elsewhere : (k : Pair) (x : X) → nat_eq (at1 x) k.left ≡ false → (ys : List Y) → filter (made_at k) (map (make x) ys) ≡ []
  row_elsewhere k x e [] = refl
  row_elsewhere k x e (y ∷ ys) =
      filter_no (made_at k) (make x y) (map (make x) ys) (made_same k x y false (nat_eq (at2 y) k.right) e refl) ∙ row_elsewhere k x e ys

  -- what is made at a pair of states
  at_pair : (k : Pair) (ys : List Y) (xs : List X) → filter (made_at k) (pairs test make ys xs) ≡ pairs_at at1 at2 test make xs ys k
  at_pair k ys [] = refl
  at_pair k ys (x ∷ xs) = go (nat_eq (at1 x) k.left) refl (at_pair k ys xs)
    where
      split : filter (made_at k) (pairs test make ys (x ∷ xs)) ≡ filter (made_at k) (map (make x) (filter (test x) ys)) ++ filter (made_at k) (pairs test make ys xs)
      split = filter-append (made_at k) (map (make x) (filter (test x) ys)) (pairs test make ys xs)

      go : (b : Bool) → (of_left k) x ≡ b → filter (made_at k) (pairs test make ys xs) ≡ flat_map (row k ys) (filter (of_left k) xs) →
          filter (made_at k) (pairs test make ys (x ∷ xs)) ≡ flat_map (row k ys) (filter (of_left k) (x ∷ xs))
      go true e rest =
          split ∙ (ap (λ zs. zs ++ filter (made_at k) (pairs test make ys xs)) (row_here k x e ys)
          ∙ (ap (λ zs. (row k ys) x ++ zs) rest ∙ sym (ap (flat_map (row k ys)) (filter_yes (of_left k) x xs e))))
      go false e rest =
          split ∙ (ap (λ zs. zs ++ filter (made_at k) (pairs test make ys xs)) (row_elsewhere k x e (filter (test x) ys))
          ∙ (rest ∙ sym (ap (flat_map (row k ys)) (filter_no (of_left k) x xs e))))

  -- what is made at some of the pairs, in their order
  pub gathered : (keys : List Pair) (ys : List Y) (xs : List X) → AreDistinct keys →
      IsPermutation (filter (λ r. one_of keys (at r)) (pairs test make ys xs)) (flat_map (pairs_at at1 at2 test make xs ys) keys)
  gathered [] ys xs d = rw (none_pass (pairs test make ys xs)) (IsPermutation-refl [])
  gathered (k ∷ keys) ys xs d =
      let all = pairs test make ys xs in
      let rest = gathered keys ys xs d.1 in
      let two = parted (made_at k) (λ r. one_of keys (at r)) (λ r e. not_one_of keys (at r) (λ h. d.0 (subst (Has keys) (sym (is_pair_same k (at r) e)) h))) all in
      IsPermutation-trans (filter (λ r. one_of (k ∷ keys) (at r)) all) (filter (made_at k) all ++ filter (λ r. one_of keys (at r)) all)
      (flat_map (pairs_at at1 at2 test make xs ys) (k ∷ keys)) two
      (rw (at_pair k ys xs)
      (IsPermutation-append_right (pairs_at at1 at2 test make xs ys k) (filter (λ r. one_of keys (at r)) all) (flat_map (pairs_at at1 at2 test make xs ys) keys) rest))

-- the rows of images
pub those_map : {X Y : Type 0} (at : X → ℕ) (f : Y → X) (p : ℕ) (ys : List Y) → map f (those_at (λ y. at (f y)) p ys) ≡ those_at at p (map f ys)
those_map at f p [] = refl
those_map at f p (y ∷ ys) = go (nat_eq (at (f y)) p) refl (those_map at f p ys)
  where
    go : (b : Bool) → nat_eq (at (f y)) p ≡ b → map f (those_at (λ y. at (f y)) p ys) ≡ those_at at p (map f ys) →
        map f (those_at (λ y. at (f y)) p (y ∷ ys)) ≡ those_at at p (map f (y ∷ ys))
    go true e rest =
        ap (map f) (filter_yes (λ y. nat_eq (at (f y)) p) y ys e)
        ∙ (ap (λ zs. f y ∷ zs) rest ∙ sym (filter_yes (λ x. nat_eq (at x) p) (f y) (map f ys) e))
    go false e rest =
        ap (map f) (filter_no (λ y. nat_eq (at (f y)) p) y ys e) ∙ (rest ∙ sym (filter_no (λ x. nat_eq (at x) p) (f y) (map f ys) e))
