-- Digits in base 4 of blocks, taken out and put together.
use Rattle.std.proofs.Common.{◌≡◌, ℕ, zero, suc, ◌+◌, ◌-◌, ◌*◌, ◌^◌, ◌/◌, ◌%◌, ◌<◌, Bool, true, false, List, [], ◌∷◌, ◌++◌, length, map, get_or, drop, Option, Some, None, inl, inr, refl, sym, ap, subst, arith, ◌∙◌, length-drop, length-append, mod-lt, ◌⊎◌}
use Rattle.std.specs.Prelude.{slice_get, bit_or, bit_and, if◌then◌else◌, Contains, IfSome, IfNone}
use Rattle.std.specs.Option.{ForSome}
use Rattle.std.specs.Str.{bytes_eq}
use Rattle.std.proofs.Math.Pow.{shr_mod, mod-mod-pow}
use Rattle.std.proofs.Math.Seq.{drop-cons}
use Rattle.std.proofs.lemmas.Nat.{and_block, or_disjoint, pow_pos, mod-pow-add, div-mul-add}
use Rattle.std.specs.Int.Bits.{and_zero_r}
use Rattle.std.specs.List.{All}
use Rattle.std.proofs.lemmas.Bool.{cases_lt}
use Rattle.std.proofs.lemmas.List.{get_or_append_left, get_or-append-add}
use Rattle.std.proofs.lemmas.Option.{slice_get_within}
use Rattle.span_core.specs.Block.{opening_bit, closing_bit}
use Rattle.span_core.specs.BlockLaws.{closing_weight, opening_weight, front_weight}
use Rattle.span_core.specs.Digits.{weight}
use Rattle.spanner_model.specs.Captures.{VarName}
use Rattle.span_core.specs.Lists.{Has, AreDistinct}
use Rattle.span_core.proofs.HasLaws.{Contains-Has, Has-slice_get}
use Rattle.marked_automaton.specs.Erased.{ArePlaces, IsPlaceOf, digit_at, picked}
use Rattle.marked_automaton.specs.Marks.{bits_of, left_of}
use Rattle.marked_automaton.proofs.Erasing.{digit_before, name_itself, no_bits, same_name}
use Rattle.marked_automaton.proofs.Listed.{some_same}

-- high bits and low bits
or_low : (q n x : ℕ) → x < 2 ^ n → bit_or (q * 2 ^ n) x ≡ q * 2 ^ n + x
or_low q n x small = or_disjoint (q * 2 ^ n) x none
  where
    none : bit_and (q * 2 ^ n) x ≡ zero
    none =
        let e : q * 2 ^ n + 0 ≡ q * 2 ^ n = omega arith in
        let f : 0 * 2 ^ n + x ≡ x = omega arith in
        let joined : bit_and (q * 2 ^ n + 0) (0 * 2 ^ n + x) ≡ bit_and q 0 * 2 ^ n + bit_and 0 x = and_block n q 0 0 x (pow_pos n) small in
        let both : bit_and (q * 2 ^ n) x ≡ bit_and q 0 * 2 ^ n + bit_and 0 x =
        sym (ap (λ a. bit_and a (0 * 2 ^ n + x)) e ∙ ap (bit_and (q * 2 ^ n)) f) ∙ joined in
        let left : bit_and q 0 * 2 ^ n ≡ 0 * 2 ^ n = ap (λ a. a * 2 ^ n) (and_zero_r q) in
        omega (arith, both, left)

module _ (marks k v q : ℕ) (here : k < v) (before : marks ≡ q * 2 ^ (2 * (v - k))) where
  weight_pos : 0 < weight v k
  weight_pos = pow_pos (2 * (v - (k + 1)))

  pub add_closing : bit_or marks (2 ^ closing_bit v k) ≡ marks + 1 * 2 ^ (2 * (v - (k + 1)))
  add_closing =
      let w = weight v k in
      let c = closing_weight v k here in
      let f = front_weight v k here in
      let r = or_low q (2 * (v - k)) (2 ^ closing_bit v k) (omega (arith, c, f, weight_pos)) in
      ap (λ m. bit_or m (2 ^ closing_bit v k)) before ∙ (r ∙ omega (arith, c, before))

  pub add_opening : bit_or marks (2 ^ opening_bit v k) ≡ marks + 2 * 2 ^ (2 * (v - (k + 1)))
  add_opening =
      let o = opening_weight v k here in
      let f = front_weight v k here in
      let r = or_low q (2 * (v - k)) (2 ^ opening_bit v k) (omega (arith, o, f, weight_pos)) in
      ap (λ m. bit_or m (2 ^ opening_bit v k)) before ∙ (r ∙ omega (arith, o, before))

  -- the factor of what is there, one digit on
  pub before_next : (d : ℕ) → marks + d * 2 ^ (2 * (v - (k + 1))) ≡ (4 * q + d) * 2 ^ (2 * (v - (k + 1)))
  before_next d =
      let f : q * 2 ^ (2 * (v - k)) ≡ q * (4 * weight v k) = ap (λ w. q * w) (front_weight v k here) in
      omega (arith, before, f)

  pub add_both : bit_or (bit_or marks (2 ^ opening_bit v k)) (2 ^ closing_bit v k) ≡ marks + 3 * 2 ^ (2 * (v - (k + 1)))
  add_both =
      let w : ℕ = weight v k in
      let o : 2 ^ opening_bit v k ≡ 2 * w = opening_weight v k here in
      let c : 2 ^ closing_bit v k ≡ w = closing_weight v k here in
      let n : marks + 2 * w ≡ (4 * q + 2) * w = before_next 2 in
      let e : (2 * q + 1) * 2 ^ opening_bit v k ≡ (2 * q + 1) * (2 * w) = ap (λ x. (2 * q + 1) * x) o in
      let opened : bit_or marks (2 ^ opening_bit v k) ≡ (2 * q + 1) * 2 ^ opening_bit v k = add_opening ∙ omega (arith, e, n) in
      let r = or_low (2 * q + 1) (opening_bit v k) (2 ^ closing_bit v k) (omega (arith, c, o, weight_pos)) in
      ap (λ m. bit_or m (2 ^ closing_bit v k)) opened ∙ (r ∙ omega (arith, e, n, c))

-- one digit more is put
pub picked_next : (all m k : ℕ) (places : List (Option ℕ)) → k < length places →
    picked all (drop k places) m ≡ digit_at all (get_or places k None) m * 2 ^ (2 * (length places - (k + 1))) + picked all (drop (k + 1) places) m
picked_next all m k places l =
    let e : suc k ≡ k + 1 = omega arith in
    let rest : drop k places ≡ get_or places k None ∷ drop (k + 1) places = drop-cons places k None l ∙ ap (λ n. get_or places k None ∷ drop n places) e in
    let len : length (drop (k + 1) places) ≡ length places - (k + 1) = length-drop (k + 1) places in
    ap (λ ps. picked all ps m) rest ∙ ap (λ n. digit_at all (get_or places k None) m * 2 ^ (2 * n) + picked all (drop (k + 1) places) m) len

-- the digit of a name that stands at j
bits_at_place : (names : List VarName) (x : VarName) (j m : ℕ) → slice_get names j ≡ Some x → AreDistinct names → m < 2 ^ (2 * length names) →
    bits_of names m x ≡ m / 2 ^ (2 * (length names - (j + 1))) % 4
bits_at_place [] x j m at dis small = absurd (cc)
bits_at_place (y ∷ ys) x zero m at dis small =
    let n = length ys in
    let e : 2 * (suc n - (0 + 1)) ≡ 2 * n = omega arith in
    let f : 2 + 2 * n ≡ 2 * suc n = omega arith in
    let high : m / 2 ^ (2 * n) % 2 ^ 2 ≡ m / 2 ^ (2 * n) = shr_mod 2 (2 * n) (subst (λ k. m < 2 ^ k) (sym f) small) in
    ap (λ b. if b then m / 2 ^ (2 * n) else bits_of ys (m % 2 ^ (2 * n)) x) (name_itself y x (some_same y x at))
    ∙ (sym high ∙ ap (λ k. m / 2 ^ k % 4) (sym e))
bits_at_place (y ∷ ys) x (suc j) m at dis small =
    let n = length ys in
    let other : bytes_eq y x ≡ false = go (bytes_eq y x) refl in
    let low : ℕ = m % 2 ^ (2 * n) in
    let k : ℕ = 2 * (n - (j + 1)) in
    let within : j < n = slice_get_within ys j x at in
    let rest = bits_at_place ys x j low at dis.1 (mod-lt m (pow_pos (2 * n))) in
    let split : 2 * n ≡ (2 * j + 2) + k = omega arith in
    let parts : low ≡ (m / 2 ^ k % 2 ^ (2 * j + 2)) * 2 ^ k + m % 2 ^ k = ap (λ i. m % 2 ^ i) split ∙ mod-pow-add m (2 * j + 2) k in
    let taken : low / 2 ^ k ≡ m / 2 ^ k % 2 ^ (2 * j + 2) =
    ap (λ i. i / 2 ^ k) parts ∙ div-mul-add (m / 2 ^ k % 2 ^ (2 * j + 2)) (2 ^ k) (m % 2 ^ k) (mod-lt m (pow_pos k)) in
    let digit : m / 2 ^ k % 2 ^ (2 * j + 2) % 2 ^ 2 ≡ m / 2 ^ k % 2 ^ 2 = mod-mod-pow (m / 2 ^ k) (2 * j) 2 in
    let e : 2 * (suc n - (suc j + 1)) ≡ k = omega arith in
    ap (λ b. if b then m / 2 ^ (2 * n) else bits_of ys low x) other
    ∙ (rest ∙ (ap (λ i. i % 4) taken ∙ (digit ∙ ap (λ i. m / 2 ^ i % 4) (sym e))))
  where
    go : (b : Bool) → bytes_eq y x ≡ b → bytes_eq y x ≡ false
    go true e = absurd (dis.0 (subst (Has ys) (sym (same_name y x e)) (Has-slice_get ys j x at)))
    go false e = e

bits_at : (names : List VarName) (x : VarName) (place : Option ℕ) (m : ℕ) → IsPlaceOf names x place → AreDistinct names → m < 2 ^ (2 * length names) →
    bits_of names m x ≡ digit_at (length names) place m
bits_at names x None m at dis small = no_bits names m x at
bits_at names x (Some j) m at dis small = bits_at_place names x j m at dis small

-- the digits at the places of the kept names are what is left of a block
pub picked_is_left : (names keep : List VarName) (places : List (Option ℕ)) (m : ℕ) → AreDistinct names → ArePlaces names keep places → m < 2 ^ (2 * length names) →
    picked (length names) places m ≡ left_of names keep m
picked_is_left names [] [] m dis are small = refl
picked_is_left names [] (place ∷ places) m dis are small = absurd (omega (arith, are.0))
picked_is_left names (x ∷ keep) [] m dis are small = absurd (omega (arith, are.0))
picked_is_left names (x ∷ keep) (place ∷ places) m dis are small =
    let len : length places ≡ length keep = omega (arith, are.0) in
    let rest = picked_is_left names keep places m dis (len, λ k y at. are.1 (suc k) y at) small in
    let here = bits_at names x place m (are.1 zero x refl) dis small in
    ap (λ n. digit_at (length names) place m * 2 ^ (2 * n) + picked (length names) places m) len
    ∙ (ap (λ d. d * 2 ^ (2 * length keep) + picked (length names) places m) (sym here) ∙ ap (λ r. bits_of names m x * 2 ^ (2 * length keep) + r) rest)

digit_below : (all m : ℕ) (place : Option ℕ) → digit_at all place m < 4
digit_below all m None = omega arith
digit_below all m (Some j) = mod-lt (m / 2 ^ (2 * (all - (j + 1)))) (let four : 0 < 4 = omega arith in four)

pub picked_small : (all m : ℕ) (places : List (Option ℕ)) → picked all places m < 2 ^ (2 * length places)
picked_small all m [] = omega arith
picked_small all m (place ∷ places) = digit_before (digit_at all place m) (picked all places m) (length places) (digit_below all m place) (picked_small all m places)

-- what stands at a place of a list with one more
pushed_cases : (places : List (Option ℕ)) (place : Option ℕ) (i : ℕ) (d : Option ℕ) → i < length (places ++ place ∷ []) →
    ((i < length places) × (get_or (places ++ place ∷ []) i d ≡ get_or places i d)) ⊎ ((i ≡ length places) × (get_or (places ++ place ∷ []) i d ≡ place))
pushed_cases places place i d l =
    let len : length (places ++ place ∷ []) ≡ length places + 1 = length-append places (place ∷ []) in
    elim (cases_lt i (length places)) [
      | inl less ↦ inl (less, get_or_append_left places (place ∷ []) d i less)
      | inr more ↦
          let at : i ≡ length places + 0 = omega (arith, more, len) in
          inr (omega (arith, at), ap (λ n. get_or (places ++ place ∷ []) n d) at ∙ get_or-append-add places (place ∷ []) 0 d)
    ]

-- what a search for a name tells
pub place_found : (names : List VarName) (x : VarName) (place : Option ℕ) → IfSome place (λ k. slice_get names k ≡ Some x) → IfNone place (¬ Contains names x) → IsPlaceOf names x place
place_found names x None some none = λ h. none (Contains-Has names x h)
place_found names x (Some j) some none = some

place_within : (names : List VarName) (x : VarName) (place : Option ℕ) → IsPlaceOf names x place → ForSome place (λ j. j < length names)
place_within names x None at = λ j e. absurd (cc)
place_within names x (Some j) at = λ k e. let same : j ≡ k = some_number j k e in subst (λ i. i < length names) same (slice_get_within names j x at)
  where
    some_number : (j k : ℕ) → Some j ≡ Some k → j ≡ k
    some_number j k e = cc

module _ (names keep : List VarName) (places : List (Option ℕ)) (k : ℕ) (place : Option ℕ) (name : VarName) (len : length places ≡ k) (kept : slice_get keep k ≡ Some name)
    (found : IsPlaceOf names name place) where
  pub found_more : ((i : ℕ) (x : VarName) → i < k → slice_get keep i ≡ Some x → IsPlaceOf names x (get_or places i None)) →
      (i : ℕ) (x : VarName) → i < k + 1 → slice_get keep i ≡ Some x → IsPlaceOf names x (get_or (places ++ place ∷ []) i None)
  found_more before i x l at =
      let len2 : length (places ++ place ∷ []) ≡ length places + 1 = length-append places (place ∷ []) in
      elim (pushed_cases places place i None (omega (arith, l, len2))) as (λ _. IsPlaceOf names x (get_or (places ++ place ∷ []) i None)) [
        | inl a ↦ subst (IsPlaceOf names x) (sym a.1) (before i x (omega (arith, a.0, len)) at)
        | inr b ↦
            let same : i ≡ k = b.0 ∙ len in
            let name_is : name ≡ x = some_same name x (sym kept ∙ (ap (slice_get keep) (sym same) ∙ at)) in
            subst (IsPlaceOf names x) (sym b.1) (subst (λ y. IsPlaceOf names y place) name_is found)
      ]

  pub within_more : All (λ p. ForSome p (λ j. j < length names)) places → All (λ p. ForSome p (λ j. j < length names)) (places ++ place ∷ [])
  within_more before i d l =
      elim (pushed_cases places place i d l) as (λ _. ForSome (get_or (places ++ place ∷ []) i d) (λ j. j < length names)) [
        | inl a ↦ subst (λ p. ForSome p (λ j. j < length names)) (sym a.1) (before i d a.0)
        | inr b ↦ subst (λ p. ForSome p (λ j. j < length names)) (sym b.1) (place_within names name place found)
      ]

-- a function that is the same on each element
pub map_same : {X Y : Type 0} (f g : X → Y) (xs : List X) → ((x : X) → Has xs x → f x ≡ g x) → map f xs ≡ map g xs
map_same f g [] same = refl
map_same f g (x ∷ xs) same = ap (λ y. y ∷ map f xs) (same x (inl refl)) ∙ ap (λ ys. g x ∷ ys) (map_same f g xs (λ y h. same y (inr h)))
