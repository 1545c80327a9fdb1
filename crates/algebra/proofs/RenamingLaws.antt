-- The bits of variables under other names.
use Rattle.std.proofs.Common.{◌≡◌, ℕ, zero, suc, ◌+◌, ◌-◌, ◌*◌, ◌^◌, ◌/◌, ◌%◌, ◌<◌, ◌≤◌, Bool, true, false, ◌&&◌, ◌||◌, List, [], ◌∷◌, ◌++◌, Option, Some, None, length, nat_eq, refl, sym, ap, subst, arith, ◌∙◌}
use Rattle.std.specs.Prelude.{map, slice_get, if◌then◌else◌, Contains, IfSome, IfNone, is_some}
use mathlib.Core.Bool.{beq, not}
use Rattle.std.specs.Str.{bytes_eq}
use Rattle.std.proofs.Math.Nat.{mod-eq_of_lt, zero-div}
use Rattle.std.proofs.lemmas.Nat.{div-mul-add, mod-mul-add, mod-pow-add, div_below, mod_below, pow-add}
use Rattle.std.proofs.lemmas.Bool.{eq-eqb, ne_eqb, eqb-true, false≢true}
use Rattle.std.proofs.lemmas.List.{length-map}
use Rattle.spanner_model.specs.Captures.{VarName}
use Rattle.span_core.specs.declared.TheConstants.{MOST_VARIABLES}
use Rattle.span_core.specs.Lists.{Has, AreDistinct}
use Rattle.span_core.proofs.HasLaws.{Has-slice_get, Has-map_cases, Contains-Has}
use Rattle.span_core.specs.NameSets.{has_name}
use Rattle.spanner_model.proofs.NameLaws.{Has-list_any, list_any-Has}
use Rattle.marked_automaton.specs.Marks.{bits_of}
use Rattle.marked_automaton.proofs.Erasing.{same_name, name_itself, four_times, digit_before}
use Rattle.marked_automaton.proofs.Listed.{some_same}
use Rattle.algebra.specs.JoinedMarks.{agree_on, joined}
use Rattle.algebra.specs.Renaming.{place_shift, shift_of, bits_up, moved_marks}
use Rattle.algebra.proofs.Joins.{pair_same}

pub bits_small : (o : Option ℕ) (m : ℕ) → bits_up o m < 4
bits_small None m = omega arith
bits_small (Some s) m = mod_below (m / 2 ^ s) 4 (omega arith)

pub moved_small : (shifts : List (Option ℕ)) (m : ℕ) → moved_marks shifts m < 2 ^ (2 * length shifts)
moved_small [] m = omega arith
moved_small (s ∷ shifts) m = digit_before (bits_up s m) (moved_marks shifts m) (length shifts) (bits_small s m) (moved_small shifts m)

pub moved_more : (shifts : List (Option ℕ)) (s : Option ℕ) (m : ℕ) → moved_marks (shifts ++ s ∷ []) m ≡ moved_marks shifts m * 4 + bits_up s m
moved_more [] s m = omega arith
moved_more (x ∷ shifts) s m =
    let len : length (shifts ++ s ∷ []) ≡ suc (length shifts) = length_more shifts s in
    let power : 2 ^ (2 * length (shifts ++ s ∷ [])) ≡ 2 ^ (2 * length shifts) * 4 = ap (λ n. 2 ^ (2 * n)) len ∙ four_times (length shifts) in
    let first : bits_up x m * 2 ^ (2 * length (shifts ++ s ∷ [])) ≡ bits_up x m * (2 ^ (2 * length shifts) * 4) = ap (λ p. bits_up x m * p) power in
    omega (arith, first, moved_more shifts s m)
  where
    length_more : (xs : List (Option ℕ)) (s : Option ℕ) → length (xs ++ s ∷ []) ≡ suc (length xs)
    length_more [] s = refl
    length_more (x ∷ xs) s = ap suc (length_more xs s)

-- how far up the bits of a name stand
place_small : (names : List VarName) (x : VarName) (s : ℕ) → place_shift names x ≡ Some s → s + 2 ≤ 2 * length names
place_small [] x s e = absurd (cc)
place_small (y ∷ ys) x s e = go (bytes_eq y x) (place_small ys x s) e
  where
    go : (b : Bool) → (place_shift ys x ≡ Some s → s + 2 ≤ 2 * length ys) → (if b then Some (2 * length ys) else place_shift ys x) ≡ Some s → s + 2 ≤ 2 * suc (length ys)
    go true rest e = omega (arith, some_same (2 * length ys) s e)
    go false rest e = omega (arith, rest e)

pub place_none : (names : List VarName) (x : VarName) → has_name names x ≡ false → place_shift names x ≡ None
place_none [] x e = refl
place_none (y ∷ ys) x e = go (bytes_eq y x) (place_none ys x) e
  where
    go : (b : Bool) → (has_name ys x ≡ false → place_shift ys x ≡ None) → (b || has_name ys x) ≡ false → (if b then Some (2 * length ys) else place_shift ys x) ≡ None
    go true rest e = absurd (false≢true (sym e))
    go false rest e = rest e

pub place_at : (names : List VarName) (x : VarName) (k : ℕ) → AreDistinct names → slice_get names k ≡ Some x → place_shift names x ≡ Some (2 * (length names - k - 1))
place_at [] x k d e = absurd (cc)
place_at (y ∷ ys) x zero d e =
    let n : 2 * length ys ≡ 2 * (suc (length ys) - 0 - 1) = omega arith in
    ap (λ b. if b then Some (2 * length ys) else place_shift ys x) (name_itself y x (some_same y x e)) ∙ ap Some n
place_at (y ∷ ys) x (suc k) d e = go (bytes_eq y x) refl (place_at ys x k d.1 e)
  where
    go : (b : Bool) → bytes_eq y x ≡ b → place_shift ys x ≡ Some (2 * (length ys - k - 1)) → place_shift (y ∷ ys) x ≡ Some (2 * (suc (length ys) - suc k - 1))
    go true at rest = absurd (d.0 (subst (Has ys) (sym (same_name y x at)) (Has-slice_get ys k x e)))
    go false at rest =
        let n : 2 * (length ys - k - 1) ≡ 2 * (suc (length ys) - suc k - 1) = omega arith in
        ap (λ b. if b then Some (2 * length ys) else place_shift ys x) at ∙ (rest ∙ ap Some n)

pow_positive : (n : ℕ) → 0 < 2 ^ n
pow_positive zero = omega arith
pow_positive (suc n) = let e : 2 ^ suc n ≡ 2 ^ n * 2 = power n in omega (arith, e, pow_positive n)
  where
    power : (n : ℕ) → 2 ^ suc n ≡ 2 ^ n * 2
    power n = let s : suc n ≡ n + 1 = omega arith in ap (λ k. 2 ^ k) s ∙ pow-add 2 n 1

-- bits below a power are those of the rest
bits_below : (s t m : ℕ) → m / 2 ^ s % 4 ≡ (m % 2 ^ (t + 2 + s)) / 2 ^ s % 4
bits_below s t m =
    let p : 0 < 2 ^ s = pow_positive s in
    let split : m % 2 ^ (t + 2 + s) ≡ (m / 2 ^ s % 2 ^ (t + 2)) * 2 ^ s + m % 2 ^ s = mod-pow-add m (t + 2) s in
    let quotient : (m % 2 ^ (t + 2 + s)) / 2 ^ s ≡ m / 2 ^ s % 2 ^ (t + 2) =
    ap (λ v. v / 2 ^ s) split ∙ div-mul-add (m / 2 ^ s % 2 ^ (t + 2)) (2 ^ s) (m % 2 ^ s) (mod_below m (2 ^ s) p) in
    let low : m / 2 ^ s % 2 ^ (t + 2) ≡ (m / 2 ^ s / 4 % 2 ^ t) * 4 + m / 2 ^ s % 4 = mod-pow-add (m / 2 ^ s) t 2 in
    sym (ap (λ v. v % 4) (quotient ∙ low) ∙ mod-mul-add (m / 2 ^ s / 4 % 2 ^ t) 4 (m / 2 ^ s % 4) (mod_below (m / 2 ^ s) 4 (omega arith)))

-- the bits so far up are those of the name
pub shift_bits : (names : List VarName) (m : ℕ) (x : VarName) → m < 2 ^ (2 * length names) → bits_up (place_shift names x) m ≡ bits_of names m x
shift_bits [] m x small = refl
shift_bits (y ∷ ys) m x small = go (bytes_eq y x) (shift_bits ys (m % 2 ^ (2 * length ys)) x (mod_below m (2 ^ (2 * length ys)) (pow_positive (2 * length ys))))
  where
    rest_bits : (o : Option ℕ) → place_shift ys x ≡ o → bits_up o m ≡ bits_up o (m % 2 ^ (2 * length ys))
    rest_bits None e = refl
    rest_bits (Some s) e =
        let le = place_small ys x s e in
        let n : 2 * length ys - s - 2 + 2 + s ≡ 2 * length ys = omega (arith, le) in
        bits_below s (2 * length ys - s - 2) m ∙ ap (λ k. (m % 2 ^ k) / 2 ^ s % 4) n

    go : (b : Bool) → bits_up (place_shift ys x) (m % 2 ^ (2 * length ys)) ≡ bits_of ys (m % 2 ^ (2 * length ys)) x →
        bits_up (if b then Some (2 * length ys) else place_shift ys x) m ≡ (if b then m / 2 ^ (2 * length ys) else bits_of ys (m % 2 ^ (2 * length ys)) x)
    go true rest =
        let bound : m < 4 * 2 ^ (2 * length ys) = omega (arith, small, four_times (length ys)) in
        mod-eq_of_lt (div_below m (2 ^ (2 * length ys)) 4 (pow_positive (2 * length ys)) bound)
    go false rest = rest_bits (place_shift ys x) refl ∙ rest

-- bits of two blocks, as numbers
digits_same : (a b c d p : ℕ) → c < p → d < p → nat_eq (a * p + c) (b * p + d) ≡ (nat_eq a b && nat_eq c d)
digits_same a b c d p l m = go (nat_eq a b) (nat_eq c d) refl refl
  where
    go : (s t : Bool) → nat_eq a b ≡ s → nat_eq c d ≡ t → nat_eq (a * p + c) (b * p + d) ≡ (s && t)
    go true true e f =
        let x : a ≡ b = eqb-true a b e in
        let y : c ≡ d = eqb-true c d f in
        eq-eqb (a * p + c) (b * p + d) (λ i. x i * p + y i)
    go true false e f =
        ne_eqb (a * p + c) (b * p + d) (λ g. false≢true (sym f ∙ eq-eqb c d (pair_same p a c b d l m g).1))
    go false t e f =
        ne_eqb (a * p + c) (b * p + d) (λ g. false≢true (sym e ∙ eq-eqb a b (pair_same p a c b d l m g).0))

module _ (names1 names2 : List VarName) (m n : ℕ) (small1 : m < 2 ^ (2 * length names1)) (small2 : n < 2 ^ (2 * length names2)) where
  abbrev One : VarName → ℕ
  One x = bits_of names1 m x

  abbrev Two : VarName → ℕ
  Two x = bits_of names2 n x

  one_is : (x : VarName) → bits_up (place_shift names1 x) m ≡ One x
  one_is x = shift_bits names1 m x small1

  two_is : (x : VarName) → bits_up (place_shift names2 x) n ≡ Two x
  two_is x = shift_bits names2 n x small2

  shared_same : (x : VarName) → (if has_name names1 x && has_name names2 x then nat_eq (One x) (Two x) else true)
      ≡ nat_eq (bits_up (shift_of names1 names2 true x) m) (bits_up (shift_of names2 names1 true x) n)
  shared_same x = go (has_name names1 x) (has_name names2 x) refl refl
    where
      go : (s t : Bool) → has_name names1 x ≡ s → has_name names2 x ≡ t → (if s && t then nat_eq (One x) (Two x) else true)
          ≡ nat_eq (bits_up (if t then place_shift names1 x else None) m) (bits_up (if s then place_shift names2 x else None) n)
      go true true e f = ap (λ v. nat_eq v (Two x)) (sym (one_is x)) ∙ ap (λ v. nat_eq (bits_up (place_shift names1 x) m) v) (sym (two_is x))
      go true false e f = sym (ap (λ o. nat_eq 0 (bits_up o n)) (place_none names2 x f))
      go false true e f = sym (ap (λ o. nat_eq (bits_up o m) 0) (place_none names1 x e))
      go false false e f = refl

  pub agree_is : (all : List VarName) → agree_on names1 names2 all m n
      ≡ nat_eq (moved_marks (map (shift_of names1 names2 true) all) m) (moved_marks (map (shift_of names2 names1 true) all) n)
  agree_is [] = refl
  agree_is (x ∷ all) =
      let p = 2 ^ (2 * length all) in
      let left = map (shift_of names1 names2 true) all in
      let right = map (shift_of names2 names1 true) all in
      let len1 : length left ≡ length all = length-map all (shift_of names1 names2 true) in
      let len2 : length right ≡ length all = length-map all (shift_of names2 names1 true) in
      let s1 : moved_marks left m < p = rw (← len1) (moved_small left m) in
      let s2 : moved_marks right n < p = rw (← len2) (moved_small right n) in
      let a = bits_up (shift_of names1 names2 true x) m in
      let b = bits_up (shift_of names2 names1 true x) n in
      (λ i. shared_same x i && agree_is all i)
      ∙ (sym (digits_same a b (moved_marks left m) (moved_marks right n) p s1 s2)
      ∙ (λ i. nat_eq (a * 2 ^ (2 * sym len1 i) + moved_marks left m) (b * 2 ^ (2 * sym len2 i) + moved_marks right n)))

  abbrev Either : VarName → ℕ
  Either x = if has_name names1 x then One x else Two x

  either_is : (x : VarName) → Either x ≡ bits_up (shift_of names1 names1 true x) m + bits_up (shift_of names2 names1 false x) n
  either_is x = go (has_name names1 x) refl
    where
      go : (s : Bool) → has_name names1 x ≡ s → (if s then One x else Two x)
          ≡ bits_up (if s then place_shift names1 x else None) m + bits_up (if s then None else place_shift names2 x) n
      go true e = omega (arith, one_is x)
      go false e = omega (arith, two_is x)

  pub joined_is : (all : List VarName) → joined names1 names2 all m n
      ≡ moved_marks (map (shift_of names1 names1 true) all) m + moved_marks (map (shift_of names2 names1 false) all) n
  joined_is [] = refl
  joined_is (x ∷ all) =
      let p = 2 ^ (2 * length all) in
      let left = map (shift_of names1 names1 true) all in
      let right = map (shift_of names2 names1 false) all in
      let len1 : length left ≡ length all = length-map all (shift_of names1 names1 true) in
      let len2 : length right ≡ length all = length-map all (shift_of names2 names1 false) in
      let a = bits_up (shift_of names1 names1 true x) m in
      let b = bits_up (shift_of names2 names1 false x) n in
      let first : Either x * p ≡ (a + b) * p = ap (λ v. v * p) (either_is x) in
      let l1 : a * 2 ^ (2 * length left) ≡ a * p = ap (λ k. a * 2 ^ (2 * k)) len1 in
      let l2 : b * 2 ^ (2 * length right) ≡ b * p = ap (λ k. b * 2 ^ (2 * k)) len2 in
      omega (arith, first, l1, l2, joined_is all)

  pub either_small : (x : VarName) → Either x < 4
  either_small x = go (has_name names1 x)
    where
      go : (s : Bool) → (if s then One x else Two x) < 4
      go true = omega (arith, one_is x, bits_small (place_shift names1 x) m)
      go false = omega (arith, two_is x, bits_small (place_shift names2 x) n)

  pub joined_small : (all : List VarName) → joined names1 names2 all m n < 2 ^ (2 * length all)
  joined_small [] = omega arith
  joined_small (x ∷ all) = digit_before (Either x) (joined names1 names2 all m n) (length all) (either_small x) (joined_small all)

-- no shift is too far up
pub shift_small : (names other : List VarName) (wanted : Bool) (x : VarName) (s : ℕ) → shift_of names other wanted x ≡ Some s → s + 2 ≤ 2 * length names
shift_small names other wanted x s e = go (has_name other x) wanted e
  where
    go : (h w : Bool) → (if h then (if w then place_shift names x else None) else (if w then None else place_shift names x)) ≡ Some s → s + 2 ≤ 2 * length names
    go true true e = place_small names x s e
    go true false e = absurd (cc)
    go false true e = absurd (cc)
    go false false e = place_small names x s e

-- what a search for a name tells
pub found_has : (names : List VarName) (x : VarName) (o : Option ℕ) → IfSome o (λ k. slice_get names k ≡ Some x) → IfNone o (¬ Contains names x) → has_name names x ≡ is_some o
found_has names x (Some k) some none = list_any-Has names x (Has-slice_get names k x some)
found_has names x None some none = go (has_name names x) refl
  where
    go : (b : Bool) → has_name names x ≡ b → has_name names x ≡ false
    go true e = absurd (none (Contains-Has names x (Has-list_any names x e)))
    go false e = e

pub shift_against : (names other : List VarName) (wanted : Bool) (x : VarName) (b : Bool) → has_name other x ≡ b → not (beq b wanted) ≡ true → shift_of names other wanted x ≡ None
shift_against names other true x true e n = absurd (false≢true n)
shift_against names other false x true e n = ap (λ h. if h then None else place_shift names x) e
shift_against names other true x false e n = ap (λ h. if h then place_shift names x else None) e
shift_against names other false x false e n = absurd (false≢true n)

pub shift_as_wanted : (names other : List VarName) (wanted : Bool) (x : VarName) (b : Bool) → has_name other x ≡ b → not (beq b wanted) ≡ false → shift_of names other wanted x ≡ place_shift names x
shift_as_wanted names other true x true e w = ap (λ h. if h then place_shift names x else None) e
shift_as_wanted names other false x true e w = absurd (false≢true (sym w))
shift_as_wanted names other true x false e w = absurd (false≢true (sym w))
shift_as_wanted names other false x false e w = ap (λ h. if h then None else place_shift names x) e

pub power_le : (a b : ℕ) → a ≤ b → 2 ^ a ≤ 2 ^ b
power_le a b le =
    let n : b ≡ a + (b - a) = omega (arith, le) in
    let e : 2 ^ b ≡ 2 ^ a * 2 ^ (b - a) = ap (λ k. 2 ^ k) n ∙ pow-add 2 a (b - a) in
    omega (arith, e, mul_more (2 ^ a) (2 ^ (b - a)) (pow_positive (b - a)))
  where
    mul_more : (x y : ℕ) → 0 < y → x ≤ x * y
    mul_more x zero l = absurd (omega arith)
    mul_more x (suc y) l = let e : x * suc y ≡ x * y + x = omega arith in omega (arith, e)

pub shifts_small : (names other : List VarName) (wanted : Bool) (all : List VarName) (s : ℕ) → length names ≤ MOST_VARIABLES → Has (map (shift_of names other wanted) all) (Some s) → s < 64
shifts_small names other wanted all s few h =
    let r = Has-map_cases (shift_of names other wanted) all (Some s) h in
    omega (arith, few, shift_small names other wanted r.0 s r.2)

-- of no markers none are left
pub moved_none : (shifts : List (Option ℕ)) → moved_marks shifts 0 ≡ 0
moved_none [] = refl
moved_none (o ∷ shifts) = let e : bits_up o 0 * 2 ^ (2 * length shifts) ≡ 0 * 2 ^ (2 * length shifts) = ap (λ b. b * 2 ^ (2 * length shifts)) (none_up o) in omega (arith, e, moved_none shifts)
  where
    none_up : (o : Option ℕ) → bits_up o 0 ≡ 0
    none_up None = refl
    none_up (Some s) = ap (λ v. v % 4) (zero-div (2 ^ s))
