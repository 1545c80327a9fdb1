-- The bits of blocks, and of the markers of variables.
use Rattle.std.proofs.Common.{◌≡◌, ℕ, zero, suc, ◌+◌, ◌-◌, ◌*◌, ◌/◌, ◌%◌, ◌^◌, ◌<◌, ◌≤◌, ◌⊎◌, Bool, true, false, List, [], ◌∷◌, length, min, max, inl, inr, refl, sym, ap, ◌∙◌, arith}
use Rattle.std.specs.Prelude.{bit_or, bit_and, if◌then◌else◌}
use Rattle.std.specs.Int.{bit_at}
use Rattle.std.specs.Str.{bytes_eq}
use Rattle.std.proofs.Math.Nat.{one-le-pow, mod-lt}
use Rattle.std.proofs.lemmas.Bool.{cases_eq, false≢true}
use Rattle.std.proofs.lemmas.Nat.{or_disjoint, div-add-mod'}
use Rattle.std.proofs.lemmas.Nat.Bits.{bit_at-zero, bit_at-lt, bit_at_and, bit_at_or, same_from_bits, bit_at-pow_other, bit_at_cat_high}
use Rattle.spanner_model.specs.Captures.{VarName}
use Rattle.span_core.specs.Lists.{Has}
use Rattle.marked_automaton.proofs.Erasing.{same_name, name_itself}
use Rattle.place_automaton.specs.Sides.{JoinAsSum}
use Rattle.place_automaton.specs.Words.{opening_of, closing_of}

abbrev pub HasBit : ℕ → ℕ → Type 0
HasBit m i = bit_at m i ≡ 1

pub bit_cases : (m i : ℕ) → (bit_at m i ≡ 0) ⊎ HasBit m i
bit_cases m i = go (bit_at m i) (bit_at-lt m i)
  where
    go : (b : ℕ) → b < 2 → (b ≡ 0) ⊎ (b ≡ 1)
    go zero l = inl refl
    go (suc zero) l = inr refl
    go (suc (suc b)) l = absurd (omega (arith, l))

pub zero_bit : (i : ℕ) → HasBit 0 i → ⊥
zero_bit i h = omega (arith, h, bit_at-zero i)

pub no_bits : (m : ℕ) → ((i : ℕ) → HasBit m i → ⊥) → m ≡ 0
no_bits m none = same_from_bits m 0 (λ i. elim (bit_cases m i) [ inl e ↦ e ∙ sym (bit_at-zero i) | inr h ↦ absurd (none i h) ])

-- two blocks without a bit in common
abbrev pub NoBitInCommon : ℕ → ℕ → Type 0
NoBitInCommon a b = (i : ℕ) → HasBit a i → HasBit b i → ⊥

pub apart_sum : (a b : ℕ) → NoBitInCommon a b → JoinAsSum a b
apart_sum a b apart = or_disjoint a b (same_from_bits (bit_and a b) 0 (λ i. bit_at_and a b i ∙ (none i (bit_cases a i) (bit_cases b i) ∙ sym (bit_at-zero i))))
  where
    none : (i : ℕ) → (bit_at a i ≡ 0) ⊎ HasBit a i → (bit_at b i ≡ 0) ⊎ HasBit b i → min (bit_at a i) (bit_at b i) ≡ 0
    none i (inl e) q = omega (arith, e)
    none i (inr h) (inl f) = omega (arith, f)
    none i (inr h) (inr k) = absurd (apart i h k)

pub sum_bit : (a b i : ℕ) → NoBitInCommon a b → HasBit (a + b) i → HasBit a i ⊎ HasBit b i
sum_bit a b i apart h = go (ap (λ m. bit_at m i) (apart_sum a b apart)) (bit_at_or a b i) (bit_cases a i)
  where
    go : bit_at (bit_or a b) i ≡ bit_at (a + b) i → bit_at (bit_or a b) i ≡ max (bit_at a i) (bit_at b i) → (bit_at a i ≡ 0) ⊎ HasBit a i → HasBit a i ⊎ HasBit b i
    go e f (inr k) = inl k
    go e f (inl z) = inr (omega (arith, e, f, z, h))

-- a number that has only bits below k
pub below_power : (m k : ℕ) → ((i : ℕ) → HasBit m i → i < k) → m < 2 ^ k
below_power m k low =
    let pos : 0 < 2 ^ k = omega (arith, one-le-pow k 2 (omega arith)) in
    let rest : m % 2 ^ k < 2 ^ k = mod-lt m pos in
    let parts : m / 2 ^ k * 2 ^ k + m % 2 ^ k ≡ m = div-add-mod' m (2 ^ k) in
    let high : m / 2 ^ k ≡ 0 = no_bits (m / 2 ^ k) (λ j h.
    let at : bit_at (m / 2 ^ k * 2 ^ k + m % 2 ^ k) (k + j) ≡ bit_at (m / 2 ^ k) ((k + j) - k) = bit_at_cat_high (m / 2 ^ k) k (m % 2 ^ k) (k + j) rest (omega arith) in
    let bit : HasBit m (k + j) = ap (λ n. bit_at n (k + j)) (sym parts) ∙ (at ∙ (ap (bit_at (m / 2 ^ k)) (let e : (k + j) - k ≡ j = omega arith in e) ∙ h)) in
    omega (arith, low (k + j) bit)) in
    let whole : m % 2 ^ k ≡ m = (let e : m % 2 ^ k ≡ 0 * 2 ^ k + m % 2 ^ k = omega arith in e) ∙ (ap (λ q. q * 2 ^ k + m % 2 ^ k) (sym high) ∙ parts) in
    rw (← whole) rest

pow_bit : (k i : ℕ) → HasBit (2 ^ k) i → i ≡ k
pow_bit k i h = elim (cases_eq i k) [ inl e ↦ e | inr ne ↦ absurd (omega (arith, h, bit_at-pow_other k i ne)) ]

-- how many names stand behind a name
abbrev pub behind : List VarName → VarName → ℕ
behind [] x = 0
behind (y ∷ ys) x = if bytes_eq y x then length ys else behind ys x

abbrev at_name : {A : Type 0} → A → A → Bool → A
at_name a b c = if c then a else b

other_there : (y x : VarName) (ys : List VarName) → bytes_eq y x ≡ false → Has (y ∷ ys) x → Has ys x
other_there y x ys e (inl same) = absurd (false≢true (sym e ∙ name_itself y x same))
other_there y x ys e (inr h) = h

pub behind_less : (names : List VarName) (x : VarName) → Has names x → behind names x < length names
behind_less [] x h = absurd h
behind_less (y ∷ ys) x h = go (behind_less ys x) (bytes_eq y x) refl
  where
    go : (Has ys x → behind ys x < length ys) → (b : Bool) → bytes_eq y x ≡ b → behind (y ∷ ys) x < suc (length ys)
    go rest true e = let f : behind (y ∷ ys) x ≡ length ys = ap (at_name (length ys) (behind ys x)) e in omega (arith, f)
    go rest false e = let f : behind (y ∷ ys) x ≡ behind ys x = ap (at_name (length ys) (behind ys x)) e in omega (arith, f, rest (other_there y x ys e h))

pub opening_is : (names : List VarName) (x : VarName) → Has names x → opening_of names x ≡ 2 ^ (2 * behind names x + 1)
opening_is [] x h = absurd h
opening_is (y ∷ ys) x h = go (opening_is ys x) (bytes_eq y x) refl
  where
    go : (Has ys x → opening_of ys x ≡ 2 ^ (2 * behind ys x + 1)) → (b : Bool) → bytes_eq y x ≡ b → opening_of (y ∷ ys) x ≡ 2 ^ (2 * behind (y ∷ ys) x + 1)
    go rest true e =
        ap (at_name (2 ^ (2 * length ys + 1)) (opening_of ys x)) e ∙ ap (λ n. 2 ^ (2 * n + 1)) (sym (ap (at_name (length ys) (behind ys x)) e))
    go rest false e =
        ap (at_name (2 ^ (2 * length ys + 1)) (opening_of ys x)) e ∙ (rest (other_there y x ys e h) ∙ ap (λ n. 2 ^ (2 * n + 1)) (sym (ap (at_name (length ys) (behind ys x)) e)))

pub closing_is : (names : List VarName) (x : VarName) → Has names x → closing_of names x ≡ 2 ^ (2 * behind names x)
closing_is [] x h = absurd h
closing_is (y ∷ ys) x h = go (closing_is ys x) (bytes_eq y x) refl
  where
    go : (Has ys x → closing_of ys x ≡ 2 ^ (2 * behind ys x)) → (b : Bool) → bytes_eq y x ≡ b → closing_of (y ∷ ys) x ≡ 2 ^ (2 * behind (y ∷ ys) x)
    go rest true e =
        ap (at_name (2 ^ (2 * length ys)) (closing_of ys x)) e ∙ ap (λ n. 2 ^ (2 * n)) (sym (ap (at_name (length ys) (behind ys x)) e))
    go rest false e =
        ap (at_name (2 ^ (2 * length ys)) (closing_of ys x)) e ∙ (rest (other_there y x ys e h) ∙ ap (λ n. 2 ^ (2 * n)) (sym (ap (at_name (length ys) (behind ys x)) e)))

-- names with the same number of names behind them are one
pub behind_tells : (names : List VarName) (x y : VarName) → Has names x → Has names y → behind names x ≡ behind names y → x ≡ y
behind_tells [] x y h k e = absurd h
behind_tells (z ∷ zs) x y h k e = go (behind_tells zs x y) (bytes_eq z x) refl (bytes_eq z y) refl
  where
    at : (u : VarName) (b : Bool) → bytes_eq z u ≡ b → behind (z ∷ zs) u ≡ at_name (length zs) (behind zs u) b
    at u b f = ap (at_name (length zs) (behind zs u)) f

    go : (Has zs x → Has zs y → behind zs x ≡ behind zs y → x ≡ y) → (b : Bool) → bytes_eq z x ≡ b → (c : Bool) → bytes_eq z y ≡ c → x ≡ y
    go rest true f true g = sym (same_name z x f) ∙ same_name z y g
    go rest true f false g = absurd (omega (arith, e, at x true f, at y false g, behind_less zs y (other_there z y zs g k)))
    go rest false f true g = absurd (omega (arith, e, at x false f, at y true g, behind_less zs x (other_there z x zs f h)))
    go rest false f false g = rest (other_there z x zs f h) (other_there z y zs g k) (sym (at x false f) ∙ (e ∙ at y false g))

-- a bit of one of the variable's markers
abbrev pub IsBitOf : List VarName → VarName → ℕ → Type 0
IsBitOf names x i = HasBit (opening_of names x) i ⊎ HasBit (closing_of names x) i

opening_bit_is : (names : List VarName) (x : VarName) (i : ℕ) → Has names x → HasBit (opening_of names x) i → i ≡ 2 * behind names x + 1
opening_bit_is names x i has h = pow_bit (2 * behind names x + 1) i (ap (λ m. bit_at m i) (sym (opening_is names x has)) ∙ h)

closing_bit_is : (names : List VarName) (x : VarName) (i : ℕ) → Has names x → HasBit (closing_of names x) i → i ≡ 2 * behind names x
closing_bit_is names x i has h = pow_bit (2 * behind names x) i (ap (λ m. bit_at m i) (sym (closing_is names x has)) ∙ h)

pub own_apart : (names : List VarName) (x : VarName) → Has names x → NoBitInCommon (opening_of names x) (closing_of names x)
own_apart names x has i h k = omega (arith, opening_bit_is names x i has h, closing_bit_is names x i has k)

bit_is : (names : List VarName) (x : VarName) (i : ℕ) → Has names x → IsBitOf names x i → (2 * behind names x ≤ i) × (i ≤ 2 * behind names x + 1)
bit_is names x i has (inl h) = let e = opening_bit_is names x i has h in (omega (arith, e), omega (arith, e))
bit_is names x i has (inr h) = let e = closing_bit_is names x i has h in (omega (arith, e), omega (arith, e))

pub bit_tells : (names : List VarName) (x y : VarName) (i : ℕ) → Has names x → Has names y → IsBitOf names x i → IsBitOf names y i → x ≡ y
bit_tells names x y i hx hy bx by =
    let a = bit_is names x i hx bx in
    let b = bit_is names y i hy by in
    behind_tells names x y hx hy (omega (arith, a.0, a.1, b.0, b.1))

pub bit_below : (names : List VarName) (x : VarName) (i : ℕ) → Has names x → IsBitOf names x i → i < 2 * length names
bit_below names x i has b = omega (arith, (bit_is names x i has b).1, behind_less names x has)
