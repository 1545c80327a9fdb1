-- Null is a set of blocks: none is there twice, and each has bits of the formula's variables alone.
use Rattle.std.proofs.Common.{◌≡◌, ℕ, zero, suc, ◌+◌, ◌-◌, ◌<◌, ◌≤◌, ◌⊎◌, Bool, true, false, List, [], ◌∷◌, map, max, Option, Some, None, inl, inr, refl, sym, ap, ◌∙◌, subst, arith, true≢false}
use Rattle.std.specs.Prelude.{bit_or, nat_eq, ◌||◌, if◌then◌else◌}
use Rattle.std.specs.List.{list_any}
use Rattle.std.specs.Int.{bit_at}
use Rattle.std.specs.Option.{ForSome}
use Rattle.std.proofs.lemmas.Bool.{eq-eqb}
use Rattle.std.proofs.lemmas.Nat.Bits.{bit_at-lt, bit_at_or, same_from_bits}
use Rattle.spanner_model.specs.Captures.{VarName}
use Rattle.span_core.specs.Lists.{Has, AreDistinct}
use Rattle.spanner_model.specs.Tree.{Tree, empty, one, cat_end, cat, alt_end, alt, rep, cap}
use Rattle.span_core.proofs.HasLaws.{Has-map_cases, distinct_append}
use Rattle.place_automaton.specs.Places.{Placed, add_once, either_once, sums, plus_placed, copies_then, at_most, repeated, placed}
use Rattle.spanner_model.specs.Sequential.{IsSequential, HasNoVar}
use Rattle.place_automaton.specs.Repeats.{HasOrderedRepeats}
use Rattle.place_automaton.specs.Words.{opening_of, closing_of}
use Rattle.place_automaton.proofs.FineLaws.{Bits, Within, Apart, VarBits, AreNamed, vars_apart, mark_apart, sum_within, zero_within}
use Rattle.place_automaton.proofs.MarkBits.{HasBit, NoBitInCommon, bit_cases, apart_sum, sum_bit, own_apart}
use Rattle.place_automaton.proofs.Shows.{sums_cases, once_cases, either_cases}

-- ---- bits of sums

bit_in_sum : (a b i : ℕ) → NoBitInCommon a b → HasBit a i → HasBit (a + b) i
bit_in_sum a b i apart h =
    let e : bit_at (bit_or a b) i ≡ bit_at (a + b) i = ap (λ m. bit_at m i) (apart_sum a b apart) in
    let f : bit_at (bit_or a b) i ≡ max (bit_at a i) (bit_at b i) = bit_at_or a b i in
    let g : bit_at b i < 2 = bit_at-lt b i in
    omega (arith, e, f, g, h)

-- two sums of what lies in B and what lies in C are equal only where their parts are
pub sum_left : (B C : Bits) → Apart B C → (m n a b : ℕ) → Within B m → Within B n → Within C a → Within C b → m + a ≡ n + b → m ≡ n
sum_left B C apart m n a b wm wn wa wb e = same_from_bits m n (λ i. by i (bit_cases m i) (bit_cases n i))
  where
    no : (p q c d i : ℕ) → Within B p → Within B q → Within C c → Within C d → p + c ≡ q + d → HasBit p i → bit_at q i ≡ 0 → ⊥
    no p q c d i wp wq wc wd f h z =
        elim (sum_bit q d i (λ j x y. apart j (wq j x) (wd j y)) (ap (λ t. bit_at t i) (sym f) ∙ bit_in_sum p c i (λ j x y. apart j (wp j x) (wc j y)) h)) [
          | inl x ↦ omega (arith, x, z)
          | inr y ↦ apart i (wp i h) (wd i y)
        ]

    by : (i : ℕ) → (bit_at m i ≡ 0) ⊎ HasBit m i → (bit_at n i ≡ 0) ⊎ HasBit n i → bit_at m i ≡ bit_at n i
    by i (inl x) (inl y) = x ∙ sym y
    by i (inr x) (inr y) = x ∙ sym y
    by i (inr x) (inl y) = absurd (no m n a b i wm wn wa wb e x y)
    by i (inl x) (inr y) = absurd (no n m b a i wn wm wb wa (sym e) y x)

-- ---- lists without a block twice, whose bits are all in B

pub record NullSet (B : Bits) (ms : List ℕ) : Type 0 where
  pub distinct : AreDistinct ms
  pub within : (m : ℕ) → Has ms m → Within B m

set_more : (B C : Bits) (ms : List ℕ) → ((i : ℕ) → B i → C i) → NullSet B ms → NullSet C ms
set_more B C ms sub s = record { distinct = s.distinct; within = λ m h i b. sub i (s.within m h i b) }

set_none : (B : Bits) → NullSet B []
set_none B = record { distinct = tt; within = λ m h. absurd h }

pub set_zero : (B : Bits) → NullSet B (0 ∷ [])
set_zero B = record { distinct = ((λ h. h), tt); within = λ m h. elim h [ inl e ↦ zero_within B m e | inr b ↦ absurd b ] }

-- what is there is found
has_any : (n : ℕ) (ms : List ℕ) → Has ms n → list_any (nat_eq n) ms ≡ false → ⊥
has_any n [] h e = h
has_any n (m ∷ ms) h e = by (has_any n ms) (nat_eq n m) refl e h
  where
    by : (Has ms n → list_any (nat_eq n) ms ≡ false → ⊥) → (b : Bool) → nat_eq n m ≡ b → (b || list_any (nat_eq n) ms) ≡ false → Has (m ∷ ms) n → ⊥
    by rest true at f h = cc
    by rest false at f (inl same) = true≢false (sym (eq-eqb n m (sym same)) ∙ at)
    by rest false at f (inr h) = rest h f

once_distinct : (n : ℕ) (ms : List ℕ) → AreDistinct ms → AreDistinct (add_once n ms)
once_distinct n ms d = by (list_any (nat_eq n) ms) refl
  where
    by : (b : Bool) → list_any (nat_eq n) ms ≡ b → AreDistinct (if b then ms else n ∷ ms)
    by true e = d
    by false e = ((λ h. has_any n ms h e), d)

map_distinct : (m : ℕ) (ns : List ℕ) → AreDistinct ns → AreDistinct (map (◌+◌ m) ns)
map_distinct m [] d = tt
map_distinct m (n ∷ ns) d =
    ((λ h. let r = Has-map_cases (◌+◌ m) ns (m + n) h in d.0 (subst (Has ns) (let e : r.0 ≡ n = omega (arith, r.2) in e) r.1)), map_distinct m ns d.1)

module _ (B C : Bits) (apart : Apart B C) where
  sums_distinct : (ms ns : List ℕ) → NullSet B ms → NullSet C ns → AreDistinct (sums ms ns)
  sums_distinct [] ns s t = tt
  sums_distinct (m ∷ ms) ns s t =
      distinct_append (map (◌+◌ m) ns) (sums ms ns) (map_distinct m ns t.distinct)
      (sums_distinct ms ns (record { distinct = s.distinct.1; within = λ n h. s.within n (inr h) }) t)
      (λ k x y.
      let p = Has-map_cases (◌+◌ m) ns k x in
      let q = sums_cases ms ns k y in
      let e : m ≡ q.0 = sum_left B C apart m q.0 p.0 q.1 (s.within m (inl refl)) (s.within q.0 (inr q.2)) (t.within p.0 p.1) (t.within q.1 q.3) (p.2 ∙ sym q.4) in
      s.distinct.0 (subst (Has ms) (sym e) q.2))

  set_sums : (ms ns : List ℕ) → NullSet B ms → NullSet C ns → NullSet (λ i. B i ⊎ C i) (sums ms ns)
  set_sums ms ns s t = record {
    distinct = sums_distinct ms ns s t;
    within = λ m h. let r = sums_cases ms ns m h in sum_within B C r.0 r.1 m apart (s.within r.0 r.2) (t.within r.1 r.3) r.4;
  }

either_distinct : (ms ns : List ℕ) → AreDistinct ns → AreDistinct (either_once ms ns)
either_distinct [] ns d = d
either_distinct (m ∷ ms) ns d = once_distinct m (either_once ms ns) (either_distinct ms ns d)

set_either : (B C : Bits) (ms ns : List ℕ) → NullSet B ms → NullSet C ns → NullSet (λ i. B i ⊎ C i) (either_once ms ns)
set_either B C ms ns s t = record {
  distinct = either_distinct ms ns t.distinct;
  within = λ m h i b. elim (either_cases ms ns m h) [ inl a ↦ inl (s.within m a i b) | inr a ↦ inr (t.within m a i b) ];
}

set_opt : (B : Bits) (ms : List ℕ) → NullSet B ms → NullSet B (add_once 0 ms)
set_opt B ms s = record {
  distinct = once_distinct 0 ms s.distinct;
  within = λ m h. elim (once_cases 0 ms m h) [ inl e ↦ zero_within B m e | inr a ↦ s.within m a ];
}

-- with nothing behind
set_then_nothing : (B : Bits) (ms : List ℕ) → NullSet B ms → NullSet B (sums ms (0 ∷ []))
set_then_nothing B ms s =
    set_more (λ i. B i ⊎ ⊥) B (sums ms (0 ∷ [])) (λ i h. elim h [ inl b ↦ b | inr n ↦ absurd n ])
    (set_sums B (λ i. ⊥) (λ i b n. n) ms (0 ∷ []) s (set_zero (λ i. ⊥)))

abbrev AreSets : Bits → Placed → Type 0
AreSets B F = (k : ℕ) → NullSet B (F k).null

-- a repetition in which no bit stands
module _ (B : Bits) (none : (i : ℕ) → B i → ⊥) where
  set_twice : (ms ns : List ℕ) → NullSet B ms → NullSet B ns → NullSet B (sums ms ns)
  set_twice ms ns s t =
      set_more (λ i. B i ⊎ B i) B (sums ms ns) (λ i h. elim h [ inl b ↦ b | inr b ↦ b ]) (set_sums B B (λ i b c. none i b) ms ns s t)

  pub set_copies : (n : ℕ) (F G : Placed) → AreSets B F → AreSets B G → AreSets B (copies_then n F G)
  set_copies zero F G f g = g
  set_copies (suc n) F G f g = λ k.
      let k' = k + (F k).count in set_twice (F k).null (copies_then n F G k').null (f k) (set_copies n F G f g k')

  pub set_at_most : (n : ℕ) (F : Placed) → AreSets B F → AreSets B (at_most n F)
  set_at_most zero F f = λ k. set_zero B
  set_at_most (suc n) F f = λ k.
      let k' = k + (F k).count in
      set_opt B (sums (F k).null (at_most n F k').null) (set_twice (F k).null (at_most n F k').null (f k) (set_at_most n F f k'))

  set_repeated : (n : ℕ) (most : Option ℕ) (F : Placed) → AreSets B F → AreSets B (repeated n most F)
  set_repeated zero None F f = λ k. set_opt B (F k).null (f k)
  set_repeated (suc n) None F f = set_copies n F (plus_placed F) f f
  set_repeated zero (Some most) F f = set_at_most (most - zero) F f
  set_repeated (suc n) (Some most) F f = set_copies (suc n) F (at_most (most - suc n) F) f (set_at_most (most - suc n) F f)

-- once at most
set_once : (B : Bits) (n : ℕ) (F : Placed) → n ≤ 1 → AreSets B F → AreSets B (repeated n (Some 1) F)
set_once B zero F le f = λ k. set_opt B (sums (F k).null (0 ∷ [])) (set_then_nothing B (F k).null (f k))
set_once B (suc zero) F le f = λ k. set_then_nothing B (F k).null (f k)
set_once B (suc (suc n)) F le f = absurd (omega (arith, le))

module _ (names : List VarName) where
  abbrev P : Tree → Placed
  P = placed (opening_of names) (closing_of names)

  pub null_set : (f : Tree) → IsSequential f → HasOrderedRepeats f → AreNamed names f → AreSets (VarBits names f) (P f)
  null_set empty ok ord vars k = set_zero (VarBits names empty)
  null_set (one set) ok ord vars k = set_none (VarBits names (one set))
  null_set cat_end ok ord vars k = set_zero (VarBits names cat_end)
  null_set (cat f rest) ok ord vars k =
      let nf : AreNamed names f = λ x h. vars x (inl h) in
      let nr : AreNamed names rest = λ x h. vars x (inr h) in
      let k' = k + (P f k).count in
      set_more (λ i. VarBits names f i ⊎ VarBits names rest i) (VarBits names (cat f rest)) (sums (P f k).null (P rest k').null)
      (λ i h. elim h as (λ _. VarBits names (cat f rest) i) [ inl b ↦ (b.0, inl b.1, b.2) | inr b ↦ (b.0, inr b.1, b.2) ])
      (set_sums (VarBits names f) (VarBits names rest) (vars_apart names f rest nf nr ok.2) (P f k).null (P rest k').null (null_set f ok.0 ord.0 nf k) (null_set rest ok.1 ord.1 nr k'))
  null_set alt_end ok ord vars k = set_none (VarBits names alt_end)
  null_set (alt f rest) ok ord vars k =
      let nf : AreNamed names f = λ x h. vars x (inl h) in
      let nr : AreNamed names rest = λ x h. vars x (inr h) in
      let k' = k + (P f k).count in
      set_more (λ i. VarBits names f i ⊎ VarBits names rest i) (VarBits names (alt f rest)) (either_once (P f k).null (P rest k').null)
      (λ i h. elim h as (λ _. VarBits names (alt f rest) i) [ inl b ↦ (b.0, inl b.1, b.2) | inr b ↦ (b.0, inr b.1, b.2) ])
      (set_either (VarBits names f) (VarBits names rest) (P f k).null (P rest k').null (null_set f ok.0 ord.0 nf k) (null_set rest ok.1 ord.1 nr k'))
  null_set (rep f least most) ok ord vars k = by least most ok.1 ord.1 (null_set f ok.0 ord.0 vars)
    where
      by : (n : ℕ) (o : Option ℕ) → HasNoVar f ⊎ (o ≡ Some 1) → ForSome o (λ b. n ≤ b) → AreSets (VarBits names f) (P f) → NullSet (VarBits names f) (repeated n o (P f) k).null
      by n o (inl none) le s = set_repeated (VarBits names f) (λ i b. none b.0 b.1) n o (P f) s k
      by n o (inr e) le s =
          rw e (set_once (VarBits names f) n (P f) (le 1 e) s k)
  null_set (cap x f) ok ord vars k =
      let o = opening_of names x in
      let c = closing_of names x in
      let nf : AreNamed names f = λ y h. vars y (inr h) in
      let has : Has names x = vars x (inl refl) in
      let ao = mark_apart names x f o has nf ok.1 (λ i b. inl b) in
      let ac = mark_apart names x f c has nf ok.1 (λ i b. inr b) in
      let own = own_apart names x has in
      let s = null_set f ok.0 ord nf k in
      record {
        distinct = map_distinct (o + c) (P f k).null s.distinct;
        within = λ m h.
            let r = Has-map_cases (◌+◌ (o + c)) (P f k).null m h in
            λ i b. elim (sum_within (λ i. HasBit o i ⊎ HasBit c i) (VarBits names f) (o + c) r.0 m (λ i x b. elim x [ inl y ↦ ao i y b | inr y ↦ ac i y b ])
            (λ i b. sum_bit o c i own b) (s.within r.0 r.1) r.2 i b) as (λ _. VarBits names (cap x f) i) [
              | inl y ↦ (x, inl refl, y)
              | inr y ↦ (y.0, inr y.1, y.2)
            ];
      }
