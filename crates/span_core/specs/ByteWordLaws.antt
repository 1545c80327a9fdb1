-- The words of a set of bytes determine it, and it determines them.
use Rattle.std.specs.Prelude.{◌≡◌, ℕ, zero, suc, ◌+◌, ◌-◌, ◌*◌, ◌/◌, ◌%◌, ◌^◌, ◌<◌, ◌&&◌, ◌||◌, ◌==◌, if◌then◌else◌, nat_lt, nat_le, nat_eq, List, [], ◌∷◌, length}
use Rattle.std.proofs.Common.{arith, sym, ap, ◌∙◌, refl, get_or}
use Rattle.std.specs.List.{list_any}
use Rattle.std.specs.Int.{bit_at}
use Rattle.std.specs.Ordering.{nat_cmp}
use Rattle.std.specs.FinSet.{FinSet, contains, contains-retain, contains-from_list_nat}
use Rattle.std.proofs.lemmas.Map.Lookups.{exact_unsigned}
use Rattle.std.proofs.lemmas.Bool.{le-leb}
use Rattle.std.proofs.lemmas.Bool.Decides.{nat_tests}
use Rattle.std.proofs.lemmas.Nat.{mod-pow-add}
use Rattle.std.proofs.lemmas.Nat.Bits.{bit_at-lt}
use Rattle.std.proofs.Math.Nat.{mod-eq_of_lt}
use Rattle.span_core.specs.ByteSets.{numbers_from, bytes_between}
use Rattle.span_core.specs.ByteWords.{is_member, set_of, AreWords, word_of, words_of}

among : (lo n q : ℕ) → list_any (λ y. nat_eq y q) (numbers_from lo n) ≡ (nat_le lo q && nat_lt q (lo + n))
unfolding numbers_from
among lo zero q = grind (arith, nat_tests)
among lo (suc n) q = ap (λ b. nat_eq lo q || b) (among (lo + 1) n q) ∙ grind (arith, nat_tests)

pub contains-bytes_between : (lo hi q : ℕ) → contains (bytes_between lo hi) q ≡ (nat_le lo q && nat_le q hi)
unfolding bytes_between
contains-bytes_between lo hi q = contains-from_list_nat (numbers_from lo (hi + 1 - lo)) q ∙ among lo (hi + 1 - lo) q ∙ grind (arith, nat_tests)

pub contains-set_of : (words : List ℕ) (q : ℕ) → contains (set_of words) q ≡ (nat_le q 255 && is_member words q)
unfolding set_of
contains-set_of words q =
    contains-retain (bytes_between 0 255) (is_member words) q (λ x e. ap (is_member words) (sym (exact_unsigned q x e)))
    ∙ ap (λ b. b && is_member words q) (contains-bytes_between 0 255 q ∙ ap (λ b. b && nat_le q 255) (le-leb 0 q (omega arith)))

bit_times : (b p : ℕ) → b < 2 → (if b == 1 then p else 0) ≡ b * p
bit_times zero p h = omega arith
bit_times (suc zero) p h = omega arith
bit_times (suc (suc b)) p h = absurd (omega arith)

word_is : (s : FinSet nat_cmp) (from w n : ℕ) → ((i : ℕ) → i < n → contains s (from + i) ≡ (bit_at w i == 1)) → word_of s from n ≡ w % 2 ^ n
unfolding word_of
word_is s from w zero h = omega arith
word_is s from w (suc n) h =
    let e : 1 + n ≡ suc n = omega arith in
    let next : w % 2 ^ (1 + n) ≡ (w / 2 ^ n % 2 ^ 1) * 2 ^ n + w % 2 ^ n = mod-pow-add w 1 n in
    let last : (if contains s (from + n) then 2 ^ n else 0) ≡ bit_at w n * 2 ^ n = ap (λ b. if b then 2 ^ n else 0) (h n (omega arith)) ∙ bit_times (bit_at w n) (2 ^ n) (bit_at-lt w n) in
    omega (arith, word_is s from w n (λ i l. h i (omega arith)), last, next, ap (λ k. w % 2 ^ k) e)

pub four_are : (words : List ℕ) → length words ≡ 4 → get_or words 0 0 ∷ get_or words 1 0 ∷ get_or words 2 0 ∷ get_or words 3 0 ∷ [] ≡ words
four_are [] h = absurd (omega (arith, h))
four_are (a ∷ []) h = absurd (omega (arith, h))
four_are (a ∷ b ∷ []) h = absurd (omega (arith, h))
four_are (a ∷ b ∷ c ∷ []) h = absurd (omega (arith, h))
four_are (a ∷ b ∷ c ∷ d ∷ []) h = refl
four_are (a ∷ b ∷ c ∷ d ∷ e ∷ rest) h = absurd (omega (arith, h))

-- bit i of word j tells of the number 64 * j + i
pub told_by : (words : List ℕ) (j i from : ℕ) → from ≡ 64 * j → j < 4 → i < 64 → contains (set_of words) (from + i) ≡ (bit_at (get_or words j 0) i == 1)
told_by words j i from is lj li =
    let d : (from + i) / 64 ≡ j = omega arith in
    let m : (from + i) % 64 ≡ i = omega arith in
    contains-set_of words (from + i)
    ∙ ap (λ b. b && is_member words (from + i)) (le-leb (from + i) 255 (omega arith))
    ∙ ap (λ k. bit_at (get_or words k 0) ((from + i) % 64) == 1) d
    ∙ ap (λ k. bit_at (get_or words j 0) k == 1) m

word_back : (words : List ℕ) (j from : ℕ) → from ≡ 64 * j → j < 4 → get_or words j 0 < 2 ^ 64 → word_of (set_of words) from 64 ≡ get_or words j 0
word_back words j from is lj fit = word_is (set_of words) from (get_or words j 0) 64 (λ i li. told_by words j i from is lj li) ∙ mod-eq_of_lt fit

pub words_of_set : (words : List ℕ) → AreWords words → words_of (set_of words) ≡ words
words_of_set words h =
    let a : word_of (set_of words) 0 64 ≡ get_or words 0 0 = word_back words 0 0 refl (omega arith) (h.fit 0 (omega arith)) in
    let b : word_of (set_of words) 64 64 ≡ get_or words 1 0 = word_back words 1 64 refl (omega arith) (h.fit 1 (omega arith)) in
    let c : word_of (set_of words) 128 64 ≡ get_or words 2 0 = word_back words 2 128 refl (omega arith) (h.fit 2 (omega arith)) in
    let d : word_of (set_of words) 192 64 ≡ get_or words 3 0 = word_back words 3 192 refl (omega arith) (h.fit 3 (omega arith)) in
    (λ i. a i ∷ b i ∷ c i ∷ d i ∷ []) ∙ four_are words h.four
