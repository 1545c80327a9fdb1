-- Lines with numbers that differ in the last digit.
use Rattle.std.proofs.Common.{◌≡◌, ℕ, zero, suc, ◌+◌, ◌-◌, ◌/◌, ◌%◌, ◌^◌, ◌<◌, ◌≤◌, List, [], ◌∷◌, ◌++◌, length, take, set, inl, inr, refl, sym, ap, ◌∙◌, append_assoc, arith, length-append}
use Rattle.std.specs.Fmt.{decimal}
use Rattle.std.proofs.Math.Seq.{set-append_seam, take-set-lt}
use Rattle.std.proofs.lemmas.Bool.{cases_lt}
use Rattle.std.proofs.lemmas.Fmt.{decimal_digit, decimal_step}
use Rattle.std.proofs.lemmas.List.{length-take-le, take-take}
use Rattle.row_writer.specs.Open.{AreTens, Open, open_text}
use Rattle.row_writer.proofs.Keeping.{front_written}

-- the digits of a number but the last one
abbrev but_last : ℕ → List ℕ
but_last zero = []
but_last (suc tens) = decimal (suc tens)

some_tens : (tens : ℕ) → 0 < tens → but_last tens ≡ decimal tens
some_tens zero some = absurd (omega (arith, some))
some_tens (suc tens) some = refl

decimal_last : (n : ℕ) → n < 2 ^ 64 → decimal n ≡ but_last (n / 10) ++ (48 + n % 10) ∷ []
decimal_last n small = elim (cases_lt n 10) [
  | inl one ↦ (let none : n / 10 ≡ 0 = omega arith in let same : n % 10 ≡ n = omega arith in decimal_digit n one ∙ rw (none, same))
  | inr more ↦ decimal_step n more small ∙ ap (λ (ds : List ℕ). ds ++ (48 + n % 10) ∷ []) (sym (some_tens (n / 10) (omega arith)))
]

joined : (front digits back : List ℕ) (last : ℕ) → front ++ ((digits ++ last ∷ []) ++ back) ≡ (front ++ digits) ++ last ∷ back
joined front digits back last = ap (λ (xs : List ℕ). front ++ xs) (append_assoc digits (last ∷ []) back) ∙ sym (append_assoc front digits (last ∷ back))

last_of_text : (o : Open) (n : ℕ) → n < 2 ^ 64 → open_text o n ≡ (o.front ++ but_last (n / 10)) ++ (48 + n % 10) ∷ o.back
last_of_text o n small = ap (λ (ds : List ℕ). o.front ++ (ds ++ o.back)) (decimal_last n small) ∙ joined o.front (but_last (n / 10)) o.back (48 + n % 10)

-- where the last digit of a line's number is, another may stand
digit_set : (front back bytes : List ℕ) (last c len digit : ℕ) → take len bytes ≡ front ++ last ∷ back → len ≤ length bytes → digit + 1 + length back ≡ len
    → take len (set bytes digit c) ≡ front ++ c ∷ back
digit_set front back bytes last c len digit is inside place =
    let long : length (front ++ last ∷ back) ≡ len = ap (λ (xs : List ℕ). length xs) (sym is) ∙ length-take-le len bytes inside in
    let at : digit ≡ length front = omega (arith, place, long, length-append front (last ∷ back)) in
    take-set-lt len bytes digit c (omega (arith, place)) ∙ ap (λ (xs : List ℕ). set xs digit c) is ∙ ap (λ k. set (front ++ last ∷ back) k c) at ∙ set-append_seam front last back c

-- the line with a number is kept for those with the same tens
pub tens_kept : (o : Open) (m first digit len : ℕ) (bytes : List ℕ) → m < 2 ^ 32 → first ≡ m - m % 10 → take len bytes ≡ open_text o m → len ≤ length bytes → len ≤ 122
    → take (length o.front) bytes ≡ o.front → digit + 1 + length o.back ≡ len → AreTens o first digit len bytes
tens_kept o m first digit len bytes small least is inside few front place = record { within = omega (arith, place); few = few; before = front; lines = lines }
  where
    lines : (n : ℕ) → n < 2 ^ 32 → first ≤ n → n < first + 10 → take len (set bytes digit (48 + (n - first))) ≡ open_text o n
    lines n fits low high =
        let tens : m / 10 ≡ n / 10 = omega (arith, least, low, high) in
        let last : 48 + (n - first) ≡ 48 + n % 10 = omega (arith, least, low, high) in
        digit_set (o.front ++ but_last (m / 10)) o.back bytes (48 + m % 10) (48 + (n - first)) len digit (is ∙ last_of_text o m (omega (arith, small))) inside place
        ∙ ap (λ t. (o.front ++ but_last t) ++ (48 + (n - first)) ∷ o.back) tens ∙ ap (λ d. (o.front ++ but_last (n / 10)) ++ d ∷ o.back) last
        ∙ sym (last_of_text o n (omega (arith, fits)))

-- the first bytes of a line, of which as many or more are copied
pub part_copied : (at len count end : ℕ) (b0 b1 bytes : List ℕ) → at ≤ length b0 → len ≤ count → at + len ≤ end → take end b1 ≡ take at b0 ++ take count bytes
    → take (at + len) b1 ≡ take at b0 ++ take len bytes
part_copied at len count end b0 b1 bytes inside few below is =
    front_written at len end b0 b1 (take count bytes) (take len bytes) inside below is (take-take len count bytes few)

-- the number of a line is written, and what stands behind it
pub rest_written : (f l end r : ℕ) (b0 b1 b2 digits back : List ℕ) {front rest : List ℕ} → take f b0 ≡ front → take end b1 ≡ take f b0 ++ digits → take r b2 ≡ take end b1 ++ back
    → end ≤ length b1 → end + l ≤ r → take l back ≡ rest → take (end + l) b2 ≡ front ++ (digits ++ rest)
rest_written f l end r b0 b1 b2 digits back {front} {rest} one two three inside below is =
    front_written end l r b1 b2 back rest inside below three is ∙ ap (λ (xs : List ℕ). xs ++ rest) (two ∙ ap (λ (xs : List ℕ). xs ++ digits) one) ∙ append_assoc front digits rest
