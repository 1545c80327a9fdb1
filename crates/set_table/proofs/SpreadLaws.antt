-- Numbers in blocks, place by place.
use Rattle.std.proofs.Common.{◌≡◌, ℕ, zero, suc, ◌+◌, ◌-◌, ◌*◌, ◌/◌, ◌%◌, ◌<◌, ◌≤◌, ◌⊎◌, List, [], ◌∷◌, ◌++◌, length, take, drop, get_or, set, inl, inr, refl, sym, ap, arith, ◌∙◌, length-append, length-drop, length-take}
use Rattle.std.specs.Prelude.{replicate}
use Rattle.std.proofs.Math.Seq.{get_or-append_right}
use Rattle.std.proofs.lemmas.List.{length-set, length-replicate, get_or-drop, get_or-take, get_or-set_same, get_or-set_other, get_or_append_left, get_or_past, take_all}
use Rattle.std.proofs.lemmas.Bool.{cases_lt}
use Rattle.std.proofs.lemmas.Grind.{same_number_lists}
use Rattle.marked_automaton.proofs.Listed.{same_or_not}
use Rattle.set_table.specs.Answered.{with_places}
use Rattle.set_table.specs.Spread.{IsSpread, block, spread}
use Rattle.set_table.proofs.HeldLaws.{zeros}

block_length : (numbers : List ℕ) (k : ℕ) → 16 * k + 16 ≤ length numbers → length (block numbers k) ≡ 16
block_length numbers k l = omega (arith, length-take 16 (drop (16 * k) numbers), length-drop (16 * k) numbers, l)

block_at : (numbers : List ℕ) (k j : ℕ) → j < 16 → get_or (block numbers k) j 0 ≡ get_or numbers (16 * k + j) 0
block_at numbers k j l = get_or-take 16 (drop (16 * k) numbers) j 0 l ∙ get_or-drop (16 * k) numbers j 0

-- each block is there
abbrev pub AreWithin : List ℕ → List ℕ → Type 0
AreWithin runs numbers = (i : ℕ) → i < length runs → 16 * get_or runs i 0 + 16 ≤ length numbers

pub spread_length : (runs numbers : List ℕ) → AreWithin runs numbers → length (spread runs numbers) ≡ 16 * length runs
spread_length [] numbers w = refl
spread_length (k ∷ runs) numbers w =
    let rest = spread_length runs numbers (λ i l. w (suc i) (omega (arith, l))) in
    let one = block_length numbers k (w 0 (omega arith)) in
    omega (arith, length-append (block numbers k) (spread runs numbers), rest, one)

pub spread_at : (runs numbers : List ℕ) (i j : ℕ) → AreWithin runs numbers → i < length runs → j < 16 →
    get_or (spread runs numbers) (16 * i + j) 0 ≡ get_or numbers (16 * get_or runs i 0 + j) 0
spread_at [] numbers i j w l m = absurd (omega (arith, l))
spread_at (k ∷ runs) numbers zero j w l m =
    let one = block_length numbers k (w 0 (omega arith)) in
    let at : 16 * 0 + j ≡ j = omega arith in
    ap (λ p. get_or (block numbers k ++ spread runs numbers) p 0) at
    ∙ (get_or_append_left (block numbers k) (spread runs numbers) 0 j (omega (arith, one, m)) ∙ block_at numbers k j m)
spread_at (k ∷ runs) numbers (suc i) j w l m =
    let one = block_length numbers k (w 0 (omega arith)) in
    let later : 16 ≤ 16 * suc i + j = omega arith in
    let at : 16 * suc i + j - 16 ≡ 16 * i + j = omega arith in
    get_or-append_right (block numbers k) (spread runs numbers) (16 * suc i + j) 0 (omega (arith, one, later))
    ∙ (ap (λ p. get_or (spread runs numbers) p 0) (let e : 16 * suc i + j - length (block numbers k) ≡ 16 * i + j = omega (arith, one) in e)
    ∙ spread_at runs numbers i j (λ n h. w (suc n) (omega (arith, h))) (omega (arith, l)) m)

pub are_within : (runs numbers : List ℕ) → IsSpread runs numbers → AreWithin runs numbers
are_within runs numbers s i l = omega (arith, s.within i, s.whole)

-- a place as its run and its place there
pub place_split : (p : ℕ) → p ≡ 16 * (p / 16) + p % 16
place_split p = omega arith

-- two lists in blocks are the same where they are at each place of each run
pub spread_same : (runs numbers : List ℕ) (xs : List ℕ) → AreWithin runs numbers → length xs ≡ 16 * length runs →
    ((i j : ℕ) → i < length runs → j < 16 → get_or numbers (16 * get_or runs i 0 + j) 0 ≡ get_or xs (16 * i + j) 0) → spread runs numbers ≡ xs
spread_same runs numbers xs w l h = same_number_lists (spread runs numbers) xs (omega (arith, spread_length runs numbers w, l)) (λ p m.
    let e = place_split p in
    let at : p / 16 < length runs = omega (arith, m, spread_length runs numbers w, e) in
    let low : p % 16 < 16 = omega arith in
    ap (λ q. get_or (spread runs numbers) q 0) e
    ∙ (spread_at runs numbers (p / 16) (p % 16) w at low ∙ (h (p / 16) (p % 16) at low ∙ ap (λ q. get_or xs q 0) (sym e))))

-- ---- a number is read

pub read_at : (runs numbers : List ℕ) (p : ℕ) → IsSpread runs numbers → p < length (spread runs numbers) → get_or (spread runs numbers) p 0 ≡ get_or numbers (16 * get_or runs (p / 16) 0 + p % 16) 0
read_at runs numbers p s l =
    let w = are_within runs numbers s in
    let e = place_split p in
    let at : p / 16 < length runs = omega (arith, l, spread_length runs numbers w, e) in
    ap (λ q. get_or (spread runs numbers) q 0) e ∙ spread_at runs numbers (p / 16) (p % 16) w at (omega arith)

pub run_of : (runs numbers : List ℕ) (p : ℕ) → IsSpread runs numbers → p < length (spread runs numbers) → p / 16 < length runs
run_of runs numbers p s l = let e = place_split p in omega (arith, l, spread_length runs numbers (are_within runs numbers s), e)

-- ---- runs that are as before, or have the block of zeros

pub spread_kept : (runs more numbers : List ℕ) → IsSpread runs numbers → ((i : ℕ) → (get_or more i 0 ≡ get_or runs i 0) ⊎ (get_or more i 0 ≡ 0)) → IsSpread more numbers
spread_kept runs more numbers s kept = record {
  blocks = s.blocks;
  whole = s.whole;
  some = s.some;
  zeros = s.zeros;
  within = λ i. elim (kept i) as (λ _. get_or more i 0 < s.blocks) [ inl e ↦ omega (arith, e, s.within i) | inr e ↦ omega (arith, e, s.some) ];
  own = λ i j e p. by_own i j e p (kept i) (kept j);
}
  where
    by_own : (i j : ℕ) → get_or more i 0 ≡ get_or more j 0 → 0 < get_or more i 0 → (get_or more i 0 ≡ get_or runs i 0) ⊎ (get_or more i 0 ≡ 0) →
        (get_or more j 0 ≡ get_or runs j 0) ⊎ (get_or more j 0 ≡ 0) → i ≡ j
    by_own i j e p (inl a) (inl b) = s.own i j (sym a ∙ (e ∙ b)) (omega (arith, a, p))
    by_own i j e p (inl a) (inr b) = absurd (omega (arith, e, b, p))
    by_own i j e p (inr a) b = absurd (omega (arith, a, p))

-- ---- more zeros

grown_run : (runs : List ℕ) (more i : ℕ) → get_or (runs ++ replicate more 0) i 0 ≡ get_or runs i 0
grown_run runs more i = elim (cases_lt i (length runs)) as (λ _. get_or (runs ++ replicate more 0) i 0 ≡ get_or runs i 0) [
  | inl l ↦ get_or_append_left runs (replicate more 0) 0 i l
  | inr l ↦ get_or-append_right runs (replicate more 0) i 0 l ∙ (zeros more (i - length runs) ∙ sym (get_or_past runs i 0 l))
]

pub grown_spread : (runs numbers : List ℕ) (n : ℕ) → IsSpread runs numbers → IsSpread (with_places n runs) numbers
grown_spread runs numbers n s = spread_kept runs (with_places n runs) numbers s (λ i. inl (grown_run runs (n - length runs) i))

pub spread_grown : (runs numbers : List ℕ) (n : ℕ) → IsSpread runs numbers → length runs ≤ n → spread (with_places n runs) numbers ≡ with_places (16 * n) (spread runs numbers)
spread_grown runs numbers n s l =
    let Old : List ℕ = spread runs numbers in
    let w = are_within runs numbers s in
    let new = grown_spread runs numbers n s in
    let len = spread_length runs numbers w in
    let more : length (with_places n runs) ≡ n = omega (arith, length-append runs (replicate (n - length runs) 0), length-replicate {A = ℕ} (n - length runs) 0, l) in
    let wide : length (with_places (16 * n) Old) ≡ 16 * n = omega (arith, length-append Old (replicate (16 * n - length Old) 0), length-replicate {A = ℕ} (16 * n - length Old) 0, l, len) in
    spread_same (with_places n runs) numbers (with_places (16 * n) Old) (are_within (with_places n runs) numbers new) (omega (arith, wide, more)) (λ i j h m.
    let run = grown_run runs (n - length runs) i in
    ap (λ k. get_or numbers (16 * k + j) 0) run ∙ (by i j m (cases_lt i (length runs)) ∙ sym (grown_run Old (16 * n - length Old) (16 * i + j))))
  where
    by : (i j : ℕ) → j < 16 → (i < length runs) ⊎ (length runs ≤ i) → get_or numbers (16 * get_or runs i 0 + j) 0 ≡ get_or (spread runs numbers) (16 * i + j) 0
    by i j m (inl h) = sym (spread_at runs numbers i j (are_within runs numbers s) h m)
    by i j m (inr h) =
        ap (λ k. get_or numbers (16 * k + j) 0) (get_or_past runs i 0 h)
        ∙ (ap (λ p. get_or numbers p 0) (let e : 16 * 0 + j ≡ j = omega arith in e)
        ∙ (s.zeros j m ∙ sym (get_or_past (spread runs numbers) (16 * i + j) 0 (omega (arith, spread_length runs numbers (are_within runs numbers s), h)))))

-- ---- fewer runs

pub cut_spread : (runs numbers : List ℕ) (n : ℕ) → IsSpread runs numbers → IsSpread (take n runs) numbers
cut_spread runs numbers n s = spread_kept runs (take n runs) numbers s (λ i. by i (cases_lt i n))
  where
    by : (i : ℕ) → (i < n) ⊎ (n ≤ i) → (get_or (take n runs) i 0 ≡ get_or runs i 0) ⊎ (get_or (take n runs) i 0 ≡ 0)
    by i (inl l) = inl (get_or-take n runs i 0 l)
    by i (inr l) = inr (get_or_past (take n runs) i 0 (omega (arith, l, length-take n runs)))

pub spread_cut : (runs numbers : List ℕ) (n : ℕ) → IsSpread runs numbers → spread (take n runs) numbers ≡ take (16 * n) (spread runs numbers)
spread_cut runs numbers n s =
    let Old : List ℕ = spread runs numbers in
    let w = are_within runs numbers s in
    let new = cut_spread runs numbers n s in
    let len = spread_length runs numbers w in
    spread_same (take n runs) numbers (take (16 * n) Old) (are_within (take n runs) numbers new) (omega (arith, length-take (16 * n) Old, length-take n runs, len)) (λ i j h m.
    let below : i < n = omega (arith, h, length-take n runs) in
    let there : i < length runs = omega (arith, h, length-take n runs) in
    ap (λ k. get_or numbers (16 * k + j) 0) (get_or-take n runs i 0 below)
    ∙ (sym (spread_at runs numbers i j w there m) ∙ sym (get_or-take (16 * n) Old (16 * i + j) 0 (omega (arith, below, m)))))

-- ---- a block more, for a run that had that of zeros

module _ (runs numbers : List ℕ) (run : ℕ) (s : IsSpread runs numbers) (within : run < length runs) (zero_run : get_or runs run 0 ≡ 0) where
  abbrev Opened : List ℕ
  Opened = set runs run s.blocks

  abbrev More : List ℕ
  More = numbers ++ replicate 16 0

  opened_here : get_or Opened run 0 ≡ s.blocks
  opened_here = get_or-set_same runs run s.blocks 0 within

  opened_else : (i : ℕ) → (i ≡ run → ⊥) → get_or Opened i 0 ≡ get_or runs i 0
  opened_else i other = get_or-set_other runs run i s.blocks 0 other

  more_length : length More ≡ 16 * (s.blocks + 1)
  more_length = omega (arith, length-append numbers (replicate 16 0), length-replicate {A = ℕ} 16 0, s.whole)

  pub opened : IsSpread Opened More
  opened = record {
    blocks = s.blocks + 1;
    whole = more_length;
    some = omega arith;
    zeros = λ j l. get_or_append_left numbers (replicate 16 0) 0 j (omega (arith, l, s.some, s.whole)) ∙ s.zeros j l;
    within = λ i. by_within i (same_or_not i run);
    own = λ i j e p. by_own i j e p (same_or_not i run) (same_or_not j run);
  }
    where
      by_within : (i : ℕ) → (i ≡ run) ⊎ (i ≡ run → ⊥) → get_or Opened i 0 < s.blocks + 1
      by_within i (inl e) = omega (arith, ap (λ k. get_or Opened k 0) e, opened_here)
      by_within i (inr e) = omega (arith, opened_else i e, s.within i)

      by_own : (i j : ℕ) → get_or Opened i 0 ≡ get_or Opened j 0 → 0 < get_or Opened i 0 → (i ≡ run) ⊎ (i ≡ run → ⊥) → (j ≡ run) ⊎ (j ≡ run → ⊥) → i ≡ j
      by_own i j e p (inl a) (inl b) = a ∙ sym b
      by_own i j e p (inl a) (inr b) = absurd (omega (arith, ap (λ k. get_or Opened k 0) a, opened_here, opened_else j b, s.within j, e))
      by_own i j e p (inr a) (inl b) = absurd (omega (arith, ap (λ k. get_or Opened k 0) b, opened_here, opened_else i a, s.within i, e))
      by_own i j e p (inr a) (inr b) = s.own i j (sym (opened_else i a) ∙ (e ∙ opened_else j b)) (omega (arith, opened_else i a, p))

  pub opened_same : spread Opened More ≡ spread runs numbers
  opened_same =
      let w = are_within runs numbers s in
      let len = spread_length runs numbers w in
      spread_same Opened More (spread runs numbers) (are_within Opened More opened) (omega (arith, len, length-set {A = ℕ} runs run s.blocks)) (λ i j h m.
      let there : i < length runs = omega (arith, h, length-set {A = ℕ} runs run s.blocks) in
      by i j there m (same_or_not i run))
    where
      by : (i j : ℕ) → i < length runs → j < 16 → (i ≡ run) ⊎ (i ≡ run → ⊥) → get_or More (16 * get_or Opened i 0 + j) 0 ≡ get_or (spread runs numbers) (16 * i + j) 0
      by i j l m (inl e) =
          let at : get_or Opened i 0 ≡ s.blocks = ap (λ k. get_or Opened k 0) e ∙ opened_here in
          let past : length numbers ≤ 16 * get_or Opened i 0 + j = omega (arith, at, s.whole) in
          let none : get_or runs i 0 ≡ 0 = ap (λ k. get_or runs k 0) e ∙ zero_run in
          get_or-append_right numbers (replicate 16 0) (16 * get_or Opened i 0 + j) 0 past
          ∙ (zeros 16 (16 * get_or Opened i 0 + j - length numbers)
          ∙ (sym (s.zeros j m) ∙ (ap (λ p. get_or numbers p 0) (let f : j ≡ 16 * get_or runs i 0 + j = omega (arith, none) in f)
          ∙ sym (spread_at runs numbers i j (are_within runs numbers s) l m))))
      by i j l m (inr e) =
          let at = opened_else i e in
          ap (λ k. get_or More (16 * k + j) 0) at
          ∙ (get_or_append_left numbers (replicate 16 0) 0 (16 * get_or runs i 0 + j) (omega (arith, s.within i, s.whole, m))
          ∙ sym (spread_at runs numbers i j (are_within runs numbers s) l m))

-- ---- a number is written

module _ (runs numbers : List ℕ) (p n : ℕ) (s : IsSpread runs numbers) (within : p < length (spread runs numbers)) (mine : 0 < get_or runs (p / 16) 0) where
  abbrev Here : ℕ
  Here = 16 * get_or runs (p / 16) 0 + p % 16

  there : Here < length numbers
  there = omega (arith, s.within (p / 16), s.whole)

  pub written : IsSpread runs (set numbers Here n)
  written = record {
    blocks = s.blocks;
    whole = length-set {A = ℕ} numbers Here n ∙ s.whole;
    some = s.some;
    zeros = λ j l. get_or-set_other numbers Here j n 0 (λ e. omega (arith, e, l, mine)) ∙ s.zeros j l;
    within = s.within;
    own = s.own;
  }

  pub written_is : spread runs (set numbers Here n) ≡ set (spread runs numbers) p n
  written_is =
      let w = are_within runs numbers s in
      let len = spread_length runs numbers w in
      spread_same runs (set numbers Here n) (set (spread runs numbers) p n) (are_within runs (set numbers Here n) written)
      (omega (arith, len, length-set {A = ℕ} (spread runs numbers) p n)) (λ i j h m.
      by i j h m (same_or_not (16 * i + j) p))
    where
      by : (i j : ℕ) → i < length runs → j < 16 → (16 * i + j ≡ p) ⊎ (16 * i + j ≡ p → ⊥) →
          get_or (set numbers Here n) (16 * get_or runs i 0 + j) 0 ≡ get_or (set (spread runs numbers) p n) (16 * i + j) 0
      by i j l m (inl e) =
          let split = place_split p in
          let run : i ≡ p / 16 = omega (arith, e, m, split) in
          let low : j ≡ p % 16 = omega (arith, e, m, split, run) in
          ap (λ q. get_or (set numbers Here n) q 0) (λ k. 16 * get_or runs (run k) 0 + low k)
          ∙ (get_or-set_same numbers Here n 0 there ∙ sym (ap (λ q. get_or (set (spread runs numbers) p n) q 0) e ∙ get_or-set_same (spread runs numbers) p n 0 within))
      by i j l m (inr e) =
          let split = place_split p in
          get_or-set_other numbers Here (16 * get_or runs i 0 + j) n 0 (λ same.
          let block : get_or runs i 0 ≡ get_or runs (p / 16) 0 = omega (arith, same, m) in
          let run : i ≡ p / 16 = s.own i (p / 16) block (omega (arith, mine, block)) in
          e (omega (arith, run, same, block, split)))
          ∙ (sym (spread_at runs numbers i j (are_within runs numbers s) l m) ∙ sym (get_or-set_other (spread runs numbers) p (16 * i + j) n 0 e))

-- ---- what a vector is when it was made longer

pub grown_items : (xs new : List ℕ) (n len : ℕ) → len ≡ length xs → length xs ≤ n → new ≡ take n xs ++ replicate (n - len) 0 → new ≡ with_places n xs
grown_items xs new n len e l is = is ∙ (λ i. take_all n xs l i ++ replicate (n - e i) 0)

pub block_items : (xs new : List ℕ) (n len : ℕ) → len ≡ length xs → n ≡ length xs + 16 → new ≡ take n xs ++ replicate (n - len) 0 → new ≡ xs ++ replicate 16 0
block_items xs new n len e m is =
    let count : n - len ≡ 16 = omega (arith, e, m) in
    is ∙ (λ i. take_all n xs (omega (arith, m)) i ++ replicate (count i) 0)
