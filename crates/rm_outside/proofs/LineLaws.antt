-- Where the first line of bytes ends.
use Rattle.std.proofs.Common.{arith, ◌≡◌, ◌≢◌, ◌⊎◌, ◌+◌, ◌<◌, ℕ, suc, Bool, true, false, List, [], ◌∷◌, ◌++◌, length, take, drop, inl, inr, refl, sym, ap, ◌∙◌, subst}
use Rattle.std.specs.Prelude.{cond}
use Rattle.std.specs.List.{take_while}
use Rattle.std.proofs.lemmas.List.{take_all, take_at}
use Rattle.std.proofs.lemmas.List.Sums.{take_while-cons}
use Rattle.std.proofs.lemmas.Bool.Decides.{nat_tests}
use Rattle.rm_outside.specs.Lines.{is_inside_line}
use Rattle.rm_outside.specs.Source.{HasNoEnd, NextLine, ended, last}

-- the first line
abbrev pub line_of : List ℕ → List ℕ
line_of bytes = take_while is_inside_line bytes

inside : (b : ℕ) → is_inside_line b ≡ true → b ≢ 10
inside b e = grind (arith, nat_tests, e)

outside : (b : ℕ) → is_inside_line b ≡ false → b ≡ 10
outside b e = grind (arith, nat_tests, e)

first_true : (b : ℕ) (bytes : List ℕ) → is_inside_line b ≡ true → line_of (b ∷ bytes) ≡ b ∷ line_of bytes
first_true b bytes e = take_while-cons is_inside_line b bytes ∙ ap (λ (c : Bool). cond c (b ∷ line_of bytes) []) e

pub first_inside : (b : ℕ) (bytes : List ℕ) → b ≢ 10 → line_of (b ∷ bytes) ≡ b ∷ line_of bytes
first_inside b bytes other = first_true b bytes (grind (arith, nat_tests, other))

first_false : (b : ℕ) (bytes : List ℕ) → is_inside_line b ≡ false → line_of (b ∷ bytes) ≡ []
first_false b bytes e = take_while-cons is_inside_line b bytes ∙ ap (λ (c : Bool). cond c (b ∷ line_of bytes) []) e

pub no_end : (bytes : List ℕ) → HasNoEnd (line_of bytes)
no_end [] = tt
no_end (b ∷ bytes) = by (is_inside_line b) refl (no_end bytes)
  where
    by : (c : Bool) → is_inside_line b ≡ c → HasNoEnd (line_of bytes) → HasNoEnd (line_of (b ∷ bytes))
    by true e later = subst HasNoEnd (sym (first_true b bytes e)) (inside b e, later)
    by false e later = subst HasNoEnd (sym (first_false b bytes e)) tt

-- an end stands behind it, or nothing does
pub line_ends : (bytes : List ℕ) → (bytes ≡ line_of bytes ++ 10 ∷ drop (suc (length (line_of bytes))) bytes) ⊎ (bytes ≡ line_of bytes)
line_ends [] = inr refl
line_ends (b ∷ bytes) = by (is_inside_line b) refl (line_ends bytes)
  where
    by : (c : Bool) → is_inside_line b ≡ c → (bytes ≡ line_of bytes ++ 10 ∷ drop (suc (length (line_of bytes))) bytes) ⊎ (bytes ≡ line_of bytes) →
        (b ∷ bytes ≡ line_of (b ∷ bytes) ++ 10 ∷ drop (suc (length (line_of (b ∷ bytes)))) (b ∷ bytes)) ⊎ (b ∷ bytes ≡ line_of (b ∷ bytes))
    by true e (inl later) = inl (subst (λ (line : List ℕ). b ∷ bytes ≡ line ++ 10 ∷ drop (suc (length line)) (b ∷ bytes)) (sym (first_true b bytes e)) (ap (λ (xs : List ℕ). b ∷ xs) later))
    by true e (inr later) = inr (subst (λ (line : List ℕ). b ∷ bytes ≡ line) (sym (first_true b bytes e)) (ap (λ (xs : List ℕ). b ∷ xs) later))
    by false e later = inl (subst (λ (line : List ℕ). b ∷ bytes ≡ line ++ 10 ∷ drop (suc (length line)) (b ∷ bytes)) (sym (first_false b bytes e)) (ap (λ (x : ℕ). x ∷ bytes) (outside b e)))

longer : (u rest : List ℕ) → length u < length (u ++ 10 ∷ rest)
longer [] rest = omega arith
longer (c ∷ u) rest = let h = longer u rest in omega (arith, h)

drop_all : (xs : List ℕ) → drop (length xs) xs ≡ []
drop_all [] = refl
drop_all (x ∷ xs) = drop_all xs

-- so many first bytes are the line
pub line_is : (bytes : List ℕ) → take (length (line_of bytes)) bytes ≡ line_of bytes
line_is bytes = elim (line_ends bytes) [
  | inl e ↦ ap (take (length (line_of bytes))) e ∙ take_at (line_of bytes) (10 ∷ drop (suc (length (line_of bytes))) bytes) (length (line_of bytes)) refl
  | inr e ↦ ap (take (length (line_of bytes))) e ∙ take_all (length (line_of bytes)) (line_of bytes) (omega arith)
]

-- the next line, where its length is known
pub next_line : (bytes : List ℕ) (n end : ℕ) → bytes ≢ [] → n ≡ length (line_of bytes) → (n < length bytes → end ≡ 1) → (¬ (n < length bytes) → end ≡ 0) →
    NextLine bytes (take n bytes) (drop (n + end) bytes)
next_line bytes n end some is one none =
    let line = line_of bytes in
    let same : take n bytes ≡ line = ap (λ (k : ℕ). take k bytes) is ∙ line_is bytes in
    elim (line_ends bytes) [
      | inl e ↦
          (let rest = drop (suc (length line)) bytes in
          let within : length line < length bytes = subst (λ (bs : List ℕ). length line < length bs) (sym e) (longer line rest) in
          let by_one : end ≡ 1 = one (omega (arith, is, within)) in
          let at : suc (length line) ≡ n + end = omega (arith, is, by_one) in
          let next : NextLine bytes line rest = subst (λ (bs : List ℕ). NextLine bs line rest) (sym e) (ended (no_end bytes)) in
          subst (λ (l : List ℕ). NextLine bytes l (drop (n + end) bytes)) (sym same) (subst (λ (k : ℕ). NextLine bytes line (drop k bytes)) at next))
      | inr e ↦
          (let all : length bytes ≡ n = ap (λ (bs : List ℕ). length bs) e ∙ sym is in
          let no : end ≡ 0 = none (λ h. omega (arith, h, all)) in
          let at : length bytes ≡ n + end = omega (arith, all, no) in
          let left : drop (n + end) bytes ≡ [] = ap (λ (k : ℕ). drop k bytes) (sym at) ∙ drop_all bytes in
          let whole : NextLine bytes bytes [] = last (subst HasNoEnd (sym e) (no_end bytes)) some in
          subst (λ (l : List ℕ). NextLine bytes l (drop (n + end) bytes)) (e ∙ sym same) (subst (λ (r : List ℕ). NextLine bytes bytes r) (sym left) whole))
    ]

-- and where only that it is there
pub some_next : (bytes : List ℕ) → bytes ≢ [] → (rest : List ℕ) × NextLine bytes (line_of bytes) rest
some_next bytes some = elim (line_ends bytes) [
  | inl e ↦ (drop (suc (length (line_of bytes))) bytes, subst (λ (bs : List ℕ). NextLine bs (line_of bytes) (drop (suc (length (line_of bytes))) bytes)) (sym e) (ended (no_end bytes)))
  | inr e ↦ ([], subst (λ (l : List ℕ). NextLine bytes l []) e (last (subst HasNoEnd (sym e) (no_end bytes)) some))
]

inside_line : (line more : List ℕ) → HasNoEnd line → line_of (line ++ 10 ∷ more) ≡ line
inside_line [] more none = first_false 10 more refl
inside_line (b ∷ line) more none = first_inside b (line ++ 10 ∷ more) none.0 ∙ ap (λ (xs : List ℕ). b ∷ xs) (inside_line line more none.1)

all_inside : (line : List ℕ) → HasNoEnd line → line_of line ≡ line
all_inside [] none = refl
all_inside (b ∷ line) none = first_inside b line none.0 ∙ ap (λ (xs : List ℕ). b ∷ xs) (all_inside line none.1)

drop_past : (line more : List ℕ) → drop (suc (length line)) (line ++ 10 ∷ more) ≡ more
drop_past [] more = refl
drop_past (b ∷ line) more = drop_past line more

drop_over : (line : List ℕ) → drop (suc (length line)) line ≡ []
drop_over [] = refl
drop_over (b ∷ line) = drop_over line

-- there is one next line
pub next_is : (bytes line left : List ℕ) → NextLine bytes line left → (line ≡ line_of bytes) × (left ≡ drop (suc (length (line_of bytes))) bytes)
next_is _ line left (ended none) =
    let same = inside_line line left none in
    (sym same, sym (ap (λ (xs : List ℕ). drop (suc (length xs)) (line ++ 10 ∷ left)) same ∙ drop_past line left))
next_is line _ _ (last none some) =
    let same = all_inside line none in
    (sym same, sym (ap (λ (xs : List ℕ). drop (suc (length xs)) line) same ∙ drop_over line))
