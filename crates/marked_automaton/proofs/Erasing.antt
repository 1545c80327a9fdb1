-- What is left of a row's blocks.
use Rattle.std.proofs.Common.{◌≡◌, ℕ, suc, ◌+◌, ◌-◌, ◌*◌, ◌^◌, ◌/◌, ◌%◌, ◌<◌, ◌≤◌, ◌⊎◌, Bool, true, false, List, [], ◌∷◌, Option, None, length, inl, inr, refl, sym, ap, subst, arith, ◌∙◌}
use Rattle.std.specs.Prelude.{map, if◌then◌else◌}
use Rattle.std.specs.List.{list_any}
use Rattle.std.specs.Str.{bytes_eq}
use Rattle.std.proofs.lemmas.List.{length-map}
use Rattle.std.proofs.lemmas.Nat.{pow-add, div-mul-add, mod-mul-add}
use Rattle.std.proofs.lemmas.Slice.Eq.{bytes_eq-Decides}
use Rattle.std.proofs.lemmas.Bool.{false≢true}
use Rattle.span_core.specs.declared.span.Span.{Span}
use Rattle.span_core.specs.Block.{block, markers_from}
use Rattle.span_core.specs.BlockLaws.{markers_are, digit_small}
use Rattle.span_core.specs.Digits.{digit}
use Rattle.spanner_model.specs.Captures.{VarName, Mapping, row_of}
use Rattle.span_core.specs.Lists.{Has}
use Rattle.spanner_model.proofs.NameLaws.{Has-list_any, list_any-Has}
use Rattle.marked_automaton.specs.Marks.{bits_of, left_of, ErasingLaw}

pub same_name : (x y : VarName) → bytes_eq x y ≡ true → x ≡ y
same_name x y e = (bytes_eq-Decides x y).0 e

pub name_itself : (x y : VarName) → x ≡ y → bytes_eq x y ≡ true
name_itself x y e = (bytes_eq-Decides x y).1 e

-- a row's block as a number with a digit in base 4 for each span
abbrev pub digits : List (Option Span) → ℕ → ℕ
digits [] p = 0
digits (s ∷ row) p = digit s p * 2 ^ (2 * length row) + digits row p

digits_from : (v k p : ℕ) (row : List (Option Span)) → k + length row ≡ v → markers_from v k row p ≡ digits row p
digits_from v k p [] h = refl
digits_from v k p (s ∷ row) h =
    let e : 2 * (v - (k + 1)) ≡ 2 * length row = omega arith in
    ap (λ m. m + markers_from v (k + 1) row p) (markers_are v k p s (omega arith))
    ∙ (ap (λ n. digit s p * 2 ^ n + markers_from v (k + 1) row p) e
    ∙ ap (λ r. digit s p * 2 ^ (2 * length row) + r) (digits_from v (k + 1) p row (omega arith)))

pub block_digits : (row : List (Option Span)) (p : ℕ) → block row p ≡ digits row p
block_digits row p = digits_from (length row) 0 p row (omega arith)

pub four_times : (n : ℕ) → 2 ^ (2 * suc n) ≡ 2 ^ (2 * n) * 4
four_times n = let e : 2 * suc n ≡ 2 * n + 2 = omega arith in ap (λ k. 2 ^ k) e ∙ pow-add 2 (2 * n) 2

-- a digit before digits
pub digit_before : (a b n : ℕ) → a < 4 → b < 2 ^ (2 * n) → a * 2 ^ (2 * n) + b < 2 ^ (2 * suc n)
digit_before a b n small below =
    let le : a * 2 ^ (2 * n) ≤ 3 * 2 ^ (2 * n) = mul_below a 3 (2 ^ (2 * n)) (omega (arith, small)) in
    omega (arith, four_times n, le, below)
  where
    mul_below : (a b c : ℕ) → a ≤ b → a * c ≤ b * c
    mul_below a b c l = grind (arith, l)

pub digits_small : (row : List (Option Span)) (p : ℕ) → digits row p < 2 ^ (2 * length row)
digits_small [] p = omega arith
digits_small (s ∷ row) p = digit_before (digit s p) (digits row p) (length row) (digit_small s p) (digits_small row p)

-- of a row's number over these names each name has the digit of its span
pub bits_law : (names : List VarName) (x : VarName) (m : Mapping) (p : ℕ) → Has names x → bits_of names (digits (row_of names m) p) x ≡ digit (m x) p
bits_law [] x m p h = absurd h
bits_law (y ∷ ys) x m p h = go (bits_law ys x m p) (bytes_eq y x) refl h
  where
    len : length (map m ys) ≡ length ys
    len = length-map ys m

    small : digits (row_of ys m) p < 2 ^ (2 * length ys)
    small = subst (λ n. digits (row_of ys m) p < 2 ^ (2 * n)) len (digits_small (row_of ys m) p)

    whole : digits (row_of (y ∷ ys) m) p ≡ digit (m y) p * 2 ^ (2 * length ys) + digits (row_of ys m) p
    whole = ap (λ n. digit (m y) p * 2 ^ (2 * n) + digits (row_of ys m) p) len

    go : (Has ys x → bits_of ys (digits (row_of ys m) p) x ≡ digit (m x) p) → (b : Bool) → bytes_eq y x ≡ b → Has (y ∷ ys) x →
        bits_of (y ∷ ys) (digits (row_of (y ∷ ys) m) p) x ≡ digit (m x) p
    go rest true e k =
        ap (λ b. if b then digits (row_of (y ∷ ys) m) p / 2 ^ (2 * length ys) else bits_of ys (digits (row_of (y ∷ ys) m) p % 2 ^ (2 * length ys)) x) e
        ∙ (ap (λ v. v / 2 ^ (2 * length ys)) whole
        ∙ (div-mul-add (digit (m y) p) (2 ^ (2 * length ys)) (digits (row_of ys m) p) small
        ∙ ap (λ z. digit (m z) p) (same_name y x e)))
    go rest false e (inl at) = absurd (false≢true (sym e ∙ name_itself y x at))
    go rest false e (inr k) =
        ap (λ b. if b then digits (row_of (y ∷ ys) m) p / 2 ^ (2 * length ys) else bits_of ys (digits (row_of (y ∷ ys) m) p % 2 ^ (2 * length ys)) x) e
        ∙ (ap (λ v. bits_of ys (v % 2 ^ (2 * length ys)) x) whole
        ∙ (ap (λ v. bits_of ys v x) (mod-mul-add (digit (m y) p) (2 ^ (2 * length ys)) (digits (row_of ys m) p) small)
        ∙ rest k))

-- a name that is not there has no bits
pub no_bits : (names : List VarName) (n : ℕ) (x : VarName) → ¬ Has names x → bits_of names n x ≡ 0
no_bits [] n x out = refl
no_bits (y ∷ ys) n x out = go (bytes_eq y x) refl (no_bits ys (n % 2 ^ (2 * length ys)) x (λ h. out (inr h)))
  where
    go : (b : Bool) → bytes_eq y x ≡ b → bits_of ys (n % 2 ^ (2 * length ys)) x ≡ 0 →
        (if b then n / 2 ^ (2 * length ys) else bits_of ys (n % 2 ^ (2 * length ys)) x) ≡ 0
    go true e rest = absurd (out (inl (same_name y x e)))
    go false e rest = rest

-- an absent name has none, whether it is there or not
absent_bits : (names : List VarName) (x : VarName) (m : Mapping) (p : ℕ) → m x ≡ None → bits_of names (digits (row_of names m) p) x ≡ 0
absent_bits names x m p absent = go (list_any (λ y. bytes_eq y x) names) refl
  where
    go : (b : Bool) → list_any (λ y. bytes_eq y x) names ≡ b → bits_of names (digits (row_of names m) p) x ≡ 0
    go true e = bits_law names x m p (Has-list_any names x e) ∙ ap (λ s. digit s p) absent
    go false e = no_bits names (digits (row_of names m) p) x (λ h. false≢true (sym e ∙ list_any-Has names x h))

any_bits : (names : List VarName) (x : VarName) (m : Mapping) (p : ℕ) → Has names x ⊎ (m x ≡ None) → bits_of names (digits (row_of names m) p) x ≡ digit (m x) p
any_bits names x m p (inl h) = bits_law names x m p h
any_bits names x m p (inr absent) = absent_bits names x m p absent ∙ sym (ap (λ s. digit s p) absent)

left_digits : (names keep : List VarName) (m : Mapping) → ((x : VarName) → Has keep x → Has names x ⊎ (m x ≡ None)) → (p : ℕ) →
    left_of names keep (digits (row_of names m) p) ≡ digits (row_of keep m) p
left_digits names [] m there p = refl
left_digits names (x ∷ keep) m there p =
    let here = any_bits names x m p (there x (inl refl)) in
    let rest = left_digits names keep m (λ y h. there y (inr h)) p in
    let len : length (map m keep) ≡ length keep = length-map keep m in
    ap (λ v. v * 2 ^ (2 * length keep) + left_of names keep (digits (row_of names m) p)) here
    ∙ (ap (λ v. digit (m x) p * 2 ^ (2 * length keep) + v) rest
    ∙ ap (λ n. digit (m x) p * 2 ^ (2 * n) + digits (row_of keep m) p) (sym len))

pub erasing_law : ErasingLaw
erasing_law names keep m there p =
    ap (left_of names keep) (block_digits (row_of names m) p) ∙ (left_digits names keep m there p ∙ sym (block_digits (row_of keep m) p))
