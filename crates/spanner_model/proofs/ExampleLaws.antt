-- Fits, made step by step.
use Rattle.std.proofs.Common.{◌≡◌, ℕ, suc, ◌+◌, ◌≤◌, ◌||◌, Bool, true, false, List, [], ◌∷◌, ◌++◌, length, get_or, Some, None, IsTrue, inl, inr, refl, sym, ap, ◌∙◌, arith}
use Rattle.std.specs.Prelude.{slice_get}
use Rattle.std.specs.Ordering.{nat_cmp, eq_by_cmp, is_eq}
use Rattle.std.specs.Cmp.{nat_cmp_total}
use Rattle.std.specs.FinSet as set
use Rattle.std.specs.FinSet.{FinSet, contains-insert, contains-empty}
use Rattle.std.proofs.lemmas.Cmp.{tied_itself}
use Rattle.span_core.specs.declared.span.Span.{Span}
use Rattle.spanner_model.specs.Tree.{Tree, one, cat, cat_end, rep, cap}
use Rattle.spanner_model.specs.Captures.{VarName, Captures, Captured, AreApart, span_of, row_of}
use Rattle.spanner_model.specs.Fit.{Piece, Times, Fit}
use Rattle.spanner_model.specs.Answers.{IsAnswerRow}
use Rattle.spanner_model.specs.Examples.{byte, span, free, query, x, y}
use Rattle.spanner_model.specs.Answer.{IsRestriction}
use Rattle.spanner_model.proofs.AnswerLaws.{span_of-absent}

-- whether a set of one byte has a byte
pub byte_has : (code q : ℕ) → set.contains {R = nat_cmp} (set.insert set.empty code) q ≡ eq_by_cmp nat_cmp q code
byte_has code q = contains-insert nat_cmp_total set.empty code q ∙ ap (λ t. eq_by_cmp nat_cmp q code || t) (contains-empty nat_cmp q) ∙ or_false (eq_by_cmp nat_cmp q code)
  where
    or_false : (t : Bool) → (t || false) ≡ t
    or_false true = refl
    or_false false = refl

-- one byte of a set
pub fits_one : (bytes : FinSet nat_cmp) (d : List ℕ) (i code : ℕ) → slice_get d i ≡ Some code → IsTrue (set.contains bytes code) → Fit (one bytes) d i (i + 1) []
fits_one bytes d i code at in_set = (code, at, in_set, refl, refl)

-- that byte itself
pub fits_byte : (code : ℕ) (d : List ℕ) (i : ℕ) → slice_get d i ≡ Some code → Fit (byte code) d i (i + 1) []
fits_byte code d i at = fits_one (set.insert set.empty code) d i code at (byte_has code code ∙ ap is_eq (tied_itself nat_cmp_total code))

pub fits_end : (d : List ℕ) (i : ℕ) → Fit cat_end d i i []
fits_end d i = (refl, refl)

pub fits_cat : (f rest : Tree) (d : List ℕ) (i k j : ℕ) (m n : Captures) → Fit f d i k m → Fit rest d k j n → AreApart m n → Fit (cat f rest) d i j (m ++ n)
fits_cat f rest d i k j m n h g apart = (k, m, n, h, g, apart, refl)

pub fits_cap : (x : VarName) (f : Tree) (d : List ℕ) (i bytes : ℕ) (m : Captures) → Fit f d i (i + bytes) m → (Captured m x → ⊥) → Fit (cap x f) d i (i + bytes) ((x, span i bytes) ∷ m)
fits_cap x f d i bytes m h no_x = (span i bytes, m, refl, refl, h, no_x, refl)

pub no_times : (P : Piece) (i : ℕ) → Times P 0 i i []
no_times P i = (refl, refl)

pub more_times : (P : Piece) (c i k j : ℕ) → P i k [] → Times P c k j [] → Times P (suc c) i j []
more_times P c i k j h g = (k, [], [], h, g, λ x a. absurd a, refl)

pub fits_rep : (f : Tree) (least c : ℕ) (d : List ℕ) (i j : ℕ) → least ≤ c → Times (Fit f d) c i j [] → Fit (rep f least None) d i j []
fits_rep f least c d i j le h = (c, le, λ b e. absurd (cc), h)

-- the row of a fit of an atom that is not tied
pub answers_free : (f : Tree) (d : List ℕ) (i j : ℕ) (c : Captures) (names : List VarName) → Fit f d i j c → j ≤ length d → IsAnswerRow (query (free f)) d names (row_of names (span_of c))
answers_free f d i j c names h le = (span_of c, (i, j, c, h, le, λ t. absurd (cc), λ t. absurd (cc), λ x. refl), refl)

-- captures that are all of these variables are their own restriction to them
pub restricts_itself : (V : VarName → Type 0) (c : Captures) → ((z : VarName) → Captured c z → V z) → IsRestriction V (span_of c) (span_of c)
restricts_itself V c in_v z = (λ v. refl, λ out. span_of-absent c z (λ a. out (in_v z a)))

pub apart_none : (c : Captures) → AreApart c []
apart_none c z a b = b

pub none_apart : (c : Captures) → AreApart [] c
none_apart c z a b = a

pub x_not_y : x ≡ y → ⊥
x_not_y e = let heads : 120 ≡ 121 = ap (λ l. get_or l 0 0) e in absurd (omega (arith, heads))

-- what captures x alone, and what captures y alone
pub apart_xy : (s t : Span) → AreApart ((x, s) ∷ []) ((y, t) ∷ [])
apart_xy s t z a b = elim a [ inl e ↦ elim b [ inl f ↦ x_not_y (e ∙ sym f) | inr n ↦ n ] | inr n ↦ n ]

pub x_alone : (s : Span) (z : VarName) → Captured ((x, s) ∷ []) z → x ≡ z
x_alone s z a = elim a [ inl e ↦ e | inr n ↦ absurd n ]
