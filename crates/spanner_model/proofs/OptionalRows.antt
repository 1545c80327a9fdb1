-- Answers with absent variables.
use Rattle.std.proofs.Common.{◌≡◌, ℕ, ◌+◌, ◌&&◌, not, true, false, List, [], ◌∷◌, ◌++◌, Option, Some, None, refl, inl, inr, sym, ap, ◌∙◌, subst, arith, IsTrue}
use Rattle.std.specs.Prelude.{slice_get, codes}
use Rattle.std.specs.Ordering.{nat_cmp}
use Rattle.std.specs.Cmp.{nat_cmp_total}
use Rattle.std.specs.FinSet as set
use Rattle.std.specs.FinSet.{contains-difference}
use Rattle.span_core.specs.declared.span.Span.{Span}
use Rattle.span_core.specs.ByteSets.{bytes_between}
use Rattle.span_core.specs.ByteWordLaws.{contains-bytes_between}
use Rattle.spanner_model.specs.Answers.{IsAnswerRow}
use Rattle.spanner_model.specs.Captures.{Captures, span_of}
use Rattle.spanner_model.specs.Examples.{a, b, dot, x, y, span, free, query, row1, x_or_b, OptionalRows, MaybeRows, UnionRows, UnsureJoin}
use Rattle.spanner_model.specs.Expression.{join_all}
use Rattle.spanner_model.specs.Sound.{IsSound}
use Rattle.spanner_model.specs.Fit.{Fit}
use Rattle.spanner_model.specs.Tree.{Tree, cat, cat_end, rep, cap}
use Rattle.spanner_model.proofs.ExampleLaws.{byte_has, fits_one, fits_byte, fits_end, fits_cat, fits_cap, no_times, answers_free, apart_none, none_apart}

abbrev d : List ℕ
d = codes "ab"

fits_a : (i : ℕ) (e : List ℕ) → slice_get e i ≡ Some 97 → Fit (cap x a) e i (i + 1) ((x, span i 1) ∷ [])
fits_a i e at = fits_cap x a e i 1 [] (fits_byte 97 e i at) (λ n. n)

fits_b : Fit x_or_b d 1 2 []
fits_b = inr (inl (fits_byte 98 d 1 refl))

dot_has_b : IsTrue (set.contains {R = nat_cmp} (set.difference (bytes_between 0 255) (set.insert set.empty 10)) 98)
dot_has_b =
    contains-difference nat_cmp_total (bytes_between 0 255) (set.insert set.empty 10) 98 ∙
    ap (λ t. t && not (set.contains {R = nat_cmp} (set.insert set.empty 10) 98)) (contains-bytes_between 0 255 98)
    ∙ ap (λ t. not t) (byte_has 10 98)

fits_dot : Fit (cap x dot) d 1 2 ((x, span 1 1) ∷ [])
fits_dot = fits_cap x dot d 1 1 [] (fits_one (set.difference (bytes_between 0 255) (set.insert set.empty 10)) d 1 98 refl dot_has_b) (λ n. n)

none_some : (o : Option Span) (s : Span) → o ≡ None → o ≡ Some s → ⊥
none_some o s e f = cc

-- no fit of the first formula gives x the span of b
no_fit : (i j : ℕ) (c : Captures) → Fit x_or_b d i j c → span_of c x ≡ Some (span 1 1) → ⊥
no_fit i j c (inl h) e =
    let byte_a = h.4 in
    let given : span_of c x ≡ Some h.0 = ap (λ (k : Captures). span_of k x) h.6 in
    let same : h.0 ≡ span 1 1 = (let f : Some h.0 ≡ Some (span 1 1) = sym given ∙ e in cc) in
    let place : i ≡ 1 = sym h.2 ∙ ap (λ (s : Span). s.start) same in
    let is_b : byte_a.0 ≡ 98 = (let f : Some byte_a.0 ≡ Some 98 = sym byte_a.1 ∙ ap (slice_get d) place in cc) in
    let has : IsTrue (set.contains {R = nat_cmp} (set.insert set.empty 97) 98) = subst (λ (n : ℕ). IsTrue (set.contains {R = nat_cmp} (set.insert set.empty 97) n)) is_b byte_a.2 in
    let wrong : false ≡ true = sym (byte_has 97 98) ∙ has in
    absurd (cc)
no_fit i j c (inr (inl h)) e = none_some (span_of c x) (span 1 1) (ap (λ (k : Captures). span_of k x) h.4) e
no_fit i j c (inr (inr h)) e = absurd h

not_joined : IsAnswerRow (query (join_all (free x_or_b ∷ (free (cap x dot) ∷ [])))) d (x ∷ []) (row1 (span 1 1)) → ⊥
not_joined (m, h, e) =
    let row : m x ≡ Some (span 1 1) = (let f : row1 (span 1 1) ≡ m x ∷ [] = e in cc) in
    let on_first : h.0 x ≡ m x = (h.2 x).0 (inl (inl refl)) in
    let fits = h.3 in
    no_fit fits.0 fits.1 fits.2 fits.3 (sym (fits.7 x) ∙ (on_first ∙ row))

-- x would be sure in `b`
not_sound : IsSound (query (join_all (free x_or_b ∷ (free (cap x dot) ∷ [])))) → ⊥
not_sound s = (s.sound_body.0.3.0 x (inl (inl refl)) (inl refl)).0.1.0

pub unsure_join : UnsureJoin
unsure_join = (
  (1, 2, [], fits_b, omega arith, λ t. absurd (cc), λ t. absurd (cc), λ z. refl),
  (1, 2, (x, span 1 1) ∷ [], fits_dot, omega arith, λ t. absurd (cc), λ t. absurd (cc), λ z. refl),
  not_joined,
  not_sound,
)

pub optional_rows : OptionalRows
optional_rows = (
  answers_free x_or_b d 0 1 ((x, span 0 1) ∷ []) (x ∷ []) (inl (fits_a 0 d refl)) (omega arith),
  answers_free x_or_b d 1 2 [] (x ∷ []) fits_b (omega arith),
)

-- (!x{a})?, once and not at all
abbrev maybe : Tree
maybe = rep (cap x a) 0 (Some 1)

once : Fit maybe d 0 1 ((x, span 0 1) ∷ [])
once = (1, omega arith, λ n e. (let f : 1 ≡ n = cc in omega (arith, f)), (1, (x, span 0 1) ∷ [], [], fits_a 0 d refl, no_times (Fit (cap x a) d) 1, apart_none ((x, span 0 1) ∷ []), refl))

never : Fit maybe d 1 1 []
never = (0, omega arith, λ n e. omega arith, no_times (Fit (cap x a) d) 1)

then_b : (i : ℕ) (m : Captures) → Fit maybe d i 1 m → Fit (cat maybe (cat b cat_end)) d i 2 (m ++ [])
then_b i m h = fits_cat maybe (cat b cat_end) d i 1 2 m [] h (fits_cat b cat_end d 1 2 2 [] [] (fits_byte 98 d 1 refl) (fits_end d 2) (none_apart [])) (apart_none m)

pub maybe_rows : MaybeRows
maybe_rows = (
  answers_free (cat maybe (cat b cat_end)) d 0 2 ((x, span 0 1) ∷ []) (x ∷ []) (then_b 0 ((x, span 0 1) ∷ []) once) (omega arith),
  answers_free (cat maybe (cat b cat_end)) d 1 2 [] (x ∷ []) (then_b 1 [] never) (omega arith),
)

pub union_rows : UnionRows
union_rows = (
  (span_of ((x, span 0 1) ∷ []), inl (0, 1, (x, span 0 1) ∷ [], fits_a 0 (codes "a") refl, omega arith, λ t. absurd (cc), λ t. absurd (cc), λ z. refl), refl),
  (
    span_of ((y, span 0 1) ∷ []),
    inr (inl (0, 1, (y, span 0 1) ∷ [], fits_cap y a (codes "a") 0 1 [] (fits_byte 97 (codes "a") 0 refl) (λ n. n), omega arith, λ t. absurd (cc), λ t. absurd (cc), λ z. refl)),
    refl,
  ),
)
