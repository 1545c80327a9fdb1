use Rattle.std.proofs.Common.{◌≡◌, ℕ, ◌⊎◌, ◌&&◌, not, true, false, List, [], ◌∷◌, ◌++◌, Some, None, refl, inl, sym, ap, ◌∙◌, subst, arith, IsTrue}
use Rattle.std.specs.Prelude.{slice_get, codes}
use Rattle.std.specs.Ordering.{nat_cmp}
use Rattle.std.specs.Cmp.{nat_cmp_total}
use Rattle.std.specs.FinSet as set
use Rattle.std.specs.FinSet.{contains-difference}
use Rattle.span_core.specs.declared.span.Span.{Span}
use Rattle.span_core.specs.ByteSets.{bytes_between}
use Rattle.span_core.specs.ByteWordLaws.{contains-bytes_between}
use Rattle.spanner_model.specs.Tree.{Tree, one, cat, cat_end, cat_all, cap}
use Rattle.spanner_model.specs.Captures.{Captures, span_of}
use Rattle.spanner_model.specs.Sequential.{HasVar}
use Rattle.spanner_model.specs.Fit.{Fit}
use Rattle.spanner_model.specs.Expression.{ExprTree, join_all}
use Rattle.spanner_model.specs.Answers.{IsAnswerRow}
use Rattle.spanner_model.specs.Examples.{b, dot, plus, x, span, free, query, row1}
use Rattle.spanner_model.proofs.AnswerLaws.{span_of-absent}
use Rattle.spanner_model.proofs.ExampleLaws.{byte_has, fits_one, fits_byte, fits_end, fits_cat, fits_cap, no_times, more_times, fits_rep, restricts_itself, apart_none, none_apart, x_alone}
use Rattle.spanner_model.proofs.examples.joined.Goals as goal

abbrev d : List ℕ
d = codes "aab"

abbrev letters : Tree
letters = cap x (plus (one (bytes_between 97 98)))

abbrev before_b : Tree
before_b = cat_all (cap x dot ∷ (b ∷ []))

abbrev both : ExprTree
both = join_all (free letters ∷ (free before_b ∷ []))

abbrev one_x : Captures
one_x = (x, span 1 1) ∷ []

dot_has_a : IsTrue (set.contains {R = nat_cmp} (set.difference (bytes_between 0 255) (set.insert set.empty 10)) 97)
dot_has_a =
    contains-difference nat_cmp_total (bytes_between 0 255) (set.insert set.empty 10) 97 ∙
    ap (λ t. t && not (set.contains {R = nat_cmp} (set.insert set.empty 10) 97)) (contains-bytes_between 0 255 97)
    ∙ ap (λ t. not t) (byte_has 10 97)

fits_letters : Fit letters d 1 2 one_x
fits_letters =
    fits_cap x (plus (one (bytes_between 97 98))) d 1 1 []
    (fits_rep (one (bytes_between 97 98)) 1 1 d 1 2 (omega arith)
    (more_times (Fit (one (bytes_between 97 98)) d) 0 1 2 2 (fits_one (bytes_between 97 98) d 1 97 refl (contains-bytes_between 97 98 97))
    (no_times (Fit (one (bytes_between 97 98)) d) 2))) (λ n. n)

fits_before : Fit before_b d 1 3 one_x
fits_before =
    fits_cat (cap x dot) (cat b cat_end) d 1 2 3 one_x [] (fits_cap x dot d 1 1 [] (fits_one (set.difference (bytes_between 0 255) (set.insert set.empty 10)) d 1 97 refl dot_has_a) (λ n. n))
    (fits_cat b cat_end d 2 3 3 [] [] (fits_byte 98 d 2 refl) (fits_end d 3) (none_apart [])) (apart_none one_x)

here : IsAnswerRow (query both) d (x ∷ []) (row1 (span 1 1))
here = (
  span_of one_x,
  (
    span_of one_x,
    span_of one_x,
    restricts_itself (HasVar letters) one_x (λ z h. inl (x_alone (span 1 1) z h)),
    (1, 2, one_x, fits_letters, omega arith, λ t. absurd (cc), λ t. absurd (cc), λ z. refl),
    restricts_itself (λ z. HasVar before_b z ⊎ ⊥) one_x (λ z h. inl (inl (inl (x_alone (span 1 1) z h)))),
    (
      span_of one_x,
      λ z. None,
      restricts_itself (HasVar before_b) one_x (λ z h. inl (inl (x_alone (span 1 1) z h))),
      (1, 3, one_x, fits_before, omega arith, λ t. absurd (cc), λ t. absurd (cc), λ z. refl),
      λ z. (λ n. absurd n, λ out. refl),
      λ z. refl,
      λ z out. span_of-absent one_x z (λ h. out (inl (inl (inl (x_alone (span 1 1) z h))))),
    ),
    λ z out. span_of-absent one_x z (λ h. out (inl (inl (x_alone (span 1 1) z h)))),
  ),
  refl,
)

-- the byte after a span that is joined is b
not_there : IsAnswerRow (query both) d (x ∷ []) (row1 (span 0 1)) → ⊥
not_there (m, h, e) =
    let later = h.5 in
    let fits = later.3.3 in
    let capped = fits.3 in
    let byte_b = fits.4.3 in
    let row : m x ≡ Some (span 0 1) = (let f : row1 (span 0 1) ≡ m x ∷ [] = e in cc) in
    let on_rest : h.1 x ≡ m x = (h.4 x).0 (inl (inl (inl refl))) in
    let on_atom : later.0 x ≡ h.1 x = (later.2 x).0 (inl (inl refl)) in
    let given : later.0 x ≡ Some capped.0 = later.3.7 x ∙ ap (λ (k : Captures). span_of k x) (fits.6 ∙ ap (λ (k : Captures). k ++ fits.2) capped.6) in
    let same : capped.0 ≡ span 0 1 = (let f : Some capped.0 ≡ Some (span 0 1) = sym given ∙ on_atom ∙ on_rest ∙ row in cc) in
    let place : fits.0 ≡ 1 = omega (arith, capped.3, ap (λ (s : Span). s.end) same) in
    let is_a : byte_b.0 ≡ 97 = (let f : Some byte_b.0 ≡ Some 97 = sym byte_b.1 ∙ ap (slice_get d) place in cc) in
    let has : IsTrue (set.contains {R = nat_cmp} (set.insert set.empty 98) 97) = subst (λ (n : ℕ). IsTrue (set.contains {R = nat_cmp} (set.insert set.empty 98) n)) is_a byte_b.2 in
    let no : false ≡ true = sym (byte_has 98 97) ∙ has in
    absurd (cc)

pub returns : goal.returns
returns args = (here, not_there)
