-- Rows and mappings.
use Rattle.std.proofs.Common.{◌≡◌, ℕ, ◌+◌, ◌<◌, ◌≤◌, ◌⊎◌, Bool, true, false, List, [], ◌∷◌, ◌++◌, length, take, Option, Some, inl, inr, refl, sym, ap, ◌∙◌, arith}
use Rattle.std.specs.Prelude.{slice_get, if◌then◌else◌, IsTrue}
use Rattle.std.specs.Str.{bytes_eq}
use Rattle.std.proofs.Math.Seq.{take-length}
use Rattle.std.proofs.lemmas.Bool.{cases_lt, false≢true}
use Rattle.std.specs.Ordering.{eq_by_cmp, is_eq}
use Rattle.std.specs.declared.cmp.Ordering.{Ordering}
use Rattle.std.specs.declared.cmp.Ordering.TheVariants.{Less, Equal, Greater}
use Rattle.span_core.specs.Order.{IsOrderOf}
use Rattle.span_core.specs.Comparison.{row_cmp}
use Rattle.span_core.specs.ComparisonLaws.{row_cmp_is}
use Rattle.std.proofs.lemmas.List.{length-take-le}
use Rattle.std.proofs.lemmas.Slice.Eq.{bytes_eq-Decides}
use Rattle.span_core.specs.declared.span.Span.{Span}
use Rattle.span_core.specs.Lists.{Has}
use Rattle.spanner_model.specs.Captures.{VarName, Captures, Mapping, span_of, row_of, mapping_of}
use Rattle.spanner_model.specs.Answers.{SpanRow}
use Rattle.std.specs.Bool.{OnTrue}
use Rattle.spanner_model.specs.Gathered.{Adds}
use Rattle.spanner_model.specs.Sequential.{HasVar}
use Rattle.spanner_model.specs.Tree.{Tree}
use Rattle.spanner_model.specs.Fit.{Fit}
use Rattle.spanner_model.specs.Answer.{FitsSomewhere}
use Rattle.spanner_model.proofs.CapturesLaws.{row_same, row_same_on}
use Rattle.spanner_model.proofs.FitLaws.{fit_le, fit_within}
use Rattle.spanner_model.proofs.TreeLaws.{take_at_more}
use Rattle.spanner_model.proofs.RowLaws.{row_length}
use Rattle.plain_spanner.specs.Listed.{Tells, FromSome, CapturesAndEnds, HasFit, Continued}
use Rattle.plain_spanner.specs.Tables.{row_over, IsRowOf, IsRowOfFits}
use Rattle.plain_spanner.proofs.FitLists.{of_branch, branch_of}

row_append : (names : List VarName) (y : VarName) (m : Mapping) → row_of (names ++ y ∷ []) m ≡ row_of names m ++ m y ∷ []
row_append [] y m = refl
row_append (x ∷ names) y m = ap (λ (r : SpanRow). m x ∷ r) (row_append names y m)

-- one name more
pub row_more : (names : List VarName) (k : ℕ) (y : VarName) (m : Mapping) → slice_get names k ≡ Some y → row_of (take (k + 1) names) m ≡ row_of (take k names) m ++ m y ∷ []
row_more names k y m at = ap (λ (ns : List VarName). row_of ns m) (take_at_more names k y at) ∙ row_append (take k names) y m

-- the row of a mapping says what the mapping says of the row's names
pub mapping_of-row_of : (names : List VarName) (n : Mapping) (x : VarName) → Has names x → mapping_of names (row_of names n) x ≡ n x
mapping_of-row_of [] n x h = absurd h
mapping_of-row_of (y ∷ names) n x h = by (bytes_eq y x) refl h (mapping_of-row_of names n x)
  where
    by : (a : Bool) → bytes_eq y x ≡ a → Has (y ∷ names) x → (Has names x → mapping_of names (row_of names n) x ≡ n x) →
        (if a then n y else mapping_of names (row_of names n) x) ≡ n x
    by true e h later = ap n ((bytes_eq-Decides y x).0 e)
    by false e (inl same) later = let clash : true ≡ false = sym ((bytes_eq-Decides y x).1 same) ∙ e in absurd (cc)
    by false e (inr h) later = later h

pub row_over-row_of : (names keep : List VarName) (n : Mapping) → ((x : VarName) → Has keep x → Has names x) → row_over names keep (row_of names n) ≡ row_of keep n
row_over-row_of names keep n in_names = row_same_on keep (mapping_of names (row_of names n)) n (λ x h. mapping_of-row_of names n x (in_names x h))

-- ---- the places that an atom's fits begin at

-- an atom's answer, with which a part fits that begins before this place
abbrev pub FitsBefore : ℕ → Bool → Tree → List ℕ → Mapping → Type 0
FitsBefore place to_end f d m =
    (i : ℕ) × (j : ℕ) × (c : Captures) × (i < place) × Fit f d i j c × (IsTrue to_end → j ≡ length d) × ((x : VarName) → m x ≡ span_of c x)

module _ (to_end : Bool) (f : Tree) (d : List ℕ) (names : List VarName) where
  pub places_none : Tells (Has []) (IsRowOf (FitsBefore 0 to_end f d) names)
  places_none = record {
    each_so = λ r h. absurd h;
    all_there = λ r h. let a : h.1.0 < 0 = h.1.3 in absurd (omega arith);
  }

  pub places_more : (i : ℕ) (rows new : List SpanRow) (found : List CapturesAndEnds) → Tells (Has rows) (IsRowOf (FitsBefore i to_end f d) names) →
      Tells (HasFit found) (Continued (HasFit (([], i ∷ []) ∷ [])) (Fit f d)) → Tells (Has new) (λ r. Has rows r ⊎ FromSome (IsRowOfFits names to_end (length d)) found r) →
      Tells (Has new) (IsRowOf (FitsBefore (i + 1) to_end f d) names)
  places_more i rows new found so_far here added = record {
    each_so = λ r h. elim (added.each_so r h) as (λ _. IsRowOf (FitsBefore (i + 1) to_end f d) names r) [
      | inl a ↦
          let b = so_far.each_so r a in
          let lt = b.1.3 in
          (b.0, (b.1.0, b.1.1, b.1.2, omega arith, b.1.4, b.1.5, b.1.6), b.2)
      | inr a ↦
          let b = a.0 in
          let e = a.2 in
          let g = here.each_so (e.0, b.0) (b.1, a.1, e.1) in
          let o = of_branch [] (i ∷ []) (g.0, g.1) g.3 in
          let place : i ≡ g.0 = elim o.1 as (λ _. i ≡ g.0) [ inl p ↦ p | inr n ↦ absurd n ] in
          let captured : b.0 ≡ g.2 = g.5 ∙ ap (λ n. n ++ g.2) (sym o.0) in
          (span_of b.0, (i, e.0, b.0, omega arith, rw captured (rw place g.4), e.2, λ x. refl), e.3)
    ];
    all_there = λ r h. added.all_there r (elim (cases_lt h.1.0 i) as (λ _. Has rows r ⊎ FromSome (IsRowOfFits names to_end (length d)) found r) [
      | inl before ↦ inl (so_far.all_there r (h.0, (h.1.0, h.1.1, h.1.2, before, h.1.4, h.1.5, h.1.6), h.2))
      | inr now ↦
          let lt : h.1.0 < i + 1 = h.1.3 in
          let e : h.1.0 ≡ i = omega arith in
          let fits = rw e at h.1.4 in
          let there = here.all_there (h.1.1, h.1.2) (i, [], h.1.2, branch_of [] (i ∷ []) (i, []) refl (inl refl), fits, refl) in
          inr ((h.1.2, there.0), there.1, (h.1.1, there.2, h.1.5, h.2 ∙ row_same names h.0 (span_of h.1.2) h.1.6))
    ]);
  }

  pub places_all : (from_start : Bool) (n : ℕ) (H : SpanRow → Type 0) →
      ((i : ℕ) → i < n → (i ≤ length d) × (IsTrue from_start → i ≡ 0)) →
      ((i : ℕ) → i ≤ length d → (IsTrue from_start → i ≡ 0) → i < n) →
      Tells H (IsRowOf (FitsBefore n to_end f d) names) → Tells H (IsRowOf (FitsSomewhere (record { from_start = from_start; to_end = to_end; formula = f }) d) names)
  places_all from_start n H only enough all = record {
    each_so = λ r h.
        let a = all.each_so r h in
        let o = only a.1.0 a.1.3 in
        (a.0, (a.1.0, a.1.1, a.1.2, a.1.4, fit_within f d a.1.0 a.1.1 a.1.2 o.0 a.1.4, o.1, a.1.5, a.1.6), a.2);
    all_there = λ r h.
        let le = fit_le f d h.1.0 h.1.1 h.1.2 h.1.3 in
        let end : h.1.1 ≤ length d = h.1.4 in
        all.all_there r (h.0, (h.1.0, h.1.1, h.1.2, enough h.1.0 (omega arith) h.1.5, h.1.3, h.1.6, h.1.7), h.2);
  }

-- ---- rows that grow by spans

pub row_pushed : (names : List VarName) (k : ℕ) (y : VarName) (m : Mapping) (row new : SpanRow) (s : Option Span) → slice_get names k ≡ Some y →
    row ≡ row_of (take k names) m → s ≡ m y → new ≡ row ++ s ∷ [] →
    new ≡ row_of (take (k + 1) names) m
row_pushed names k y m row new s at so_far is grown = grown ∙ ap (λ (r : SpanRow). r ++ s ∷ []) so_far ∙ ap (λ (o : Option Span). row_of (take k names) m ++ o ∷ []) is ∙ sym (row_more names k y m at)

pub row_whole : (names : List VarName) (k : ℕ) (m : Mapping) (row : SpanRow) → k ≡ length names → row ≡ row_of (take k names) m → row ≡ row_of names m
row_whole names k m row e is = is ∙ ap (λ (ns : List VarName). row_of ns m) (ap (λ n. take n names) e ∙ take-length names)

pub row_so_far : (names : List VarName) (k : ℕ) (m : Mapping) (row : SpanRow) → k ≤ length names → row ≡ row_of (take k names) m → length row ≡ k
row_so_far names k m row le is = ap length is ∙ row_length (take k names) m ∙ length-take-le k names le

-- ---- equal rows

pub row_eq_exact : (a b : SpanRow) → eq_by_cmp row_cmp a b ≡ true → a ≡ b
row_eq_exact a b e = by (row_cmp a b) refl e
  where
    by : (o : Ordering) → row_cmp a b ≡ o → is_eq o ≡ true → a ≡ b
    by Less r e = absurd (false≢true e)
    by Equal r e = rw r at (row_cmp_is a b)
    by Greater r e = absurd (false≢true e)

-- ---- names that were gathered

pub gathered_are : (f : Tree) (old new : List VarName) (all : Bool) → old ≡ [] → all ≡ true → OnTrue all (Adds old (HasVar f) new) → (x : VarName) → Has new x → HasVar f x
gathered_are f old new all none is added x h =
    let a : Adds old (HasVar f) new = rw is at added in
    elim ((a x).0 h) as (λ _. HasVar f x) [ inl o ↦ absurd (rw none at o) | inr v ↦ v ]

pub are_gathered : (f : Tree) (old new : List VarName) (all : Bool) → old ≡ [] → all ≡ true → OnTrue all (Adds old (HasVar f) new) → (x : VarName) → HasVar f x → Has new x
are_gathered f old new all none is added x v =
    let a : Adds old (HasVar f) new = rw is at added in
    (a x).1 (inr v)
