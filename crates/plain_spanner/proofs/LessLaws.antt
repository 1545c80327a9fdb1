-- The rows of one list that are none of another.
use Rattle.std.proofs.Common.{◌≡◌, ℕ, ◌+◌, ◌<◌, ◌≤◌, ◌⊎◌, true, List, [], ◌∷◌, ◌++◌, length, take, get_or, inl, inr, refl, sym, subst, ◌∙◌}
use Rattle.std.specs.Ordering.{eq_by_cmp}
use Rattle.std.proofs.lemmas.Cmp.{eq_by_cmp_equiv}
use Rattle.std.proofs.lemmas.List.{take_all}
use Rattle.span_core.specs.Comparison.{row_cmp}
use Rattle.span_core.specs.ComparisonLaws.{row_cmp_total}
use Rattle.span_core.specs.Lists.{Has}
use Rattle.span_core.proofs.HasLaws.{Has-append_cases, Has-append_left, Has-append_right, Has-take_more_before, Has-take_more_cases, Has-take_more_here}
use Rattle.spanner_model.specs.Answers.{SpanRow}
use Rattle.plain_spanner.specs.Listed.{Tells}
use Rattle.plain_spanner.specs.Tables.{IsLeft}

pub row_eq_itself : (r : SpanRow) → eq_by_cmp row_cmp r r ≡ true
row_eq_itself r = (eq_by_cmp_equiv row_cmp_total).refl r

pub none_more : (rows : List SpanRow) (i : ℕ) (x r : SpanRow) → i < length rows → x ≡ get_or rows i x → (x ≡ r → ⊥) → (Has (take i rows) r → ⊥) → Has (take (i + 1) rows) r → ⊥
none_more rows i x r l is off before h = elim (Has-take_more_cases rows i x r l h) as (λ _. ⊥) [ inl a ↦ before a | inr e ↦ off (is ∙ e) ]

pub left_none : (rights : List SpanRow) (rows : List SpanRow) → rows ≡ [] → Tells (Has rows) (IsLeft [] rights)
left_none rights rows e = record { each_so = λ r h. absurd (rw e at h); all_there = λ r h. absurd h.0 }

pub left_more : (lefts rights : List SpanRow) (i : ℕ) (x y : SpanRow) (old new : List SpanRow) → i < length lefts → x ≡ get_or lefts i x → y ≡ x → Tells (Has old) (IsLeft (take i lefts) rights) →
    ((r : SpanRow) → Has old r → Has new r) → ((r : SpanRow) → Has new r → Has old r ⊎ ((r ≡ y) × (Has rights r → ⊥))) → ((Has rights y → ⊥) → Has new y) →
    Tells (Has new) (IsLeft (take (i + 1) lefts) rights)
left_more lefts rights i x y old new l is same t kept only added = record {
  each_so = λ r h. elim (only r h) as (λ _. IsLeft (take (i + 1) lefts) rights r) [
    | inl o ↦ let s = t.each_so r o in (Has-take_more_before lefts i r l s.0, s.1)
    | inr e ↦ (Has-take_more_here lefts i x r l (sym is ∙ sym (e.0 ∙ same)), e.1)
  ];
  all_there = λ r h. elim (Has-take_more_cases lefts i x r l h.0) as (λ _. Has new r) [
    | inl a ↦ kept r (t.all_there r (a, h.1))
    | inr e ↦ let at : y ≡ r = same ∙ (is ∙ e) in subst (Has new) at (added (λ k. h.1 (subst (Has rights) at k)))
  ];
}

pub left_all : (lefts rights rows : List SpanRow) (i : ℕ) → length lefts ≤ i → Tells (Has rows) (IsLeft (take i lefts) rights) → Tells (Has rows) (IsLeft lefts rights)
left_all lefts rights rows i past t = rw (← take_all i lefts past) t

pub pushed_kept : (old new : List SpanRow) (x : SpanRow) → new ≡ old ++ x ∷ [] → (r : SpanRow) → Has old r → Has new r
pushed_kept old new x e r h = rw e (Has-append_left old (x ∷ []) r h)

pub pushed_has : (old new : List SpanRow) (x : SpanRow) → new ≡ old ++ x ∷ [] → Has new x
pushed_has old new x e = rw e (Has-append_right old (x ∷ []) x (inl refl))

pub pushed_only : (old new rights : List SpanRow) (x : SpanRow) → new ≡ old ++ x ∷ [] → (Has rights x → ⊥) → (r : SpanRow) → Has new r → Has old r ⊎ ((r ≡ x) × (Has rights r → ⊥))
pushed_only old new rights x e none r h =
    elim (Has-append_cases old (x ∷ []) r (rw (← e) h)) as (λ _. Has old r ⊎ ((r ≡ x) × (Has rights r → ⊥))) [
      | inl a ↦ inl a
      | inr b ↦ elim b as (λ _. Has old r ⊎ ((r ≡ x) × (Has rights r → ⊥))) [ inl same ↦ inr (sym same, rw (← same) none) | inr n ↦ absurd n ]
    ]
