-- Formulas that fit texts, put together.
use Rattle.std.proofs.Common.{◌≡◌, ℕ, ◌+◌, ◌↔◌, List, [], ◌∷◌, ◌++◌, refl, sym, inl, inr, ◌∙◌}
use Rattle.std.specs.Ordering.{nat_cmp}
use Rattle.std.specs.FinSet.{FinSet}
use Rattle.spanner_model.specs.Tree.{Tree, one, cat, cat_end, alt, alt_end}
use Rattle.unicode_classes.specs.Texts.{Stands, FitsTexts}
use Rattle.unicode_classes.specs.Joined.{IsByteOf, AreJoined, IsEither}

abbrev pub Texts : Type 1
Texts = List ℕ → Type 0

pub stands_append : (d : List ℕ) (u v : List ℕ) (i k j : ℕ) → Stands d i u k → Stands d k v j → Stands d i (u ++ v) j
stands_append d [] v i k j a b = rw a b
stands_append d (x ∷ u) v i k j a b = (a.0, stands_append d u v (i + 1) k j a.1 b)

pub stands_split : (d : List ℕ) (u v : List ℕ) (i j : ℕ) → Stands d i (u ++ v) j → (k : ℕ) × Stands d i u k × Stands d k v j
stands_split d [] v i j h = (i, refl, h)
stands_split d (x ∷ u) v i j h = (let r = stands_split d u v (i + 1) j h.1 in (r.0, (h.0, r.1), r.2))

-- the same texts, told otherwise
pub fits_same : (f : Tree) (A B : Texts) → ((w : List ℕ) → A w ↔ B w) → FitsTexts f A → FitsTexts f B
fits_same f A B same h d i j m = (
  λ fit. (let r = (h d i j m).0 fit in (r.0, r.1, (same r.1).0 r.2, r.3)),
  λ r. (h d i j m).1 (r.0, r.1, (same r.1).1 r.2, r.3),
)

pub fits_one : (set : FinSet nat_cmp) → FitsTexts (one set) (IsByteOf set)
fits_one set d i j m = (
  λ fit. (fit.4, fit.0 ∷ [], (fit.0, fit.2, refl), (fit.1, sym fit.3)),
  λ r. (let b = r.2.0 in let s : Stands d i (b ∷ []) j = rw (← r.2.2) at r.3 in (b, s.0, r.2.1, sym s.1, r.0)),
)

pub fits_pair : (f g : Tree) (A B : Texts) → FitsTexts f A → FitsTexts g B → FitsTexts (cat f (cat g cat_end)) (AreJoined A B)
fits_pair f g A B hf hg d i j m = (
  λ fit.
      let k = fit.0 in
      let rest = fit.4 in
      let l = rest.0 in
      let a = (hf d i k fit.1).0 fit.3 in
      let b = (hg d k l rest.1).0 rest.3 in
      let e : l ≡ j = rest.4.0 in
      let none : rest.2 ≡ [] = rest.4.1 in
      let second : fit.2 ≡ [] = rest.6 ∙ (λ t. b.0 t ++ none t) in
      (fit.6 ∙ (λ t. a.0 t ++ second t), a.1 ++ b.1, (a.1, b.1, a.2, b.2, refl), stands_append d a.1 b.1 i k j a.3 (rw (← e) b.3)),
  λ r.
      let w = r.2 in
      let s = stands_split d w.0 w.1 i j (rw w.4 r.3) in
      (s.0, [], [], (hf d i s.0 []).1 (refl, w.0, w.2, s.1), (j, [], [], (hg d s.0 j []).1 (refl, w.1, w.3, s.2), (refl, refl), (λ x a b. a), refl), (λ x a b. a), r.0),
)

pub fits_none : FitsTexts alt_end (λ _. ⊥)
fits_none d i j m = (λ fit. absurd fit, λ r. absurd r.2)

pub fits_either : (f rest : Tree) (A B : Texts) → FitsTexts f A → FitsTexts rest B → FitsTexts (alt f rest) (IsEither A B)
fits_either f rest A B hf hr d i j m = (
  λ fit. elim fit [
    | inl a ↦ (let r = (hf d i j m).0 a in (r.0, r.1, inl r.2, r.3))
    | inr b ↦ (let r = (hr d i j m).0 b in (r.0, r.1, inr r.2, r.3))
  ],
  λ r. elim r.2 [
    | inl a ↦ inl ((hf d i j m).1 (r.0, r.1, a, r.3))
    | inr b ↦ inr ((hr d i j m).1 (r.0, r.1, b, r.3))
  ],
)
