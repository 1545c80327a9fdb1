-- Fits of the parts of a concatenation, and of the arms of an alternation.
use Rattle.std.proofs.Common.{◌≡◌, ℕ, zero, suc, ◌+◌, List, [], ◌∷◌, ◌++◌, take, drop, Some, inl, inr, refl, sym, ap, ◌∙◌, subst, append_assoc}
use Rattle.std.specs.Prelude.{slice_get}
use Rattle.std.proofs.lemmas.List.{take-append-drop, append-nil}
use Rattle.span_core.specs.Lists.{Has}
use Rattle.spanner_model.specs.Captures.{Captures, AreApart}
use Rattle.spanner_model.specs.Tree.{Tree, cat_all, alt_all}
use Rattle.spanner_model.specs.Fit.{Then, Fit}
use Rattle.spanner_model.specs.Sequential.{IsSequential, HaveApartVars}
use Rattle.spanner_model.proofs.CapturesLaws.{Captured-append_left, Captured-append_right, Captured-append_cases}
use Rattle.span_core.proofs.HasLaws.{Has-slice_get}
use Rattle.spanner_model.proofs.TreeLaws.{take_at_more, part_has}

module _ (d : List ℕ) where
  -- the first parts and then the others
  pub cat_split : (xs ys : List Tree) (i j : ℕ) (m : Captures) → Fit (cat_all (xs ++ ys)) d i j m → Then (Fit (cat_all xs) d) (Fit (cat_all ys) d) i j m
  cat_split [] ys i j m h = (i, [], m, (refl, refl), h, λ x a b. a, refl)
  cat_split (f ∷ xs) ys i j m h =
      let r = cat_split xs ys h.0 j h.2 h.4 in
      let apart : AreApart h.1 (r.1 ++ r.2) = subst (AreApart h.1) r.6 h.5 in (
        r.0,
        h.1 ++ r.1,
        r.2,
        (h.0, h.1, r.1, h.3, r.3, λ x a b. apart x a (Captured-append_left r.1 r.2 x b), refl),
        r.4,
        λ x a b. elim (Captured-append_cases h.1 r.1 x a) [
          | inl c ↦ apart x c (Captured-append_right r.1 r.2 x b)
          | inr c ↦ r.5 x c b
        ],
        h.6 ∙ ap (λ n. h.1 ++ n) r.6 ∙ sym (append_assoc h.1 r.1 r.2),
      )

  pub cat_join : (xs ys : List Tree) (i j : ℕ) (m : Captures) → Then (Fit (cat_all xs) d) (Fit (cat_all ys) d) i j m → Fit (cat_all (xs ++ ys)) d i j m
  cat_join [] ys i j m h = rw (h.6 ∙ ap (λ n. n ++ h.2) h.3.1) (rw h.3.0 h.4)
  cat_join (f ∷ xs) ys i j m h =
      let g = h.3 in
      let apart : AreApart (g.1 ++ g.2) h.2 = rw (← g.6) h.5 in
      let rest = cat_join xs ys g.0 j (g.2 ++ h.2) (h.0, g.2, h.2, g.4, h.4, λ x a b. apart x (Captured-append_right g.1 g.2 x a) b, refl) in (
        g.0,
        g.1,
        g.2 ++ h.2,
        g.3,
        rest,
        λ x a b. elim (Captured-append_cases g.2 h.2 x b) [
          | inl c ↦ g.5 x a c
          | inr c ↦ apart x (Captured-append_left g.1 g.2 x a) c
        ],
        h.6 ∙ ap (λ n. n ++ h.2) g.6 ∙ append_assoc g.1 g.2 h.2,
      )

  pub one_part : (t : Tree) (i j : ℕ) (m : Captures) → Fit (cat_all (t ∷ [])) d i j m → Fit t d i j m
  one_part t i j m h =
      let e : m ≡ h.1 = h.6 ∙ ap (λ n. h.1 ++ n) h.4.1 ∙ append-nil h.1 in
      rw e (rw (← h.4.0) h.3)

  pub part_one : (t : Tree) (i j : ℕ) (m : Captures) → Fit t d i j m → Fit (cat_all (t ∷ [])) d i j m
  part_one t i j m h = (j, m, [], h, (refl, refl), λ x a b. b, sym (append-nil m))

  -- the parts so far, and one more
  pub cat_more_split : (ts : List Tree) (k : ℕ) (t : Tree) (i j : ℕ) (m : Captures) → slice_get ts k ≡ Some t →
      Fit (cat_all (take (k + 1) ts)) d i j m → Then (Fit (cat_all (take k ts)) d) (Fit t d) i j m
  cat_more_split ts k t i j m at h =
      let s = cat_split (take k ts) (t ∷ []) i j m (rw (← take_at_more ts k t at) h) in
      (s.0, s.1, s.2, s.3, one_part t s.0 j s.2 s.4, s.5, s.6)

  pub cat_more_join : (ts : List Tree) (k : ℕ) (t : Tree) (i j : ℕ) (m : Captures) → slice_get ts k ≡ Some t →
      Then (Fit (cat_all (take k ts)) d) (Fit t d) i j m → Fit (cat_all (take (k + 1) ts)) d i j m
  cat_more_join ts k t i j m at h =
      rw (take_at_more ts k t at) (cat_join (take k ts) (t ∷ []) i j m (h.0, h.1, h.2, h.3, part_one t h.0 j h.2 h.4, h.5, h.6))

  -- the parts so far begin each fit of all
  pub cat_begins : (ts : List Tree) (k i j : ℕ) (m : Captures) → Fit (cat_all ts) d i j m → Then (Fit (cat_all (take k ts)) d) (Fit (cat_all (drop k ts)) d) i j m
  cat_begins ts k i j m h = cat_split (take k ts) (drop k ts) i j m (rw (take-append-drop k ts) h)

  -- the arms
  pub arm_of : (ts : List Tree) (i j : ℕ) (m : Captures) → Fit (alt_all ts) d i j m → (t : Tree) × Has ts t × Fit t d i j m
  arm_of [] i j m h = absurd h
  arm_of (t ∷ ts) i j m (inl h) = (t, inl refl, h)
  arm_of (t ∷ ts) i j m (inr h) = let r = arm_of ts i j m h in (r.0, inr r.1, r.2)

  pub of_arm : (ts : List Tree) (t : Tree) (i j : ℕ) (m : Captures) → Has ts t → Fit t d i j m → Fit (alt_all ts) d i j m
  of_arm [] t i j m has h = absurd has
  of_arm (u ∷ ts) t i j m (inl e) h = inl (rw e h)
  of_arm (u ∷ ts) t i j m (inr has) h = inr (of_arm ts t i j m has h)

-- a part has no variable of those before it
pub parts_apart : (ts : List Tree) (k : ℕ) (t : Tree) → slice_get ts k ≡ Some t → IsSequential (cat_all ts) → HaveApartVars (cat_all (take k ts)) t
parts_apart [] k t at ok x a b = absurd (cc)
parts_apart (u ∷ ts) zero t at ok x a b = a
parts_apart (u ∷ ts) (suc k) t at ok x (inl a) b = ok.2 x a (part_has ts t x (Has-slice_get ts k t at) b)
parts_apart (u ∷ ts) (suc k) t at ok x (inr a) b = parts_apart ts k t at ok.1 x a b
