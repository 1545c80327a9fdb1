-- A byte that is put into groups, by the place of the group that takes it.
use Rattle.std.proofs.Common.{◌≡◌, ℕ, suc, ◌+◌, ◌<◌, ◌≤◌, List, [], ◌∷◌, ◌++◌, length, get_or, set, zero, sym, ap, subst, inl, inr, arith, ◌∙◌}
use Rattle.std.specs.Ordering.{nat_cmp}
use Rattle.std.specs.FinSet.{FinSet, empty, insert, union}
use Rattle.std.proofs.lemmas.Bool.{cases_lt}
use Rattle.std.proofs.lemmas.List.{get_or_default}
use Rattle.unicode_classes.specs.Grouped.{IsPut, opens, joins, later}
use Rattle.unicode_classes.specs.declared.blocks.TailGroup.{TailGroup}
use Rattle.unicode_classes.proofs.ByteLaws.{with_single}

-- the groups before a place have other tails
abbrev pub HaveOthersBelow : List TailGroup → List (ℕ × ℕ) → ℕ → Type 0
HaveOthersBelow gs tails k = (j : ℕ) (d : TailGroup) → j < k → ¬ ((get_or gs j d).tails ≡ tails)

pub put_at : (byte : ℕ) (tails : List (ℕ × ℕ)) (gs : List TailGroup) (k : ℕ) (g : TailGroup) → k < length gs → get_or gs k g ≡ g → HaveOthersBelow gs tails k → g.tails ≡ tails
    → IsPut byte tails gs (set gs k (record g { bytes = insert g.bytes byte }))
put_at byte tails [] k g l is others e = absurd (omega arith)
put_at byte tails (h ∷ gs) zero g l is others e =
    rw is (joins g gs e)
put_at byte tails (h ∷ gs) (suc k) g l is others e =
    later h (others 0 g (omega arith)) (put_at byte tails gs k g (omega arith) is (λ j d b. others (suc j) d (omega arith)) e)

pub put_end : (byte : ℕ) (tails : List (ℕ × ℕ)) (gs : List TailGroup) → HaveOthersBelow gs tails (length gs) → IsPut byte tails gs (gs ++ record { bytes = insert empty byte; tails = tails } ∷ [])
put_end byte tails [] others = opens
put_end byte tails (h ∷ gs) others = later h (others 0 h (omega arith)) (put_end byte tails gs (λ j d b. others (suc j) d (omega arith)))

-- what is read at a place does not depend on what stands past the end
one_at : (gs : List TailGroup) (k : ℕ) (g h : TailGroup) → k < length gs → g ≡ get_or gs k g → h ≡ get_or gs k h → g ≡ h
one_at gs k g h l a b = a ∙ get_or_default gs k g h l ∙ sym b

pub put_here : (byte : ℕ) (tails : List (ℕ × ℕ)) (gs start : List TailGroup) (k : ℕ) (g h m : TailGroup) (new : FinSet nat_cmp) → gs ≡ start →
    k < length gs → g ≡ get_or gs k g → h ≡ get_or gs k h → m ≡ get_or gs k m
    → HaveOthersBelow gs tails k → g.tails ≡ tails → new ≡ union h.bytes (insert empty byte) → IsPut byte tails start (set gs k (record { bytes = new; tails = m.tails }))
put_here byte tails gs start k g h m new begins l a b c others e u =
    let bytes : insert g.bytes byte ≡ new = ap (λ (x : TailGroup). insert x.bytes byte) (one_at gs k g h l a b) ∙ sym (with_single h.bytes byte) ∙ sym u in
    let same : g.tails ≡ m.tails = ap (λ (x : TailGroup). x.tails) (one_at gs k g m l a c) in
    rw (← begins)
    (rw (← grouped_is bytes same) (put_at byte tails gs k g l (sym a) others e))
  where
    grouped_is : {s t : FinSet nat_cmp} {r q : List (ℕ × ℕ)} → s ≡ t → r ≡ q → ◌≡◌ {A = TailGroup} (record { bytes = s; tails = r }) (record { bytes = t; tails = q })
    grouped_is p q = λ i. record { bytes = p i; tails = q i }

pub others_more : (gs : List TailGroup) (tails : List (ℕ × ℕ)) (k : ℕ) (g : TailGroup) → k < length gs → g ≡ get_or gs k g →
    HaveOthersBelow gs tails k → ¬ (g.tails ≡ tails) → HaveOthersBelow gs tails (k + 1)
others_more gs tails k g l is others differs j d b = elim (cases_lt j k) [
  | inl below ↦ others j d below
  | inr from ↦ (let e : j ≡ k = omega arith in
      λ same. differs (ap (λ (x : TailGroup). x.tails) (is ∙ get_or_default gs k g d l) ∙ ap (λ (i : ℕ). (get_or gs i d).tails) (sym e) ∙ same))
]

-- a new group behind all others
pub put_behind : (byte : ℕ) (tails : List (ℕ × ℕ)) (gs start new : List TailGroup) (k : ℕ) (bytes : FinSet nat_cmp) → gs ≡ start → length gs ≤ k →
    HaveOthersBelow gs tails k → bytes ≡ insert empty byte
    → new ≡ gs ++ record { bytes = bytes; tails = tails } ∷ [] → IsPut byte tails start new
put_behind byte tails gs start new k bytes begins l others b e =
    let p : IsPut byte tails gs (gs ++ record { bytes = bytes; tails = tails } ∷ []) =
    rw b (put_end byte tails gs (λ j d m. others j d (omega arith))) in
    rw (← begins) (subst (IsPut byte tails gs) (sym e) p)
