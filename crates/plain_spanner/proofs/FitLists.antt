-- Lists of fits, of which those with the same captures stand together.
use Rattle.std.proofs.Common.{◌≡◌, ℕ, zero, suc, ◌≤◌, ◌⊎◌, List, [], ◌∷◌, ◌++◌, length, take, Some, inl, inr, refl, sym, ap, ◌∙◌, arith, append_assoc}
use Rattle.std.specs.Prelude.{slice_get}
use Rattle.std.proofs.lemmas.List.{append-nil}
use Rattle.span_core.specs.declared.span.Span.{Span}
use Rattle.span_core.specs.OrderLaws.{span_eq}
use Rattle.span_core.specs.Lists.{Has}
use Rattle.spanner_model.specs.Captures.{VarName, Captures, AreApart}
use Rattle.spanner_model.specs.Tree.{Tree, rep, cap, cat_all, alt_all}
use Rattle.spanner_model.specs.Fit.{Piece, Then, Nothing, Times, Fit}
use Rattle.spanner_model.specs.Sequential.{HasVar, IsSequential}
use Rattle.spanner_model.proofs.FitLaws.{fit_only_vars, fit_le, fit_within}
use Rattle.span_core.proofs.HasLaws.{Has-append_left, Has-append_right, Has-append_cases}
use Rattle.plain_spanner.specs.Listed.{Tells, FromSome, EndAndCaptures, CapturesAndEnds, HasFit, Continued, EndWithin, LeadsOn, CapturedTo, CapturedAt, CapturedFrom}
use Rattle.plain_spanner.proofs.PartLists.{one_part, part_one, arm_of, of_arm, parts_apart}

-- ---- branches

pub fit_append_left : (xs ys : List CapturesAndEnds) (f : EndAndCaptures) → HasFit xs f → HasFit (xs ++ ys) f
fit_append_left xs ys f h = (h.0, Has-append_left xs ys (f.1, h.0) h.1, h.2)

pub fit_append_right : (xs ys : List CapturesAndEnds) (f : EndAndCaptures) → HasFit ys f → HasFit (xs ++ ys) f
fit_append_right xs ys f h = (h.0, Has-append_right xs ys (f.1, h.0) h.1, h.2)

pub fit_append_cases : (xs ys : List CapturesAndEnds) (f : EndAndCaptures) → HasFit (xs ++ ys) f → HasFit xs f ⊎ HasFit ys f
fit_append_cases xs ys f h = elim (Has-append_cases xs ys (f.1, h.0) h.1) as (λ _. HasFit xs f ⊎ HasFit ys f) [ inl a ↦ inl (h.0, a, h.2) | inr b ↦ inr (h.0, b, h.2) ]

pub fits_appended : (xs ys new : List CapturesAndEnds) (Q : EndAndCaptures → Type 0) → new ≡ xs ++ ys → Tells (HasFit ys) Q → Tells (HasFit new) (λ f. HasFit xs f ⊎ Q f)
fits_appended xs ys new Q is h = record {
  each_so = λ f a. elim (fit_append_cases xs ys f (rw (← is) a)) as (λ _. HasFit xs f ⊎ Q f) [ inl b ↦ inl b | inr b ↦ inr (h.each_so f b) ];
  all_there = λ f a. rw is (elim a as (λ _. HasFit (xs ++ ys) f) [
    | inl b ↦ fit_append_left xs ys f b
    | inr b ↦ fit_append_right xs ys f (h.all_there f b)
  ]);
}

-- the fits of one branch
pub of_branch : (m : Captures) (ends : List ℕ) (f : EndAndCaptures) → HasFit ((m, ends) ∷ []) f → (m ≡ f.1) × Has ends f.0
of_branch m ends f h = elim h.1 as (λ _. (m ≡ f.1) × Has ends f.0) [
  | inl e ↦ (ap (λ (b : CapturesAndEnds). b.0) e, rw (ap (λ (b : CapturesAndEnds). b.1) e) h.2)
  | inr n ↦ absurd n
]

pub branch_of : (m : Captures) (ends : List ℕ) (f : EndAndCaptures) → m ≡ f.1 → Has ends f.0 → HasFit ((m, ends) ∷ []) f
branch_of m ends f e h = (ends, inl (ap (λ (n : Captures). let b : CapturesAndEnds = (n, ends) in b) e), h)

pub no_fits : (f : EndAndCaptures) → HasFit [] f → ⊥
no_fits f h = h.1

-- ---- fits that go on

pub goes_nowhere : (firsts reached : List CapturesAndEnds) → reached ≡ firsts → Tells (HasFit reached) (Continued (HasFit firsts) Nothing)
goes_nowhere firsts reached is = record {
  each_so = λ f h. (f.0, f.1, [], rw (← is) h, (refl, refl), sym (append-nil f.1));
  all_there = λ f h.
      let e : h.1 ≡ f.1 = sym (h.5 ∙ ap (λ n. h.1 ++ n) h.4.1 ∙ append-nil h.1) in
      rw is
      (rw (← e) (rw (← h.4.0) h.3));
}

module _ (A : EndAndCaptures → Type 0) (P Q R : Piece) (to : (i j : ℕ) (m : Captures) → R i j m → Then P Q i j m) where
  pub goes_on : ((i k j : ℕ) (m n : Captures) → P i k m → Q k j n → AreApart m n) → ((i j : ℕ) (m : Captures) → Then P Q i j m → R i j m) →
      (xs ys : List CapturesAndEnds) → Tells (HasFit xs) (Continued A P) → Tells (HasFit ys) (Continued (HasFit xs) Q) → Tells (HasFit ys) (Continued A R)
  goes_on apart from xs ys first next = record {
    each_so = λ f h.
        let a = next.each_so f h in
        let b = first.each_so (a.0, a.1) a.3 in (
          b.0,
          b.1,
          b.2 ++ a.2,
          b.3,
          from b.0 f.0 (b.2 ++ a.2) (a.0, b.2, a.2, b.4, a.4, apart b.0 a.0 f.0 b.2 a.2 b.4 a.4, refl),
          a.5 ∙ ap (λ n. n ++ a.2) b.5 ∙ append_assoc b.1 b.2 a.2,
        );
    all_there = λ f h.
        let s = to h.0 f.0 h.2 h.4 in
        next.all_there f (
          s.0,
          h.1 ++ s.1,
          s.2,
          first.all_there (s.0, h.1 ++ s.1) (h.0, h.1, s.1, h.3, s.3, refl),
          s.4,
          h.5 ∙ ap (λ n. h.1 ++ n) s.6 ∙ sym (append_assoc h.1 s.1 s.2),
        );
  }

  -- where there is none none goes on
  pub goes_on_none : (xs : List CapturesAndEnds) → xs ≡ [] → Tells (HasFit xs) (Continued A P) → Tells (HasFit xs) (Continued A R)
  goes_on_none xs none first = record {
    each_so = λ f h. absurd (no_fits f (rw none at h));
    all_there = λ f h.
        let s = to h.0 f.0 h.2 h.4 in
        let here = first.all_there (s.0, h.1 ++ s.1) (h.0, h.1, s.1, h.3, s.3, refl) in
        absurd (no_fits (s.0, h.1 ++ s.1) (rw none at here));
  }

pub go_within : (A : EndAndCaptures → Type 0) (P : Piece) (n : ℕ) (xs : List CapturesAndEnds) → ((i j : ℕ) (m : Captures) → i ≤ n → P i j m → j ≤ n) → ((f : EndAndCaptures) → A f → f.0 ≤ n) →
    Tells (HasFit xs) (Continued A P) → EndWithin n xs
go_within A P n xs stays within all f h = let a = all.each_so f h in stays a.0 f.0 a.2 (within (a.0, a.1) a.3) a.4

-- ---- parts, arms and captures

-- captures of a part are none of those of the parts before it
pub turn_apart : (d : List ℕ) (ts : List Tree) (k : ℕ) (t : Tree) → slice_get ts k ≡ Some t → IsSequential (cat_all ts) →
    (i n j : ℕ) (m m' : Captures) → Fit (cat_all (take k ts)) d i n m → Fit t d n j m' → AreApart m m'
turn_apart d ts k t at ok i n j m m' p q x a b = parts_apart ts k t at ok x (fit_only_vars (cat_all (take k ts)) d i n m p x a) (fit_only_vars t d n j m' q x b)

pub arms_go_on : (d : List ℕ) (ts : List Tree) (A H : EndAndCaptures → Type 0) →
    Tells H (FromSome (λ (t : Tree) (f : EndAndCaptures). Continued A (Fit t d) f) ts) → Tells H (Continued A (Fit (alt_all ts) d))
arms_go_on d ts A H all = record {
  each_so = λ f h. let s = all.each_so f h in let a = s.2 in (a.0, a.1, a.2, a.3, of_arm d ts s.0 a.0 f.0 a.2 s.1 a.4, a.5);
  all_there = λ f h. let t = arm_of d ts h.0 f.0 h.2 h.4 in all.all_there f (t.0, t.1, (h.0, h.1, h.2, h.3, t.2, h.5));
}

-- a repetition of once at most is a fit, or where the least number is 0 nothing
at_most_one : (c : ℕ) → c ≤ 1 → (b : ℕ) → Some 1 ≡ Some b → c ≤ b
at_most_one c le b e =
    let one : 1 ≡ b = cc in omega arith

module _ (d : List ℕ) (f : Tree) where
  once : (c i j : ℕ) (m : Captures) → c ≤ 1 → Times (Fit f d) c i j m → ((c ≡ 0) × Nothing i j m) ⊎ Fit f d i j m
  once zero i j m le h = inl (refl, h)
  once (suc zero) i j m le h = inr (one_part d f i j m h)
  once (suc (suc c)) i j m le h = absurd (omega arith)

  once_is : (least i j : ℕ) (m : Captures) → Fit (rep f least (Some 1)) d i j m → ((least ≡ 0) × Nothing i j m) ⊎ Fit f d i j m
  once_is least i j m h = elim (once h.0 i j m (h.2 1 refl) h.3) as (λ _. ((least ≡ 0) × Nothing i j m) ⊎ Fit f d i j m) [
    | inl a ↦ (let le : least ≤ h.0 = h.1 in let none = a.0 in inl (omega arith, a.1))
    | inr b ↦ inr b
  ]

  is_once : (least i j : ℕ) (m : Captures) → least ≤ 1 → Fit f d i j m → Fit (rep f least (Some 1)) d i j m
  is_once least i j m le h = (1, le, at_most_one 1 (omega arith), part_one d f i j m h)

  is_none : (least i j : ℕ) (m : Captures) → least ≡ 0 → Nothing i j m → Fit (rep f least (Some 1)) d i j m
  is_none least i j m none h = (0, omega arith, at_most_one 0 (omega arith), h)

  pub goes_once : (least : ℕ) (A : EndAndCaptures → Type 0) (xs : List CapturesAndEnds) → least ≡ 1 → Tells (HasFit xs) (Continued A (Fit f d)) →
      Tells (HasFit xs) (Continued A (Fit (rep f least (Some 1)) d))
  goes_once least A xs one all = record {
    each_so = λ g h. let s = all.each_so g h in (s.0, s.1, s.2, s.3, is_once least s.0 g.0 s.2 (omega arith) s.4, s.5);
    all_there = λ g h. elim (once_is least h.0 g.0 h.2 h.4) as (λ _. HasFit xs g) [
      | inl a ↦ (let none = a.0 in absurd (omega arith))
      | inr b ↦ all.all_there g (h.0, h.1, h.2, h.3, b, h.5)
    ];
  }

  pub goes_once_or_not : (least : ℕ) (A : EndAndCaptures → Type 0) (xs none all : List CapturesAndEnds) → least ≡ 0 → all ≡ xs ++ none →
      Tells (HasFit xs) (Continued A (Fit f d)) → Tells (HasFit none) (Continued A Nothing) → Tells (HasFit all) (Continued A (Fit (rep f least (Some 1)) d))
  goes_once_or_not least A xs none all zero_least is goes stays =
      let both = fits_appended xs none all (Continued A Nothing) is stays in
      record {
        each_so = λ g h. elim (both.each_so g h) as (λ _. Continued A (Fit (rep f least (Some 1)) d) g) [
          | inl a ↦ (let s = goes.each_so g a in (s.0, s.1, s.2, s.3, is_once least s.0 g.0 s.2 (omega arith) s.4, s.5))
          | inr s ↦ (s.0, s.1, s.2, s.3, is_none least s.0 g.0 s.2 zero_least s.4, s.5)
        ];
        all_there = λ g h. both.all_there g (elim (once_is least h.0 g.0 h.2 h.4) as (λ _. HasFit xs g ⊎ Continued A Nothing g) [
          | inl a ↦ inr (h.0, h.1, h.2, h.3, a.1, h.5)
          | inr b ↦ inl (goes.all_there g (h.0, h.1, h.2, h.3, b, h.5))
        ]);
      }

-- a fit goes on from a fit of this branch
abbrev pub GoesFrom : Piece → CapturesAndEnds → EndAndCaptures → Type 0
GoesFrom P b f = (k : ℕ) × (m2 : Captures) × Has b.1 k × P k f.0 m2 × (f.1 ≡ b.0 ++ m2)

pub branches_go_on : (P : Piece) (firsts : List CapturesAndEnds) (H : EndAndCaptures → Type 0) → Tells H (FromSome (GoesFrom P) firsts) → Tells H (Continued (HasFit firsts) P)
branches_go_on P firsts H all = record {
  each_so = λ f h. let s = all.each_so f h in let g = s.2 in (g.0, s.0.0, g.1, (s.0.1, s.1, g.2), g.3, g.4);
  all_there = λ f h. all.all_there f ((h.1, h.3.0), h.3.1, (h.0, h.2, h.3.2, h.4, h.5));
}

-- a branch of a piece that captures nothing
pub bare_branch : (P : Piece) (bare : (i j : ℕ) (m : Captures) → P i j m → m ≡ []) (b : CapturesAndEnds) (later : List ℕ) →
    Tells (Has later) (LeadsOn P b.1) → Tells (HasFit ((b.0, later) ∷ [])) (GoesFrom P b)
bare_branch P bare b later all = record {
  each_so = λ f h.
      let o = of_branch b.0 later f h in
      let a = all.each_so f.0 o.1 in
      (a.0, [], a.1, a.2, sym o.0 ∙ sym (append-nil b.0));
  all_there = λ f h.
      let e : h.1 ≡ [] = bare h.0 f.0 h.1 h.3 in
      branch_of b.0 later f (sym (h.4 ∙ ap (λ n. b.0 ++ n) e ∙ append-nil b.0)) (all.all_there f.0 (h.0, h.2, rw (← e) h.3));
}

-- the fits of a capture from a place, from the fits of what it captures
pub named_from : (x : VarName) (P : Piece) (m0 : Captures) (i : ℕ) (inner : List CapturesAndEnds) → Tells (HasFit inner) (Continued (HasFit (([], i ∷ []) ∷ [])) P) →
    (f : EndAndCaptures) → (FromSome (CapturedAt x i m0) inner f → CapturedFrom x P m0 i f) × (CapturedFrom x P m0 i f → FromSome (CapturedAt x i m0) inner f)
named_from x P m0 i inner all f = (
  λ h.
      let a = all.each_so (h.2.0, h.0.0) (h.0.1, h.1, h.2.1) in
      let o = of_branch [] (i ∷ []) (a.0, a.1) a.3 in
      let place : i ≡ a.0 = elim o.1 as (λ _. i ≡ a.0) [ inl e ↦ e | inr n ↦ absurd n ] in
      let captured : h.0.0 ≡ a.2 = a.5 ∙ ap (λ n. n ++ a.2) (sym o.0) in
      (h.2.0, h.0.0, rw captured (rw place a.4), h.2.2),
  λ h.
      let here = all.all_there (h.0, h.1) (i, [], h.1, branch_of [] (i ∷ []) (i, []) refl (inl refl), h.2, refl) in
      ((h.1, here.0), here.1, (h.0, here.2, h.3)),
)

-- a capture of a piece, from the branches of the firsts
pub captures_go_on : (d : List ℕ) (x : VarName) (g : Tree) (firsts : List CapturesAndEnds) (H : EndAndCaptures → Type 0) → (HasVar g x → ⊥) →
    Tells H (FromSome (λ (b : CapturesAndEnds) (f : EndAndCaptures). FromSome (CapturedFrom x (Fit g d) b.0) b.1 f) firsts) → Tells H (Continued (HasFit firsts) (Fit (cap x g) d))
captures_go_on d x g firsts H fresh all = record {
  each_so = λ f h.
      let s = all.each_so f h in
      let b = s.0 in
      let i = s.2.0 in
      let p = s.2.2 in
      let to = p.3 in
      let j : p.0 ≡ f.0 = sym (ap (λ (e : EndAndCaptures). e.0) to.3) in
      let m : f.1 ≡ b.0 ++ (x, to.0) ∷ p.1 = ap (λ (e : EndAndCaptures). e.1) to.3 in
      let fits = rw j at p.2 in
      (i, b.0, (x, to.0) ∷ p.1, (b.1, s.1, s.2.1), (to.0, p.1, to.1, to.2 ∙ j, fits, λ a. fresh (fit_only_vars g d i f.0 p.1 fits x a), refl), m);
  all_there = λ f h.
      let c = h.4 in
      let e : f ≡ (f.0, h.1 ++ (x, c.0) ∷ c.1) = ap (λ (n : Captures). let r : EndAndCaptures = (f.0, n) in r) (h.5 ∙ ap (λ n. h.1 ++ n) c.6) in
      all.all_there f ((h.1, h.3.0), h.3.1, (h.0, h.3.2, (f.0, c.1, c.4, (c.0, c.2, c.3, e))));
}

-- a capture that ends here, of one span
pub spanned : (x : VarName) (i j : ℕ) (m0 m1 : Captures) (s : Span) → s.start ≡ i → s.end ≡ j → Tells (HasFit ((m0 ++ (x, s) ∷ m1, j ∷ []) ∷ [])) (CapturedTo x i m0 m1 j)
spanned x i j m0 m1 s start end = record {
  each_so = λ f h.
      let o = of_branch (m0 ++ (x, s) ∷ m1) (j ∷ []) f h in
      let place : j ≡ f.0 = elim o.1 as (λ _. j ≡ f.0) [ inl e ↦ e | inr n ↦ absurd n ] in
      (s, start, end, sym (λ k. (place k, o.0 k)));
  all_there = λ f h.
      let same : s ≡ h.0 = span_eq s h.0 (start ∙ sym h.1) (end ∙ sym h.2) in
      let captures : m0 ++ (x, s) ∷ m1 ≡ f.1 = ap (λ (t : Span). m0 ++ (x, t) ∷ m1) same ∙ sym (ap (λ (e : EndAndCaptures). e.1) h.3) in
      branch_of (m0 ++ (x, s) ∷ m1) (j ∷ []) f captures (inl (sym (ap (λ (e : EndAndCaptures). e.0) h.3)));
}

-- the fit of nothing at a place
pub here_within : (place n : ℕ) → place ≤ n → EndWithin n (([], place ∷ []) ∷ [])
here_within place n le f h =
    let o = of_branch [] (place ∷ []) f h in
    let e : place ≡ f.0 = elim o.1 as (λ _. place ≡ f.0) [ inl e ↦ e | inr no_more ↦ absurd no_more ] in
    omega arith

-- fits from a place end behind it, and in the document
pub inner_within : (g : Tree) (d : List ℕ) (place most : ℕ) (inner : List CapturesAndEnds) → place ≤ length d → length d ≤ most →
    Tells (HasFit inner) (Continued (HasFit (([], place ∷ []) ∷ [])) (Fit g d)) →
    (f : EndAndCaptures) → HasFit inner f → (place ≤ f.0) × (f.0 ≤ most)
inner_within g d place most inner le short all f h =
    let a = all.each_so f h in
    let o = of_branch [] (place ∷ []) (a.0, a.1) a.3 in
    let e : place ≡ a.0 = elim o.1 as (λ _. place ≡ a.0) [ inl e ↦ e | inr no_more ↦ absurd no_more ] in
    let lo = fit_le g d a.0 f.0 a.2 a.4 in
    let hi = fit_within g d a.0 f.0 a.2 (omega arith) a.4 in
    (omega arith, omega arith)

pub named_tells : (x : VarName) (P : Piece) (m0 : Captures) (i : ℕ) (inner : List CapturesAndEnds) →
    Tells (HasFit inner) (Continued (HasFit (([], i ∷ []) ∷ [])) P) → Tells (FromSome (CapturedAt x i m0) inner) (CapturedFrom x P m0 i)
named_tells x P m0 i inner all = record { each_so = λ f h. (named_from x P m0 i inner all f).0 h; all_there = λ f h. (named_from x P m0 i inner all f).1 h }
