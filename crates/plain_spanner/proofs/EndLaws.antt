-- Ends, by the cases of a formula.
use Rattle.std.proofs.Common.{◌≡◌, ℕ, ◌+◌, ◌≤◌, ◌⊎◌, Bool, true, false, ◌||◌, List, [], ◌∷◌, ◌++◌, length, take, drop, Some, inl, inr, refl, sym, ap, ◌∙◌, subst, arith}
use Rattle.std.specs.Prelude.{slice_get, nat_eq, IsTrue}
use Rattle.std.specs.FinSet.{FinSet, contains}
use Rattle.std.specs.Ordering.{nat_cmp}
use Rattle.std.proofs.lemmas.Bool.Decides.{nat_tests}
use Rattle.span_core.specs.Lists.{Has}
use Rattle.spanner_model.specs.Captures.{Captures}
use Rattle.spanner_model.specs.Tree.{Tree, one, cat_all, alt_all}
use Rattle.spanner_model.specs.Fit.{Piece, Times, Nothing, Fit}
use Rattle.spanner_model.proofs.FitLaws.{fit_no_vars, fit_within, times_within}
use Rattle.spanner_model.specs.Sequential.{HasNoVar}
use Rattle.plain_spanner.specs.Listed.{Tells, FromSome, LeadsOn, LeadsIn, has_number}
use Rattle.plain_spanner.proofs.PartLists.{cat_more_split, cat_more_join, cat_begins, arm_of, of_arm}
use Rattle.plain_spanner.proofs.TellsLaws.{tells_pushed}

-- ---- numbers in lists

eq_of_test : (x j : ℕ) → nat_eq x j ≡ true → x ≡ j
eq_of_test x j h = grind (arith, nat_tests)

pub there_number : (xs : List ℕ) (j : ℕ) → has_number xs j ≡ true → Has xs j
there_number [] j h = absurd (cc)
there_number (x ∷ xs) j h = by (nat_eq x j) refl (there_number xs j)
  where
    by : (a : Bool) → nat_eq x j ≡ a → (has_number xs j ≡ true → Has xs j) → Has (x ∷ xs) j
    by true e later = inl (eq_of_test x j e)
    by false e later = inr (later (ap (λ b. b || has_number xs j) (sym e) ∙ h))

-- one end more of those that are equal to themselves
pub only_equal : (xs : List ℕ) (S H : ℕ → Type 0) → Tells H (λ j. S j ⊎ FromSome (λ (x : ℕ) (y : ℕ). x ≡ y) xs j) → Tells H (λ j. S j ⊎ Has xs j)
only_equal xs S H h = record {
  each_so = λ j a. elim (h.each_so j a) as (λ _. S j ⊎ Has xs j) [ inl s ↦ inl s | inr f ↦ inr (subst (Has xs) f.2 f.1) ];
  all_there = λ j a. h.all_there j (elim a as (λ _. S j ⊎ FromSome (λ (x : ℕ) (y : ℕ). x ≡ y) xs j) [ inl s ↦ inl s | inr f ↦ inr (j, f, refl) ]);
}

-- ---- one byte

pub byte_there : (set : FinSet nat_cmp) (d : List ℕ) (i b : ℕ) (ends : List ℕ) → slice_get d i ≡ Some b → IsTrue (contains set b) →
    Tells (Has (ends ++ (i + 1) ∷ [])) (λ j. Has ends j ⊎ Fit (one set) d i j [])
byte_there set d i b ends at is = tells_pushed (λ j. Fit (one set) d i j []) ends (i + 1) (λ j f. sym f.3) (b, at, is, refl, refl)

-- ---- the parts in turn

module _ (d : List ℕ) (ts : List Tree) (k : ℕ) (t : Tree) (at : slice_get ts k ≡ Some t) where
  nothing_of : (P : Piece) (i j : ℕ) (m : Captures) → ((i j : ℕ) (m : Captures) → P i j m → m ≡ []) → P i j m → P i j []
  nothing_of P i j m bare p = rw (← bare i j m p) p

  pub turn_splits : HasNoVar (cat_all (take k ts)) → HasNoVar t → (i j : ℕ) → Fit (cat_all (take (k + 1) ts)) d i j [] → (n : ℕ) × Fit (cat_all (take k ts)) d i n [] × Fit t d n j []
  turn_splits firsts bare i j h =
      let s = cat_more_split d ts k t i j [] at h in (
        s.0,
        nothing_of (Fit (cat_all (take k ts)) d) i s.0 s.1 (λ i j m. fit_no_vars (cat_all (take k ts)) d i j m firsts) s.3,
        nothing_of (Fit t d) s.0 j s.2 (λ i j m. fit_no_vars t d i j m bare) s.4,
      )

  pub turn_joins : (i n j : ℕ) → Fit (cat_all (take k ts)) d i n [] → Fit t d n j [] → Fit (cat_all (take (k + 1) ts)) d i j []
  turn_joins i n j p q = cat_more_join d ts k t i j [] at (n, [], [], p, q, λ x a b. a, refl)

pub turn_begins : (d : List ℕ) (ts : List Tree) (k : ℕ) → HasNoVar (cat_all ts) → (i j : ℕ) → Fit (cat_all ts) d i j [] →
    (n : ℕ) × Fit (cat_all (take k ts)) d i n [] × ((m : Captures) × Fit (cat_all (drop k ts)) d n j m)
turn_begins d ts k bare i j h =
    let s = cat_begins d ts k i j [] h in
    (s.0, rw (front_nil s.1 s.2 s.6) at s.3, (s.2, s.4))
  where
    front_nil : (m n : Captures) → [] ≡ m ++ n → m ≡ []
    front_nil [] n e = refl
    front_nil (c ∷ m) n e = absurd (cc)

-- ---- the arms

pub arms_done : (d : List ℕ) (ts : List Tree) (starts : List ℕ) (H : ℕ → Type 0) →
    Tells H (FromSome (λ (t : Tree) (j : ℕ). LeadsOn (Fit t d) starts j) ts) → Tells H (LeadsOn (Fit (alt_all ts) d) starts)
arms_done d ts starts H h = record {
  each_so = λ j a. let f = h.each_so j a in (f.2.0, f.2.1, of_arm d ts f.0 f.2.0 j [] f.1 f.2.2);
  all_there = λ j a. let t = arm_of d ts a.0 j [] a.2 in h.all_there j (t.0, t.1, (a.0, a.1, t.2));
}

-- ---- starts, and where none follows

pub leads_nothing : (starts xs : List ℕ) → xs ≡ starts → Tells (Has xs) (LeadsOn Nothing starts)
leads_nothing starts xs is = record {
  each_so = λ j h. (j, rw (← is) h, (refl, refl));
  all_there = λ j h. rw is (subst (Has starts) h.2.0 h.1);
}

pub times_stay : (f : Tree) (d : List ℕ) (c i j : ℕ) → i ≤ length d → Times (Fit f d) c i j [] → j ≤ length d
times_stay f d c i j le h = times_within (Fit f d) (length d) (λ i j m. fit_within f d i j m) c i j [] le h

pub rounds_within : (f : Tree) (d starts reached : List ℕ) (least more : ℕ) → ((k : ℕ) → Has starts k → k ≤ length d) →
    Tells (Has reached) (LeadsIn (Fit f d) least more starts) → (k : ℕ) → Has reached k → k ≤ length d
rounds_within f d starts reached least more within all k h = let a = all.each_so k h in times_stay f d a.0 a.3.0 k (within a.3.0 a.3.1) a.3.2

pub number_added : (ends : List ℕ) (j : ℕ) → Has ends j → Tells (Has ends) (λ k. Has ends k ⊎ (j ≡ k))
number_added ends j here = record {
  each_so = λ k h. inl h;
  all_there = λ k h. elim h as (λ _. Has ends k) [ inl a ↦ a | inr e ↦ subst (Has ends) e here ];
}
