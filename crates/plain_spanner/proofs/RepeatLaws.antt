-- Repetition of pieces that capture nothing.
use Rattle.std.proofs.Common.{◌≡◌, ℕ, zero, suc, ◌+◌, ◌-◌, ◌≤◌, ◌⊎◌, List, [], ◌++◌, length, take, drop, Option, inl, inr, refl, ap, ◌∙◌, subst, arith}
use Rattle.std.specs.Option.{ForSome}
use Rattle.std.proofs.Math.Seq.{take-length}
use Rattle.std.proofs.lemmas.Bool.{cases_lt}
use Rattle.std.proofs.lemmas.List.{take-append-drop, take_at}
use Rattle.span_core.specs.Lists.{Has, IsPrefixOf}
use Rattle.spanner_model.specs.Captures.{Captures}
use Rattle.spanner_model.specs.Fit.{Piece, Times}
use Rattle.spanner_model.proofs.ExampleLaws.{more_times}
use Rattle.span_core.proofs.HasLaws.{Has-append_left, Has-append_right, Has-append_cases}
use Rattle.plain_spanner.specs.Listed.{Tells, LeadsOn, LeadsTimes, LeadsIn}

module _ (P : Piece) (bare : (i j : ℕ) (m : Captures) → P i j m → m ≡ []) where
  pub times_bare : (c i j : ℕ) (m : Captures) → Times P c i j m → m ≡ []
  times_bare zero i j m h = h.1
  times_bare (suc c) i j m h = let a = bare i h.0 h.1 h.3 in let b = times_bare c h.0 j h.2 h.4 in h.6 ∙ ap (λ n. n ++ h.2) a ∙ b

  -- the first piece and the others
  first_bare : (c i j : ℕ) → Times P (suc c) i j [] → (k : ℕ) × P i k [] × Times P c k j []
  first_bare c i j h =
      (h.0, rw (← bare i h.0 h.1 h.3) h.3, rw (← times_bare c h.0 j h.2 h.4) h.4)

  pub times_snoc : (c i k j : ℕ) → Times P c i k [] → P k j [] → Times P (suc c) i j []
  times_snoc zero i k j h p = more_times P zero i j j (rw h.0 p) (refl, refl)
  times_snoc (suc c) i k j h p = let f = first_bare c i k h in more_times P (suc c) i f.0 j f.1 (times_snoc c f.0 k j f.2 p)

  pub times_unsnoc : (c i j : ℕ) → Times P (suc c) i j [] → (k : ℕ) × Times P c i k [] × P k j []
  times_unsnoc zero i j h = let f = first_bare zero i j h in (i, (refl, refl), rw (← f.2.0) f.1)
  times_unsnoc (suc c) i j h =
      let f = first_bare (suc c) i j h in
      let r = times_unsnoc c f.0 j f.2 in
      (r.0, more_times P c i f.0 r.0 f.1 r.1, r.2)

  -- a part of the pieces, and the rest
  pub times_split : (a b i j : ℕ) → Times P (a + b) i j [] → (k : ℕ) × Times P a i k [] × Times P b k j []
  times_split zero b i j h = (i, (refl, refl), let e : 0 + b ≡ b = omega arith in rw (← e) h)
  times_split (suc a) b i j h =
      let e : suc a + b ≡ suc (a + b) = omega arith in
      let f = first_bare (a + b) i j (rw e at h) in
      let r = times_split a b f.0 j f.2 in
      (r.0, more_times P a i f.0 r.0 f.1 r.1, r.2)

  times_join : (a b i k j : ℕ) → Times P a i k [] → Times P b k j [] → Times P (a + b) i j []
  times_join zero b i k j h g =
      let e : b ≡ 0 + b = omega arith in rw (← e) (rw h.0 g)
  times_join (suc a) b i k j h g =
      let e : suc (a + b) ≡ suc a + b = omega arith in
      let f = first_bare a i k h in
      rw (← e) (more_times P (a + b) i f.0 j f.1 (times_join a b f.0 k j f.2 g))

  -- the pieces so far begin more of them
  pub times_begin : (c count i j : ℕ) → c ≤ count → Times P count i j [] → (k : ℕ) × Times P c i k [] × Times P (count - c) k j []
  times_begin c count i j le h =
      let e : count ≡ c + (count - c) = omega arith in
      times_split c (count - c) i j (rw e at h)

module _ (P : Piece) (bare : (i j : ℕ) (m : Captures) → P i j m → m ≡ []) (le : (i j : ℕ) (m : Captures) → P i j m → i ≤ j) where
  -- empty pieces can be left out
  fewer : (c i j : ℕ) → Times P c i j [] → (b : ℕ) × (b ≤ c) × (b + i ≤ j) × Times P b i j []
  fewer zero i j h = (0, omega arith, omega arith, h)
  fewer (suc c) i j h =
      let f = first_bare P bare c i j h in
      let r = fewer c f.0 j f.2 in
      let l : i ≤ f.0 = le i f.0 [] f.1 in
      let p = r.1 in let q = r.2 in
      elim (cases_lt i f.0) as (λ _. (b : ℕ) × (b ≤ suc c) × (b + i ≤ j) × Times P b i j []) [
        | inl some ↦ (suc r.0, omega arith, omega arith, more_times P r.0 i f.0 j f.1 r.3)
        | inr none ↦ (r.0, omega arith, omega arith, let e : f.0 ≡ i = omega arith in subst (λ n. Times P r.0 n j []) e r.3)
      ]

  -- the ends after the least number, and then at most so many further pieces, are all ends
  pub lists_repeat : (least more n : ℕ) (most : Option ℕ) (starts first : List ℕ) (H : ℕ → Type 0) →
      ((i j c : ℕ) → Has starts i → Times P c i j [] → j ≤ n) →
      ForSome most (λ b. least + more ≤ b) → ((c : ℕ) → c ≤ n → ForSome most (λ b. least + c ≤ b) → c ≤ more) →
      Tells (Has first) (LeadsTimes P least starts) → Tells H (LeadsIn P 0 more first) →
      Tells H (LeadsOn (λ i j m. (c : ℕ) × (least ≤ c) × ForSome most (λ b. c ≤ b) × Times P c i j m) starts)
  lists_repeat least more n most starts first H stays capped enough firsts all = record {
    each_so = λ j h.
        let a = all.each_so j h in
        let f = firsts.each_so a.3.0 a.3.1 in
        let hi = a.2 in
        let lo : least ≤ least + a.0 = omega arith in
        (f.0, f.1, (least + a.0, lo, λ b is. let q : least + more ≤ b = capped b is in omega arith, times_join P bare least a.0 f.0 a.3.0 j f.2 a.3.2));
    all_there = λ j h.
        let r = h.2 in
        let lo : least ≤ r.0 = r.1 in
        let s = times_begin P bare least r.0 h.0 j lo r.3 in
        let f = fewer (r.0 - least) s.0 j s.2 in
        let end : j ≤ n = stays h.0 j r.0 h.1 r.3 in
        let f1 : f.0 ≤ r.0 - least = f.1 in
        let f2 : f.0 + s.0 ≤ j = f.2 in
        let few : f.0 ≤ more = enough f.0 (omega arith) (λ b is. let hi : r.0 ≤ b = r.2 b is in omega arith) in
        all.all_there j (f.0, omega arith, omega arith, (s.0, firsts.all_there s.0 (h.0, h.1, s.1), f.3));
  }

-- ends of pieces one after another
module _ (P Q R : Piece) (to : (i j : ℕ) → R i j [] → (k : ℕ) × P i k [] × Q k j []) (from : (i k j : ℕ) → P i k [] → Q k j [] → R i j []) where
  pub leads_then : (starts xs : List ℕ) (H : ℕ → Type 0) → Tells (Has xs) (LeadsOn P starts) → Tells H (LeadsOn Q xs) → Tells H (LeadsOn R starts)
  leads_then starts xs H first next = record {
    each_so = λ j h. let a = next.each_so j h in let b = first.each_so a.0 a.1 in (b.0, b.1, from b.0 a.0 j b.2 a.2);
    all_there = λ j h. let s = to h.0 j h.2 in next.all_there j (s.0, first.all_there s.0 (h.0, h.1, s.1), s.2);
  }

-- where no end was reached none follows
pub leads_none : (P Q R : Piece) → ((i j : ℕ) → R i j [] → (k : ℕ) × P i k [] × Q k j []) → (starts xs : List ℕ) → xs ≡ [] → Tells (Has xs) (LeadsOn P starts) → Tells (Has xs) (LeadsOn R starts)
leads_none P Q R to starts xs none first = record {
  each_so = λ j h. absurd (rw none at h);
  all_there = λ j h. let s = to h.0 j h.2 in let here = first.all_there s.0 (h.0, h.1, s.1) in absurd (rw none at here);
}

pub leads_within : (P : Piece) (n : ℕ) (starts xs : List ℕ) → ((i j : ℕ) → i ≤ n → P i j [] → j ≤ n) → ((k : ℕ) → Has starts k → k ≤ n) → Tells (Has xs) (LeadsOn P starts) → (k : ℕ) → Has xs k → k ≤ n
leads_within P n starts xs stays within all k h = let a = all.each_so k h in stays a.0 k (within a.0 a.1) a.2

-- ---- rounds that go on from each end once

Has-begins : (xs ys : List ℕ) (x : ℕ) → IsPrefixOf xs ys → Has xs x → Has ys x
Has-begins xs ys x b h = rw b.joined (Has-append_left xs b.rest x h)

take_begins : (xs ys : List ℕ) → IsPrefixOf xs ys → take (length xs) ys ≡ xs
take_begins xs ys b = ap (take (length xs)) b.joined ∙ take_at xs b.rest (length xs) refl

pub Has-drop : (xs : List ℕ) (k x : ℕ) → Has (drop k xs) x → Has xs x
Has-drop xs k x h = rw (← take-append-drop k xs) (Has-append_right (take k xs) (drop k xs) x h)

-- a fit from one of the first `done` ends leads to an end that was reached
abbrev pub Closed : Piece → ℕ → List ℕ → Type 0
Closed P done reached = (j : ℕ) → LeadsOn P (take done reached) j → Has reached j

module _ (P : Piece) (bare : (i j : ℕ) (m : Captures) → P i j m → m ≡ []) (starts : List ℕ) where
  pub rounds_none : (H : ℕ → Type 0) → Tells H (λ j. Has [] j ⊎ Has starts j) → Tells H (LeadsIn P 0 0 starts)
  rounds_none H all = record {
    each_so = λ j h. elim (all.each_so j h) as (λ _. LeadsIn P 0 0 starts j) [ inl n ↦ absurd n | inr a ↦ (0, omega arith, omega arith, (j, a, (refl, refl))) ];
    all_there = λ j h.
        let lo = h.2 in
        let e : h.0 ≡ 0 = omega arith in
        let t = rw e at h.3.2 in
        all.all_there j (inr (subst (Has starts) t.0 h.3.1));
  }

  pub closed_none : (reached : List ℕ) → Closed P 0 reached
  closed_none reached j h = absurd h.1

  pub closed_more : (done : ℕ) (reached next grown : List ℕ) → Closed P done reached → IsPrefixOf reached grown →
      Tells (Has next) (LeadsOn P (drop done reached)) → Tells (Has grown) (λ j. Has reached j ⊎ Has next j) →
      Closed P (length reached) grown
  closed_more done reached next grown closed begins on all j h =
      let whole = rw (take_begins reached grown begins) at h.1 in
      let parts = rw (← (take-append-drop done reached)) at whole in
      elim (Has-append_cases (take done reached) (drop done reached) h.0 parts) as (λ _. Has grown j) [
        | inl a ↦ all.all_there j (inl (closed j (h.0, a, h.2)))
        | inr a ↦ all.all_there j (inr (on.all_there j (h.0, a, h.2)))
      ]

  pub rounds_more : (c done : ℕ) (reached next grown : List ℕ) → Tells (Has reached) (LeadsIn P 0 c starts) → Closed P done reached →
      IsPrefixOf reached grown → Tells (Has next) (LeadsOn P (drop done reached)) →
      Tells (Has grown) (λ j. Has reached j ⊎ Has next j) → Tells (Has grown) (LeadsIn P 0 (c + 1) starts)
  rounds_more c done reached next grown so_far closed begins on all = record {
    each_so = λ j h. elim (all.each_so j h) as (λ _. LeadsIn P 0 (c + 1) starts j) [
      | inl a ↦ let r = so_far.each_so j a in let hi = r.2 in (r.0, omega arith, omega arith, r.3)
      | inr b ↦
          let a = on.each_so j b in
          let r = so_far.each_so a.0 (Has-drop reached done a.0 a.1) in
          let hi = r.2 in
          (suc r.0, omega arith, omega arith, (r.3.0, r.3.1, times_snoc P bare r.0 r.3.0 a.0 j r.3.2 a.2))
    ];
    all_there = λ j h. there j h.0 h.3.0 h.2 h.3.1 h.3.2;
  }
    where
      before : (k e i : ℕ) → e ≤ c → Has starts i → Times P e i k [] → Has reached k
      before k e i le s t = so_far.all_there k (e, omega arith, omega arith, (i, s, t))

      there : (j e i : ℕ) → e ≤ 0 + (c + 1) → Has starts i → Times P e i j [] → Has grown j
      there j zero i hi s t = Has-begins reached grown j begins (before j 0 i (omega arith) s t)
      there j (suc e) i hi s t =
          let u = times_unsnoc P bare e i j t in
          let k = before u.0 e i (omega arith) s u.1 in
          let k' = rw (← (take_begins reached grown begins)) at k in
          closed_more done reached next grown closed begins on all j (u.0, k', u.2)

  -- where each end was gone on from, more rounds lead to no other
  pub rounds_done : (c most done : ℕ) (reached : List ℕ) → c ≤ most → done ≡ length reached → Tells (Has reached) (LeadsIn P 0 c starts) →
      Closed P done reached → Tells (Has reached) (LeadsIn P 0 most starts)
  rounds_done c most done reached le is so_far closed = record {
    each_so = λ j h. let r = so_far.each_so j h in let hi = r.2 in (r.0, omega arith, omega arith, r.3);
    all_there = λ j h. there j h.0 h.3.0 h.3.1 h.3.2;
  }
    where
      there : (j e i : ℕ) → Has starts i → Times P e i j [] → Has reached j
      there j zero i s t = so_far.all_there j (0, omega arith, omega arith, (i, s, t))
      there j (suc e) i s t =
          let u = times_unsnoc P bare e i j t in
          let k = there u.0 e i s u.1 in
          let whole : take done reached ≡ reached = ap (λ n. take n reached) is ∙ take-length reached in
          closed j (u.0, rw whole k, u.2)
