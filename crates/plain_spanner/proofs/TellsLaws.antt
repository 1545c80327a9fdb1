-- Lists that have what a property is true of, and nothing else, as loops make them.
use Rattle.std.specs.Prelude.{nat_eq}
use Rattle.std.proofs.lemmas.Bool.{false≢true}
use Rattle.std.proofs.lemmas.Bool.Decides.{nat_tests}
use Rattle.std.proofs.Common.{Result, Ok, Err, IfOk, ◌≡◌, true, false, ℕ, ◌+◌, ◌<◌, ◌≤◌, ◌⊎◌, List, [], ◌∷◌, ◌++◌, length, get_or, take, inl, inr, refl, sym, ap, ◌∙◌, subst, arith}
use Rattle.std.proofs.Math.Seq.{take-length}
use Rattle.span_core.specs.Lists.{Has}
use Rattle.span_core.proofs.HasLaws.{Has-append_left, Has-append_right, Has-append_cases, Has-take_more_cases, Has-take_more_before, Has-take_more_here}
use Rattle.plain_spanner.specs.Listed.{Tells, FromSome}

module _ {X : Type 0} where
  pub tells_same : (H Q R : X → Type 0) → ((x : X) → Q x → R x) → ((x : X) → R x → Q x) → Tells H Q → Tells H R
  tells_same H Q R to back h = record { each_so = λ x a. to x (h.each_so x a); all_there = λ x a. h.all_there x (back x a) }

  -- the same of two descriptions of one list
  pub tells_through : (G H Q : X → Type 0) → ((x : X) → G x → H x) → ((x : X) → H x → G x) → Tells H Q → Tells G Q
  tells_through G H Q to back h = record { each_so = λ x a. h.each_so x (to x a); all_there = λ x a. back x (h.all_there x a) }

  pub tells_pushed : (Q : X → Type 0) (xs : List X) (x : X) → ((y : X) → Q y → x ≡ y) → Q x → Tells (Has (xs ++ x ∷ [])) (λ y. Has xs y ⊎ Q y)
  tells_pushed Q xs x only here = record {
    each_so = λ y h. elim (Has-append_cases xs (x ∷ []) y h) as (λ _. Has xs y ⊎ Q y) [
      | inl a ↦ inl a
      | inr b ↦ elim b as (λ _. Has xs y ⊎ Q y) [ inl e ↦ inr (subst Q e here) | inr n ↦ absurd n ]
    ];
    all_there = λ y h. elim h as (λ _. Has (xs ++ x ∷ []) y) [
      | inl a ↦ Has-append_left xs (x ∷ []) y a
      | inr q ↦ Has-append_right xs (x ∷ []) y (inl (only y q))
    ];
  }

  pub tells_unchanged : (H Q : X → Type 0) → ((y : X) → Q y → ⊥) → Tells H (λ y. H y ⊎ Q y)
  tells_unchanged H Q none = record {
    each_so = λ y h. inl h;
    all_there = λ y h. elim h as (λ _. H y) [ inl a ↦ a | inr q ↦ absurd (none y q) ];
  }

  pub tells_both : (xs ys new : List X) (Q R : X → Type 0) → new ≡ xs ++ ys → Tells (Has xs) Q → Tells (Has ys) R → Tells (Has new) (λ y. Q y ⊎ R y)
  tells_both xs ys new Q R is first next = record {
    each_so = λ y a. elim (Has-append_cases xs ys y (rw (← is) a)) as (λ _. Q y ⊎ R y) [ inl b ↦ inl (first.each_so y b) | inr b ↦ inr (next.each_so y b) ];
    all_there = λ y a. rw is (elim a as (λ _. Has (xs ++ ys) y) [
      | inl b ↦ Has-append_left xs ys y (first.all_there y b)
      | inr b ↦ Has-append_right xs ys y (next.all_there y b)
    ]);
  }

  pub tells_itself : (H : X → Type 0) → Tells H H
  tells_itself H = record { each_so = λ x a. a; all_there = λ x a. a }

  pub tells_appended_to : (xs ys new : List X) (Q : X → Type 0) → new ≡ xs ++ ys → Tells (Has ys) Q → Tells (Has new) (λ y. Has xs y ⊎ Q y)
  tells_appended_to xs ys new Q is h = tells_both xs ys new (Has xs) Q is (tells_itself (Has xs)) h

  -- what was added, in other words
  pub tells_or : (G H Q R : X → Type 0) → Tells G (λ x. H x ⊎ Q x) → Tells Q R → Tells G (λ x. H x ⊎ R x)
  tells_or G H Q R h q = record {
    each_so = λ x a. elim (h.each_so x a) as (λ _. H x ⊎ R x) [ inl b ↦ inl b | inr b ↦ inr (q.each_so x b) ];
    all_there = λ x a. h.all_there x (elim a as (λ _. H x ⊎ Q x) [ inl b ↦ inl b | inr b ↦ inr (q.all_there x b) ]);
  }

  -- where nothing was there at the start
  pub tells_only : (H N Q : X → Type 0) → ((x : X) → N x → ⊥) → Tells H (λ x. N x ⊎ Q x) → Tells H Q
  tells_only H N Q none h = record {
    each_so = λ x a. elim (h.each_so x a) as (λ _. Q x) [ inl n ↦ absurd (none x n) | inr q ↦ q ];
    all_there = λ x q. h.all_there x (inr q);
  }

module _ {X Y : Type 0} (R : X → Y → Type 0) where
  -- a loop that adds what comes from each element: at its start, a turn of it, and at its end
  pub from_none : (H : Y → Type 0) → Tells H (λ y. H y ⊎ FromSome R [] y)
  from_none H = tells_unchanged H (FromSome R []) (λ y a. a.1)

  pub from_more : (S H new : Y → Type 0) (xs : List X) (i : ℕ) (x d : X) → i < length xs → x ≡ get_or xs i d →
      Tells H (λ y. S y ⊎ FromSome R (take i xs) y) → Tells new (λ y. H y ⊎ R x y) → Tells new (λ y. S y ⊎ FromSome R (take (i + 1) xs) y)
  from_more S H new xs i x d within is so_far added = record {
    each_so = λ y h. elim (added.each_so y h) as (λ _. S y ⊎ FromSome R (take (i + 1) xs) y) [
      | inl a ↦ elim (so_far.each_so y a) as (λ _. S y ⊎ FromSome R (take (i + 1) xs) y) [
        | inl b ↦ inl b
        | inr b ↦ inr (b.0, Has-take_more_before xs i b.0 within b.1, b.2)
      ]
      | inr r ↦ inr (x, Has-take_more_here xs i d x within (sym is), r)
    ];
    all_there = λ y h. added.all_there y (elim h as (λ _. H y ⊎ R x y) [
      | inl a ↦ inl (so_far.all_there y (inl a))
      | inr b ↦ elim (Has-take_more_cases xs i d b.0 within b.1) as (λ _. H y ⊎ R x y) [
        | inl c ↦ inl (so_far.all_there y (inr (b.0, c, b.2)))
        | inr e ↦ inr (rw (is ∙ e) b.2)
      ]
    ]);
  }

  pub from_all : (S H : Y → Type 0) (xs : List X) (i : ℕ) → i ≤ length xs → length xs ≤ i → Tells H (λ y. S y ⊎ FromSome R (take i xs) y) → Tells H (λ y. S y ⊎ FromSome R xs y)
  from_all S H xs i le ge so_far =
      let e : i ≡ length xs = omega arith in
      rw (← (ap (λ n. take n xs) e ∙ take-length xs)) so_far

-- what has no elements
pub empty_list : {X : Type 0} (xs : List X) (n : ℕ) → n ≡ length xs → true ≡ nat_eq n 0 → xs ≡ []
empty_list [] n is h = refl
empty_list (x ∷ xs) n is h = absurd (false≢true (sym (not_zero n (omega arith)) ∙ sym h))
  where
    not_zero : (n : ℕ) → 0 < n → nat_eq n 0 ≡ false
    not_zero n p = grind (arith, nat_tests)

-- two facts of what is Ok
pub ok_both : {X E : Type 0} (r : Result X E) (P Q R : X → Type 0) → ((x : X) → P x → Q x → R x) → IfOk r P → IfOk r Q → IfOk r R
ok_both (Ok x) P Q R f p q = f x p q
ok_both (Err e) P Q R f p q = tt
