-- The places of a formula show what it fits.
use Rattle.std.proofs.Common.{ℕ, zero, suc, ◌+◌, ◌-◌, ◌≤◌, List, Option, Some, None, inl, inr, refl, sym, ap, subst, arith}
use Rattle.std.specs.Option.{ForSome, unwrap_or}
use Rattle.spanner_model.specs.Captures.{VarName, Captures, Captured, AreApart}
use Rattle.spanner_model.specs.Fit.{Piece, Then, Nothing, Times, Fit}
use Rattle.place_automaton.specs.Repeats.{HasOrderedRepeats}
use Rattle.spanner_model.specs.Tree.{Tree, empty, one, cat_end, cat, alt_end, alt, rep, cap}
use Rattle.spanner_model.proofs.FitLaws.{times_le, fit_le, fit_only_vars, fit_no_vars}
use Rattle.place_automaton.specs.Places.{Places, Placed, nothing_placed, cat_placed, plus_placed, copies_then, at_most, repeated, placed}
use Rattle.spanner_model.specs.Sequential.{IsSequential}
use Rattle.place_automaton.proofs.Blocks.{IsEmptyOutside, DoesNotEndBefore, nothing_outside, then_outside, times_outside, fit_outside}
use Rattle.place_automaton.proofs.Ranges.{LieInPlace, nothing_lies, plus_lies, copies_lie, at_most_lie, places_lie}
use Rattle.place_automaton.proofs.Shows.{Shows, CanJoin, Either, IsBlank, AtLeast, AtMost, no_captures, shows_nothing, shows_never, shows_one, shows_then, shows_either, shows_optional, shows_plus, shows_same, shows_capture}

-- so many pieces, and then another
abbrev pub CopiesThen : Piece → ℕ → Piece → Piece
CopiesThen X zero Y = Y
CopiesThen X (suc n) Y = Then X (CopiesThen X n Y)

abbrev pub Between : Piece → ℕ → ℕ → Piece
Between X low high i j m = (c : ℕ) × (low ≤ c) × (c ≤ high) × Times X c i j m

-- what holds of a bound
no_bound : (P : ℕ → Type 0) → ForSome None P
no_bound P x e = absurd (cc)

a_bound : (P : ℕ → Type 0) (b : ℕ) → P b → ForSome (Some b) P
a_bound P b h x e = subst P (ap (λ o. unwrap_or o 0) e) h

module _ (opening closing : VarName → ℕ) (d : List ℕ) where
  abbrev Ends : Piece → Type 0
  Ends X = DoesNotEndBefore opening closing X

  abbrev Outside : Piece → Type 0
  Outside X = IsEmptyOutside opening closing X

  abbrev Show : Places → Piece → Type 0
  Show P X = Shows opening closing d P X

  abbrev Join : Piece → Piece → Type 0
  Join X Y = CanJoin opening closing d X Y

  then_le : (X Y : Piece) → Ends X → Ends Y → Ends (Then X Y)
  then_le X Y lx ly i j m h = omega (arith, lx i h.0 h.1 h.3, ly h.0 j h.2 h.4)

  copies_le : (X Y : Piece) → Ends X → Ends Y → (n : ℕ) → Ends (CopiesThen X n Y)
  copies_le X Y lx ly zero = ly
  copies_le X Y lx ly (suc n) = then_le X (CopiesThen X n Y) lx (copies_le X Y lx ly n)

  copies_outside : (X Y : Piece) → Ends X → Ends Y → Outside X → Outside Y → (n : ℕ) → Outside (CopiesThen X n Y)
  copies_outside X Y lx ly ox oy zero = oy
  copies_outside X Y lx ly ox oy (suc n) =
      then_outside opening closing X (CopiesThen X n Y) lx (copies_le X Y lx ly n) ox (copies_outside X Y lx ly ox oy n)

  module _ (F : Placed) (X : Piece) (fl : LieInPlace F) (lx : Ends X) (ox : Outside X) (sx : (k : ℕ) → Show (F k) X) where
    -- a blank piece can be joined to any other
    module _ (blank : IsBlank opening closing d X) where
      blank_join : (Y : Piece) → Join X Y
      blank_join Y i k j m n x y = rw (blank i k m x) (no_captures opening closing d n)

      shows_copies : (G : Placed) (Y : Piece) → LieInPlace G → Ends Y → Outside Y → ((k : ℕ) → Show (G k) Y) →
          (n k : ℕ) → Show (copies_then n F G k) (CopiesThen X n Y)
      shows_copies G Y gl ly oy sy zero k = sy k
      shows_copies G Y gl ly oy sy (suc n) k =
          shows_then opening closing d (F k) (copies_then n F G (k + (F k).count)) X (CopiesThen X n Y) k
          (fl k) (copies_lie n F G fl gl (k + (F k).count)) lx (copies_le X Y lx ly n) ox (copies_outside X Y lx ly ox oy n)
          (blank_join (CopiesThen X n Y)) (sx k) (shows_copies G Y gl ly oy sy n (k + (F k).count))

      at_most_le : (n : ℕ) → Ends (AtMost opening closing d X n)
      at_most_le n i j m h = times_le X lx h.0 i j m h.2

      at_most_outside : (n : ℕ) → Outside (AtMost opening closing d X n)
      at_most_outside n i j m h = times_outside opening closing X lx ox h.0 i j m h.2

      shows_at_most : (n k : ℕ) → Show (at_most n F k) (AtMost opening closing d X n)
      shows_at_most zero k =
          shows_same opening closing d (nothing_placed k) Nothing (AtMost opening closing d X 0)
          (λ i j m h. (0, omega arith, h)) back (shows_nothing opening closing d k)
        where
          back : (i j : ℕ) (m : Captures) → AtMost opening closing d X 0 i j m → Nothing i j m
          back i j m h = go h.0 h.1 h.2
            where
              go : (c : ℕ) → c ≤ 0 → Times X c i j m → Nothing i j m
              go zero l t = t
              go (suc c) l t = absurd (omega (arith, l))
      shows_at_most (suc n) k =
          shows_same opening closing d (at_most (suc n) F k) (Either opening closing d Nothing (Then X (AtMost opening closing d X n))) (AtMost opening closing d X (suc n))
          there back
          (shows_optional opening closing d (cat_placed F (at_most n F) k) (Then X (AtMost opening closing d X n))
          (shows_then opening closing d (F k) (at_most n F (k + (F k).count)) X (AtMost opening closing d X n) k
          (fl k) (at_most_lie n F fl (k + (F k).count)) lx (at_most_le n) ox (at_most_outside n)
          (blank_join (AtMost opening closing d X n)) (sx k) (shows_at_most n (k + (F k).count))))
        where
          there : (i j : ℕ) (m : Captures) → Either opening closing d Nothing (Then X (AtMost opening closing d X n)) i j m → AtMost opening closing d X (suc n) i j m
          there i j m (inl h) = (0, omega arith, h)
          there i j m (inr h) = (suc h.4.0, omega (arith, h.4.1), (h.0, h.1, h.2, h.3, h.4.2, h.5, h.6))

          back : (i j : ℕ) (m : Captures) → AtMost opening closing d X (suc n) i j m → Either opening closing d Nothing (Then X (AtMost opening closing d X n)) i j m
          back i j m h = go h.0 h.1 h.2
            where
              go : (c : ℕ) → c ≤ suc n → Times X c i j m → Either opening closing d Nothing (Then X (AtMost opening closing d X n)) i j m
              go zero l t = inl t
              go (suc c) l t = inr (t.0, t.1, t.2, t.3, (c, omega (arith, l), t.4), t.5, t.6)

  module _ (X : Piece) where
    at_least_there : (n l i j : ℕ) (m : Captures) → CopiesThen X n (AtLeast opening closing d X l) i j m → AtLeast opening closing d X (n + l) i j m
    at_least_there zero l i j m h = (h.0, omega (arith, h.1), h.2)
    at_least_there (suc n) l i j m h =
        let r = at_least_there n l h.0 j h.2 h.4 in
        (suc r.0, omega (arith, r.1), (h.0, h.1, h.2, h.3, r.2, h.5, h.6))

    at_least_back : (n l c i j : ℕ) (m : Captures) → n + l ≤ c → Times X c i j m → CopiesThen X n (AtLeast opening closing d X l) i j m
    at_least_back zero l c i j m le h = (c, omega (arith, le), h)
    at_least_back (suc n) l zero i j m le h = absurd (omega (arith, le))
    at_least_back (suc n) l (suc c) i j m le h =
        (h.0, h.1, h.2, h.3, at_least_back n l c h.0 j h.2 (omega (arith, le)) h.4, h.5, h.6)

    between_there : (n l i j : ℕ) (m : Captures) → CopiesThen X n (AtMost opening closing d X l) i j m → Between X n (n + l) i j m
    between_there zero l i j m h = (h.0, omega arith, omega (arith, h.1), h.2)
    between_there (suc n) l i j m h =
        let r = between_there n l h.0 j h.2 h.4 in
        (suc r.0, omega (arith, r.1), omega (arith, r.2), (h.0, h.1, h.2, h.3, r.3, h.5, h.6))

    between_back : (n l c i j : ℕ) (m : Captures) → n ≤ c → c ≤ n + l → Times X c i j m → CopiesThen X n (AtMost opening closing d X l) i j m
    between_back zero l c i j m le up h = (c, omega (arith, up), h)
    between_back (suc n) l zero i j m le up h = absurd (omega (arith, le))
    between_back (suc n) l (suc c) i j m le up h =
        (h.0, h.1, h.2, h.3, between_back n l c h.0 j h.2 (omega (arith, le)) (omega (arith, up)) h.4, h.5, h.6)

  -- what a repetition fits
  abbrev Rep : Piece → ℕ → Option ℕ → Piece
  Rep X least most i j m = (c : ℕ) × (least ≤ c) × ForSome most (λ b. c ≤ b) × Times X c i j m

  module _ (F : Placed) (X : Piece) (fl : LieInPlace F) (lx : Ends X) (ox : Outside X) (sx : (k : ℕ) → Show (F k) X) where
    shows_bounded : IsBlank opening closing d X → (n most : ℕ) → n ≤ most → (k : ℕ) → Show (copies_then n F (at_most (most - n) F) k) (Rep X n (Some most))
    shows_bounded blank n most le k =
        shows_same opening closing d (copies_then n F (at_most (most - n) F) k) (CopiesThen X n (AtMost opening closing d X (most - n))) (Rep X n (Some most))
        (λ i j m h. let r = between_there X n (most - n) i j m h in (r.0, r.1, a_bound (λ b. r.0 ≤ b) most (omega (arith, r.2, le)), r.3))
        (λ i j m h. between_back X n (most - n) h.0 i j m h.1 (omega (arith, h.2 most refl, le)) h.3)
        (shows_copies F X fl lx ox sx blank (at_most (most - n) F) (AtMost opening closing d X (most - n)) (at_most_lie (most - n) F fl)
        (at_most_le F X fl lx ox sx blank (most - n)) (at_most_outside F X fl lx ox sx blank (most - n))
        (shows_at_most F X fl lx ox sx blank (most - n)) n k)

    shows_repeated : IsBlank opening closing d X → (least : ℕ) (most : Option ℕ) → ForSome most (λ b. least ≤ b) → (k : ℕ) → Show (repeated least most F k) (Rep X least most)
    shows_repeated blank zero None ok k =
        shows_same opening closing d (repeated zero None F k) (Either opening closing d Nothing (AtLeast opening closing d X 1)) (Rep X zero None)
        there back (shows_optional opening closing d (plus_placed F k) (AtLeast opening closing d X 1) (shows_plus opening closing d (F k) X blank (sx k)))
      where
        there : (i j : ℕ) (m : Captures) → Either opening closing d Nothing (AtLeast opening closing d X 1) i j m → Rep X zero None i j m
        there i j m (inl h) = (0, omega arith, no_bound (λ b. 0 ≤ b), h)
        there i j m (inr h) = (h.0, omega arith, no_bound (λ b. h.0 ≤ b), h.2)

        back : (i j : ℕ) (m : Captures) → Rep X zero None i j m → Either opening closing d Nothing (AtLeast opening closing d X 1) i j m
        back i j m h = go h.0 h.3
          where
            go : (c : ℕ) → Times X c i j m → Either opening closing d Nothing (AtLeast opening closing d X 1) i j m
            go zero t = inl t
            go (suc c) t = inr (suc c, omega arith, t)
    shows_repeated blank (suc n) None ok k =
        shows_same opening closing d (copies_then n F (plus_placed F) k) (CopiesThen X n (AtLeast opening closing d X 1)) (Rep X (suc n) None)
        (λ i j m h. let r = at_least_there X n 1 i j m h in (r.0, omega (arith, r.1), no_bound (λ b. r.0 ≤ b), r.2))
        (λ i j m h. at_least_back X n 1 h.0 i j m (omega (arith, h.1)) h.3)
        (shows_copies F X fl lx ox sx blank (plus_placed F) (AtLeast opening closing d X 1) (λ k. plus_lies k (F k) (fl k))
        (λ i j m h. times_le X lx h.0 i j m h.2) (λ i j m h. times_outside opening closing X lx ox h.0 i j m h.2)
        (λ k. shows_plus opening closing d (F k) X blank (sx k)) n k)
    shows_repeated blank zero (Some most) ok k = shows_bounded blank zero most (omega arith) k
    shows_repeated blank (suc n) (Some most) ok k = shows_bounded blank (suc n) most (ok most refl) k

    -- once at most: the piece may capture
    nothing_joins : Join X Nothing
    nothing_joins i k j m n x y v a b = rw y.1 at b

    shows_once : (k : ℕ) → Show (cat_placed F nothing_placed k) (Then X Nothing)
    shows_once k =
        shows_then opening closing d (F k) (nothing_placed (k + (F k).count)) X Nothing k (fl k) (nothing_lies (k + (F k).count))
        lx (λ i j m h. omega arith) ox (nothing_outside opening closing) nothing_joins (sx k) (shows_nothing opening closing d (k + (F k).count))

    shows_optional_once : (least : ℕ) → least ≤ 1 → (k : ℕ) → Show (repeated least (Some 1) F k) (Rep X least (Some 1))
    shows_optional_once zero le k =
        shows_same opening closing d (repeated zero (Some 1) F k) (Either opening closing d Nothing (Then X Nothing)) (Rep X zero (Some 1))
        there back (shows_optional opening closing d (cat_placed F nothing_placed k) (Then X Nothing) (shows_once k))
      where
        there : (i j : ℕ) (m : Captures) → Either opening closing d Nothing (Then X Nothing) i j m → Rep X zero (Some 1) i j m
        there i j m (inl h) = (0, omega arith, a_bound (λ b. 0 ≤ b) 1 (omega arith), h)
        there i j m (inr h) = (1, omega arith, a_bound (λ b. 1 ≤ b) 1 (omega arith), h)

        back : (i j : ℕ) (m : Captures) → Rep X zero (Some 1) i j m → Either opening closing d Nothing (Then X Nothing) i j m
        back i j m h = go h.0 (h.2 1 refl) h.3
          where
            go : (c : ℕ) → c ≤ 1 → Times X c i j m → Either opening closing d Nothing (Then X Nothing) i j m
            go zero l t = inl t
            go (suc zero) l t = inr t
            go (suc (suc c)) l t = absurd (omega (arith, l))
    shows_optional_once (suc zero) le k =
        shows_same opening closing d (repeated 1 (Some 1) F k) (Then X Nothing) (Rep X 1 (Some 1))
        (λ i j m h. (1, omega arith, a_bound (λ b. 1 ≤ b) 1 (omega arith), h)) back (shows_once k)
      where
        back : (i j : ℕ) (m : Captures) → Rep X 1 (Some 1) i j m → Then X Nothing i j m
        back i j m h = go h.0 h.1 (h.2 1 refl) h.3
          where
            go : (c : ℕ) → 1 ≤ c → c ≤ 1 → Times X c i j m → Then X Nothing i j m
            go zero low l t = absurd (omega (arith, low))
            go (suc zero) low l t = t
            go (suc (suc c)) low l t = absurd (omega (arith, l))
    shows_optional_once (suc (suc n)) le k = absurd (omega (arith, le))

  pub shows_formula : (f : Tree) → IsSequential f → HasOrderedRepeats f → (k : ℕ) → Show (placed opening closing f k) (Fit f d)
  shows_formula empty ok ord k = shows_nothing opening closing d k
  shows_formula (one set) ok ord k = shows_one opening closing d set k
  shows_formula cat_end ok ord k = shows_nothing opening closing d k
  shows_formula (cat f rest) ok ord k =
      shows_then opening closing d (placed opening closing f k) (placed opening closing rest (k + (placed opening closing f k).count)) (Fit f d) (Fit rest d) k
      (places_lie opening closing f k) (places_lie opening closing rest (k + (placed opening closing f k).count))
      (fit_le f d) (fit_le rest d) (fit_outside opening closing f d) (fit_outside opening closing rest d)
      (λ i k j m n x y v a b. ok.2 v (fit_only_vars f d i k m x v a) (fit_only_vars rest d k j n y v b))
      (shows_formula f ok.0 ord.0 k) (shows_formula rest ok.1 ord.1 (k + (placed opening closing f k).count))
  shows_formula alt_end ok ord k = shows_never opening closing d k
  shows_formula (alt f rest) ok ord k =
      shows_either opening closing d (placed opening closing f k) (placed opening closing rest (k + (placed opening closing f k).count)) (Fit f d) (Fit rest d) k
      (places_lie opening closing f k) (places_lie opening closing rest (k + (placed opening closing f k).count))
      (shows_formula f ok.0 ord.0 k) (shows_formula rest ok.1 ord.1 (k + (placed opening closing f k).count))
  shows_formula (rep f least most) ok ord k =
      elim ok.1 [
        | inl none ↦ shows_repeated (placed opening closing f) (Fit f d) (places_lie opening closing f) (fit_le f d) (fit_outside opening closing f d)
            (shows_formula f ok.0 ord.0) (λ i j m h. fit_no_vars f d i j m none h) least most ord.1 k
        | inr once ↦
            let le : least ≤ 1 = ord.1 1 once in
            subst (λ o. Show (repeated least o (placed opening closing f) k) (Fit (rep f least o) d)) (sym once)
            (shows_optional_once (placed opening closing f) (Fit f d) (places_lie opening closing f) (fit_le f d) (fit_outside opening closing f d)
            (shows_formula f ok.0 ord.0) least le k)
      ]
  shows_formula (cap x f) ok ord k =
      shows_capture opening closing d (placed opening closing f k) (Fit f d) x (λ i j m h a. ok.1 (fit_only_vars f d i j m h x a))
      (shows_formula f ok.0 ord k)
