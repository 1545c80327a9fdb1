-- Where the elements that `filter_map` keeps stand before and after.
use Rattle.std.proofs.Common.{◌≡◌, ℕ, zero, suc, ◌≤◌, List, [], ◌∷◌, length, Option, Some, None, refl, sym, ap, subst, arith, ◌∙◌}
use Rattle.std.specs.Prelude.{slice_get}
use Rattle.std.specs.Option.{option_map}
use Rattle.std.specs.List.{filter_map, cons_option}
use Rattle.span_core.specs.Lists.{Has}
use Rattle.span_core.proofs.HasLaws.{Has-slice_get, place_of-Has}
use Rattle.marked_automaton.proofs.Listed.{some_same}

module _ {X Y : Type 0} (h : X → Option Y) where
  abbrev step_place : Option Y → ℕ → (ℕ → Option ℕ) → Option ℕ
  step_place None zero rest = None
  step_place None (suc k) rest = rest k
  step_place (Some z) zero rest = Some 0
  step_place (Some z) (suc k) rest = option_map suc (rest k)

  -- where the k-th stands among what is kept
  abbrev pub kept_place : List X → ℕ → Option ℕ
  kept_place [] k = None
  kept_place (x ∷ xs) k = step_place (h x) k (kept_place xs)

  abbrev step_origin : Option Y → ℕ → (ℕ → ℕ) → ℕ
  step_origin None j rest = suc (rest j)
  step_origin (Some z) zero rest = zero
  step_origin (Some z) (suc j) rest = suc (rest j)

  -- where the j-th that is kept stood
  abbrev pub kept_origin : List X → ℕ → ℕ
  kept_origin [] j = 0
  kept_origin (x ∷ xs) j = step_origin (h x) j (kept_origin xs)

  pub kept_known : (xs : List X) (k : ℕ) (x : X) (z : Y) → slice_get xs k ≡ Some x → h x ≡ Some z →
      (j : ℕ) × (kept_place xs k ≡ Some j) × (slice_get (filter_map h xs) j ≡ Some z)
  kept_known [] k x z at e = absurd (cc)
  kept_known (y ∷ xs) zero x z at e =
      let here : h y ≡ Some z = ap h (some_same y x at) ∙ e in
      (zero, ap (λ o. step_place o zero (kept_place xs)) here, ap (λ o. slice_get (cons_option o (filter_map h xs)) zero) here)
  kept_known (y ∷ xs) (suc k) x z at e = go (h y) refl (kept_known xs k x z at e)
    where
      go : (o : Option Y) → h y ≡ o → (j : ℕ) × (kept_place xs k ≡ Some j) × (slice_get (filter_map h xs) j ≡ Some z) →
          (j : ℕ) × (kept_place (y ∷ xs) (suc k) ≡ Some j) × (slice_get (filter_map h (y ∷ xs)) j ≡ Some z)
      go None f r = (
        r.0,
        ap (λ o. step_place o (suc k) (kept_place xs)) f ∙ r.1,
        ap (λ o. slice_get (cons_option o (filter_map h xs)) r.0) f ∙ r.2,
      )
      go (Some w) f r = (
        suc r.0,
        ap (λ o. step_place o (suc k) (kept_place xs)) f ∙ ap (option_map suc) r.1,
        ap (λ o. slice_get (cons_option o (filter_map h xs)) (suc r.0)) f ∙ r.2,
      )

  kept_unknown : (xs : List X) (k : ℕ) (x : X) → slice_get xs k ≡ Some x → h x ≡ None → kept_place xs k ≡ None
  kept_unknown [] k x at e = absurd (cc)
  kept_unknown (y ∷ xs) zero x at e = ap (λ o. step_place o zero (kept_place xs)) (ap h (some_same y x at) ∙ e)
  kept_unknown (y ∷ xs) (suc k) x at e = go (h y) refl (kept_unknown xs k x at e)
    where
      go : (o : Option Y) → h y ≡ o → kept_place xs k ≡ None → kept_place (y ∷ xs) (suc k) ≡ None
      go None f r = ap (λ o. step_place o (suc k) (kept_place xs)) f ∙ r
      go (Some w) f r = ap (λ o. step_place o (suc k) (kept_place xs)) f ∙ ap (option_map suc) r

  pub kept_told : (xs : List X) (k : ℕ) (x : X) (j : ℕ) → slice_get xs k ≡ Some x → kept_place xs k ≡ Some j →
      (z : Y) × (h x ≡ Some z) × (slice_get (filter_map h xs) j ≡ Some z)
  kept_told xs k x j at e = go (h x) refl
    where
      go : (o : Option Y) → h x ≡ o → (z : Y) × (h x ≡ Some z) × (slice_get (filter_map h xs) j ≡ Some z)
      go None f = let n = kept_unknown xs k x at f in absurd (cc)
      go (Some z) f =
          let r = kept_known xs k x z at f in
          let same : r.0 ≡ j = some_same r.0 j (sym r.1 ∙ e) in
          (z, f, subst (λ j. slice_get (filter_map h xs) j ≡ Some z) same r.2)

  pub kept_from : (xs : List X) (j : ℕ) (z : Y) → slice_get (filter_map h xs) j ≡ Some z →
      (x : X) × (slice_get xs (kept_origin xs j) ≡ Some x) × (h x ≡ Some z) × (kept_place xs (kept_origin xs j) ≡ Some j)
  kept_from [] j z at = absurd (cc)
  kept_from (y ∷ xs) j z at = go (h y) refl (kept_from xs) j at
    where
      go : (o : Option Y) → h y ≡ o →
          ((j : ℕ) (z : Y) → slice_get (filter_map h xs) j ≡ Some z →
          (x : X) × (slice_get xs (kept_origin xs j) ≡ Some x) × (h x ≡ Some z) × (kept_place xs (kept_origin xs j) ≡ Some j)) →
          (j : ℕ) → slice_get (filter_map h (y ∷ xs)) j ≡ Some z →
          (x : X) × (slice_get (y ∷ xs) (kept_origin (y ∷ xs) j) ≡ Some x) × (h x ≡ Some z) × (kept_place (y ∷ xs) (kept_origin (y ∷ xs) j) ≡ Some j)
      go None f rest j at =
          let r = rest j z (sym (ap (λ o. slice_get (cons_option o (filter_map h xs)) j) f) ∙ at) in
          let from : kept_origin (y ∷ xs) j ≡ suc (kept_origin xs j) = ap (λ o. step_origin o j (kept_origin xs)) f in (
            r.0,
            ap (slice_get (y ∷ xs)) from ∙ r.1,
            r.2,
            ap (kept_place (y ∷ xs)) from ∙ (ap (λ o. step_place o (suc (kept_origin xs j)) (kept_place xs)) f ∙ r.3),
          )
      go (Some w) f rest zero at =
          let from : kept_origin (y ∷ xs) zero ≡ zero = ap (λ o. step_origin o zero (kept_origin xs)) f in
          let same : w ≡ z = some_same w z (sym (ap (λ o. slice_get (cons_option o (filter_map h xs)) zero) f) ∙ at) in (
            y,
            ap (slice_get (y ∷ xs)) from,
            f ∙ ap Some same,
            ap (kept_place (y ∷ xs)) from ∙ ap (λ o. step_place o zero (kept_place xs)) f,
          )
      go (Some w) f rest (suc j) at =
          let r = rest j z (sym (ap (λ o. slice_get (cons_option o (filter_map h xs)) (suc j)) f) ∙ at) in
          let from : kept_origin (y ∷ xs) (suc j) ≡ suc (kept_origin xs j) = ap (λ o. step_origin o (suc j) (kept_origin xs)) f in (
            r.0,
            ap (slice_get (y ∷ xs)) from ∙ r.1,
            r.2,
            ap (kept_place (y ∷ xs)) from
                ∙ (ap (λ o. step_place o (suc (kept_origin xs j)) (kept_place xs)) f ∙ ap (option_map suc) r.3),
          )

  -- two that are kept stood apart
  pub kept_apart : (xs : List X) (j l : ℕ) (z w : Y) → slice_get (filter_map h xs) j ≡ Some z → slice_get (filter_map h xs) l ≡ Some w →
      kept_origin xs j ≡ kept_origin xs l → j ≡ l
  kept_apart xs j l z w a b e =
      let r = kept_from xs j z a in
      let s = kept_from xs l w b in
      some_same j l (sym r.3 ∙ (ap (kept_place xs) e ∙ s.3))

  pub Has-kept : (xs : List X) (x : X) (z : Y) → Has xs x → h x ≡ Some z → Has (filter_map h xs) z
  Has-kept xs x z has e =
      let k = place_of-Has xs x has in
      let r = kept_known xs k.0 x z k.2 e in
      Has-slice_get (filter_map h xs) r.0 z r.2

  pub Has-kept_from : (xs : List X) (z : Y) → Has (filter_map h xs) z → (x : X) × Has xs x × (h x ≡ Some z)
  Has-kept_from xs z has =
      let j = place_of-Has (filter_map h xs) z has in
      let r = kept_from xs j.0 z j.2 in
      (r.0, Has-slice_get xs (kept_origin xs j.0) r.0 r.1, r.2)

  pub kept_no_more : (xs : List X) → length (filter_map h xs) ≤ length xs
  kept_no_more [] = omega arith
  kept_no_more (x ∷ xs) = go (h x) refl (kept_no_more xs)
    where
      go : (o : Option Y) → h x ≡ o → length (filter_map h xs) ≤ length xs → length (filter_map h (x ∷ xs)) ≤ length (x ∷ xs)
      go None f le = omega (arith, le, ap (λ o. length (cons_option o (filter_map h xs))) f)
      go (Some w) f le = omega (arith, le, ap (λ o. length (cons_option o (filter_map h xs))) f)
