-- What a list of lists, and what passes a test, has.
use Rattle.std.proofs.Common.{◌≡◌, Bool, true, false, List, [], ◌∷◌, inl, inr, refl, sym, ap, subst, ◌∙◌}
use Rattle.std.specs.Prelude.{◌&&◌, ◌||◌, cond}
use Rattle.std.specs.List.{filter, flat_map}
use Rattle.span_core.specs.Lists.{Has, AreDistinct}
use Rattle.span_core.proofs.HasLaws.{Has-append_left, Has-append_right, Has-append_cases}

pub has_flat_map : {X Y : Type 0} (f : X → List Y) (xs : List X) (x : X) (y : Y) → Has xs x → Has (f x) y → Has (flat_map f xs) y
has_flat_map f (z ∷ xs) x y (inl e) h = Has-append_left (f z) (flat_map f xs) y (subst (λ u. Has (f u) y) (sym e) h)
has_flat_map f (z ∷ xs) x y (inr m) h = Has-append_right (f z) (flat_map f xs) y (has_flat_map f xs x y m h)
has_flat_map f [] x y m h = absurd m

pub flat_map_cases : {X Y : Type 0} (f : X → List Y) (xs : List X) (y : Y) → Has (flat_map f xs) y → (x : X) × Has xs x × Has (f x) y
flat_map_cases f [] y h = absurd h
flat_map_cases f (x ∷ xs) y h =
    elim (Has-append_cases (f x) (flat_map f xs) y h) [
      | inl a ↦ (x, inl refl, a)
      | inr b ↦ let r = flat_map_cases f xs y b in (r.0, inr r.1, r.2)
    ]

-- the elements that pass
pub filter_cases : {X : Type 0} (t : X → Bool) (xs : List X) (x : X) → Has (filter t xs) x → Has xs x × (t x ≡ true)
filter_cases t [] x h = absurd h
filter_cases t (y ∷ xs) x h = go (filter_cases t xs x) (t y) refl h
  where
    go : (Has (filter t xs) x → Has xs x × (t x ≡ true)) → (b : Bool) → t y ≡ b → Has (cond b (y ∷ filter t xs) (filter t xs)) x → Has (y ∷ xs) x × (t x ≡ true)
    go rest true at (inl e) = (inl e, ap t (sym e) ∙ at)
    go rest true at (inr h) = let r = rest h in (inr r.0, r.1)
    go rest false at h = let r = rest h in (inr r.0, r.1)

pub filter_distinct : {X : Type 0} (t : X → Bool) (xs : List X) → AreDistinct xs → AreDistinct (filter t xs)
filter_distinct t [] d = tt
filter_distinct {X} t (x ∷ xs) d = go (t x) (filter_distinct t xs d.1)
  where
    go : (b : Bool) → AreDistinct (filter t xs) → AreDistinct (cond b (x ∷ filter t xs) (filter t xs))
    go true rest = ((λ h. d.0 (filter_cases t xs x h).0), rest)
    go false rest = rest

pub has_filter : {X : Type 0} (t : X → Bool) (xs : List X) (x : X) → Has xs x → t x ≡ true → Has (filter t xs) x
has_filter t [] x h e = absurd h
has_filter t (y ∷ xs) x h e = go (has_filter t xs x) (t y) refl h
  where
    go : (Has xs x → t x ≡ true → Has (filter t xs) x) → (b : Bool) → t y ≡ b → Has (y ∷ xs) x → Has (cond b (y ∷ filter t xs) (filter t xs)) x
    go rest true at (inl f) = inl f
    go rest true at (inr h) = inr (rest h e)
    go rest false at (inl f) = absurd (false_true (sym at ∙ (ap t f ∙ e)))
      where
        false_true : false ≡ true → ⊥
        false_true f = cc
    go rest false at (inr h) = rest h e

pub both_true : (a b : Bool) → a ≡ true → b ≡ true → (a && b) ≡ true
both_true true true e f = refl
both_true true false e f = f
both_true false b e f = absurd (cc)

pub left_true : (a b : Bool) → (a && b) ≡ true → a ≡ true
left_true true b e = refl
left_true false b e = absurd (cc)

pub right_true : (a b : Bool) → (a && b) ≡ true → b ≡ true
right_true true b e = e
right_true false b e = absurd (cc)

pub or_right : (a b : Bool) → b ≡ true → (a || b) ≡ true
or_right true b e = refl
or_right false b e = e

pub or_left : (a b : Bool) → a ≡ true → (a || b) ≡ true
or_left true b e = refl
or_left false b e = absurd (cc)
