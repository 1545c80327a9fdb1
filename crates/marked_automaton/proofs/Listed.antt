-- Places in lists, and numbers compared.
use Rattle.std.proofs.Common.{◌≡◌, ℕ, zero, suc, ◌<◌, ◌⊎◌, List, [], ◌∷◌, map, Some, inl, inr, refl, ap, arith}
use Rattle.std.specs.Prelude.{slice_get}
use Rattle.std.specs.Option.{unwrap_or}
use Rattle.span_core.specs.Lists.{Has}

pub some_same : {X : Type 0} (y x : X) → Some y ≡ Some x → y ≡ x
some_same y x e = ap (λ o. unwrap_or o y) e

pub compared : (p k : ℕ) → (p < k) ⊎ ((p ≡ k) ⊎ (k < p))
compared zero zero = inr (inl refl)
compared zero (suc k) = inl (omega arith)
compared (suc p) zero = inr (inr (omega arith))
compared (suc p) (suc k) =
    elim (compared p k) [
      | inl l ↦ inl (omega (arith, l))
      | inr r ↦ elim r [ inl e ↦ inr (inl (ap suc e)) | inr g ↦ inr (inr (omega (arith, g))) ]
    ]

pub same_or_not : (p k : ℕ) → (p ≡ k) ⊎ (p ≡ k → ⊥)
same_or_not p k =
    elim (compared p k) [
      | inl l ↦ inr (λ e. omega (arith, e, l))
      | inr r ↦ elim r [ inl e ↦ inl e | inr g ↦ inr (λ e. omega (arith, e, g)) ]
    ]

-- what is in a list stands at a place, and what stands at a place is in it
pub has_place : {X : Type 0} (xs : List X) (x : X) → Has xs x → (k : ℕ) × (slice_get xs k ≡ Some x)
has_place [] x h = absurd h
has_place (y ∷ xs) x (inl e) = (0, ap Some e)
has_place (y ∷ xs) x (inr h) = let r = has_place xs x h in (suc r.0, r.1)

pub place_has : {X : Type 0} (xs : List X) (k : ℕ) (x : X) → slice_get xs k ≡ Some x → Has xs x
place_has [] k x e = absurd (cc)
place_has (y ∷ xs) zero x e = inl (some_same y x e)
place_has (y ∷ xs) (suc k) x e = inr (place_has xs k x e)

-- what stands at a place of the images
pub get_map_cases : {X Y : Type 0} (f : X → Y) (xs : List X) (k : ℕ) (y : Y) → slice_get (map f xs) k ≡ Some y → (x : X) × (slice_get xs k ≡ Some x) × (f x ≡ y)
get_map_cases f [] k y e = absurd (cc)
get_map_cases f (x ∷ xs) zero y e = (x, refl, some_same (f x) y e)
get_map_cases f (x ∷ xs) (suc k) y e = get_map_cases f xs k y e

pub get_map : {X Y : Type 0} (f : X → Y) (xs : List X) (k : ℕ) (x : X) → slice_get xs k ≡ Some x → slice_get (map f xs) k ≡ Some (f x)
get_map f [] k x e = absurd (cc)
get_map f (y ∷ xs) zero x e = ap (λ z. Some (f z)) (some_same y x e)
get_map f (y ∷ xs) (suc k) x e = get_map f xs k x e
