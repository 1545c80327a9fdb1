-- Lists and their members.
use Rattle.std.proofs.Common.{◌≡◌, List, map, ap}

-- equal functions make equal lists
pub map_same : {X Y : Type 0} (f g : X → Y) → ((x : X) → f x ≡ g x) → (xs : List X) → map f xs ≡ map g xs
map_same f g h xs = ap (λ k. map k xs) (λ i x. h x i)
