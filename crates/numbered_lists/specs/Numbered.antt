-- Lists of numbers, each with a number of its own: its place.
use Rattle.std.specs.Prelude.{◌≡◌, ℕ, List, [], ◌∷◌, ◌++◌, slice_index_or, map, if◌then◌else◌}
use Rattle.std.specs.Global.{Vec}
use Rattle.std.specs.List.{list_any}
use Rattle.std.specs.Str.{bytes_eq}

-- the lists of vectors
abbrev pub lists : List (Vec ℕ) → List (List ℕ)
lists vs = map (λ v. v.items) vs

-- the set of this number
abbrev pub set_at : List (List ℕ) → ℕ → List ℕ
set_at sets k = slice_index_or sets k []

-- the sets with this one, which comes last if it is new
abbrev pub with_set : List (List ℕ) → List ℕ → List (List ℕ)
with_set sets s = if list_any (bytes_eq s) sets then sets else sets ++ s ∷ []

abbrev pub with_sets : List (List ℕ) → List (List ℕ) → List (List ℕ)
with_sets sets [] = sets
with_sets sets (s ∷ more) = with_sets (with_set sets s) more

-- the list, and then more
abbrev pub IsLongerBy : {X : Type 0} → List X → List X → Type 0
IsLongerBy {X} old new = (more : List X) × (new ≡ old ++ more)
