-- What stands at the front of a text.
use Rattle.std.specs.Prelude.{◌≡◌, ℕ, Bool, false, ◌==◌, List, [], ◌∷◌, ◌++◌, drop}

-- its first byte passes
abbrev pub begins : (ℕ → Bool) → List ℕ → Bool
begins p [] = false
begins p (c ∷ t) = p c

-- it begins with the byte b
abbrev pub begins_with : ℕ → List ℕ → Bool
begins_with b t = begins (λ c. c == b) t

-- u stands at the place p of the text
abbrev pub StandsAt : List ℕ → ℕ → List ℕ → Type 0
StandsAt text p u = (rest : List ℕ) × (drop p text ≡ u ++ rest)
