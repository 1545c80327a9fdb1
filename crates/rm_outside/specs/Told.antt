-- What a shelf tells.
use Rattle.std.specs.Prelude.{◌≡◌, ℕ, List, ◌++◌, Option, Some, None}

-- what a shelf tells
pub record Told : Type 0 where
  -- the bytes that a name holds; None where they are not told, and where the name is not held
  pub held : List ℕ → Option (List ℕ)
  -- a count of the failed fetches of a name; there may be one count for all names
  pub faults : List ℕ → ℕ
  -- the names that were fetched so far, in this order; None where they are not told
  pub fetched : Option (List (List ℕ))

-- a count of faults for all names, and nothing else
abbrev pub counts_alone : ℕ → Told
counts_alone count = record { held = λ name. None; faults = λ name. count; fetched = None }

-- these names came behind those that were fetched before, where they are still told
abbrev pub GrewBy : List (List ℕ) → Option (List (List ℕ)) → Option (List (List ℕ)) → Type 0
GrewBy names before None = Unit {0}
GrewBy names None (Some now) = ⊥
GrewBy names (Some before) (Some now) = now ≡ before ++ names
