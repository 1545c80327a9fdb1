-- What a sink or a source tells.
use Rattle.std.specs.Prelude.{ℕ, List, Option}

-- the bytes that a sink has written, or that a source has left, where it tells them; and a count of its faults
pub record Flow : Type 0 where
  pub bytes : Option (List ℕ)
  pub faults : ℕ

abbrev pub flow : Option (List ℕ) → ℕ → Flow
flow bytes faults = record { bytes = bytes; faults = faults }
