-- What comparing sets told.
use Rattle.std.specs.Prelude.{ℕ, ◌<◌, Bool, List, length, get_or, ◌↔◌, Some, Option, None, IsTrue}
use Rattle.segment_filter.specs.declared.comparing.Compared.{Compared}
use Rattle.numbered_lists.specs.Numbered.{set_at}
use Rattle.segment_filter.specs.Sets.{HaveShared}

abbrev pub compared : ℕ → ℕ → Bool → Compared
compared set other meets = record { set = set; other = other; meets = meets }

-- what is remembered of two sets, if anything, is right
abbrev pub IsRemembered : ℕ → List (List ℕ) → List (List ℕ) → Option Compared → Type 0
IsRemembered most sets others None = Unit {0}
IsRemembered most sets others (Some c) =
    (c.set < length sets) × (IsTrue c.meets ↔ HaveShared most (set_at sets c.set) (set_at others c.other))

-- so is all that is remembered
abbrev pub AreRemembered : ℕ → List (List ℕ) → List (List ℕ) → List (Option Compared) → Type 0
AreRemembered most sets others pairs = (k : ℕ) (x : Option Compared) → k < length pairs → IsRemembered most sets others (get_or pairs k x)
