-- Searches for the places from which bytes keep to a chain of sets.
use Rattle.std.specs.Prelude.{ℕ, ◌+◌, ◌<◌, ◌≤◌, List, length, slice_index}
use Rattle.std.specs.Ordering.{nat_cmp}
use Rattle.std.specs.FinSet as bytes
use Rattle.regex_literal.specs.declared.ladder.Ladder.{Ladder}
use Rattle.regex_literal.specs.Ladders.{Admits}
use Rattle.byte_runs.specs.Chains.{IsTextOf, KeepTo}
use Rattle.byte_runs.specs.declared.chain.Search.{Search}
use Rattle.byte_runs.specs.declared.chain.Search.TheVariants.{Sets, Text}

-- it stops at each place from which bytes keep to all of the sets
abbrev pub IsLadderOf : List (bytes.FinSet nat_cmp) → Ladder → Type 0
IsLadderOf sets ladder =
    (d : List ℕ) (j : ℕ) → ((i : ℕ) → slice_index d i < 256) → j + length sets ≤ length d → KeepTo sets d j (j + length sets) → Admits ladder d j

abbrev pub IsSearchOf : List (bytes.FinSet nat_cmp) → Search → Type 0
IsSearchOf sets (Text text offset) = IsTextOf sets offset text
IsSearchOf sets (Sets ladder) = IsLadderOf sets ladder
