-- The numbers of lets by their names.
use Rattle.std.specs.Prelude.{◌≡◌, ℕ, List}
use Rattle.std.specs.BTreeMap.{BTreeMap, get}
use Rattle.span_core.specs.NameSets.{name_cmp}
use Rattle.spanner_model.specs.Captures.{VarName}
use Rattle.query_parser.specs.Nest.{find}

-- the map has the numbers of the names, counted from 0
abbrev pub Numbers : BTreeMap VarName ℕ → List VarName → Type 0
Numbers numbers names = (x : VarName) → get name_cmp numbers x ≡ find names x
