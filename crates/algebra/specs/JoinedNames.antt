-- The variables of a join.
use Rattle.std.specs.Prelude.{List, [], ◌∷◌}
use Rattle.span_core.specs.NameSets.{with_name}
use Rattle.spanner_model.specs.Captures.{VarName}

-- an ascending list of names with these added
abbrev pub all_names : List VarName → List VarName → List VarName
all_names names [] = names
all_names names (x ∷ more) = all_names (with_name x names) more
