-- The variables of a formula, as an ascending list.
use Rattle.std.specs.Prelude.{List}
use Rattle.span_core.specs.NameSets.{with_name}
use Rattle.spanner_model.specs.Captures.{VarName}
use Rattle.spanner_model.specs.Tree.{Tree, empty, one, cat_end, cat, alt_end, alt, rep, cap}

-- an ascending list of names, with the variables of a formula
abbrev pub with_vars : List VarName → Tree → List VarName
with_vars names empty = names
with_vars names (one set) = names
with_vars names cat_end = names
with_vars names (cat f rest) = with_vars (with_vars names f) rest
with_vars names alt_end = names
with_vars names (alt f rest) = with_vars (with_vars names f) rest
with_vars names (rep f least most) = with_vars names f
with_vars names (cap x f) = with_vars (with_name x names) f
