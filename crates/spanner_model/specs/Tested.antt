-- A query with its tests, as a tree, and what a value of the code is.
use Rattle.std.specs.Prelude.{List}
use Rattle.spanner_model.specs.declared.tested.Asked.{Asked}
use Rattle.spanner_model.specs.declared.tested.Tested.{Tested}
use Rattle.spanner_model.specs.Expression.{QueryTree}
use Rattle.spanner_model.specs.ExprView.{query_of}

-- a query with its tests: each with its name, the place of that name in the text, and its variable
pub record TestedTree : Type 0 where
  pub query : QueryTree
  pub asked : List Asked

-- the tree of a query with its tests
abbrev pub tested_of : Tested → TestedTree
tested_of t = record { query = query_of t.query; asked = t.asked }
