-- What the printed forms of queries and the grammar have in common.
use Rattle.std.specs.Prelude.{◌≤◌, length}
use Rattle.spanner_model.specs.Expression.{QueryTree}
use Rattle.spanner_model.specs.Sound.{IsSound}
use Rattle.query_parser.specs.declared.TheConstants.{MOST_TEXT_BYTES}
use Rattle.query_parser.specs.Spells.{SpellsQuery}
use Rattle.query_parser.specs.Faults.{IsQueryText}
use Rattle.query_printer.specs.PrintedQuery.{query_text, IsShallowQuery}

-- within the limits of what may be open at once and of differences, the printed form of a sound query spells it
abbrev pub QueriesSpell : Type 0
QueriesSpell = (q : QueryTree) → IsSound q → IsShallowQuery q → SpellsQuery (query_text q) q

-- and where it is not too long, it is a text of that query
abbrev pub QueriesAreRead : Type 0
QueriesAreRead =
    (q : QueryTree) → IsSound q → IsShallowQuery q → length (query_text q) ≤ MOST_TEXT_BYTES → IsQueryText (query_text q) q
