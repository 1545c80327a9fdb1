-- What the code answers.
use Rattle.std.specs.Prelude.{◌≡◌, ◌⊎◌, ℕ, List, Result, Ok, Err}
use Rattle.spanner_model.specs.declared.query.Query.{Query}
use Rattle.spanner_model.specs.Expression.{QueryTree}
use Rattle.spanner_model.specs.ExprView.{query_of}
use Rattle.query_parser.specs.declared.fault.QueryFault.{QueryFault}
use Rattle.query_parser.specs.declared.fault.QueryFault.TheVariants.{OutOfMemory}
use Rattle.query_parser.specs.Faults.{HasFault, IsQueryText}

-- this query, or this fault, where memory lasts
abbrev pub IsQueryAnswer : Result Query QueryFault → Result QueryTree QueryFault → Type 0
IsQueryAnswer (Err OutOfMemory) r = Unit {0}
IsQueryAnswer (Ok q) r = r ≡ Ok (query_of q)
IsQueryAnswer (Err e) r = r ≡ Err e

-- what the code answers is the text's: its one query, or its one fault, where memory lasts
abbrev pub IsRead : List ℕ → Result Query QueryFault → Type 0
IsRead text (Ok q) = IsQueryText text (query_of q)
IsRead text (Err e) = (e ≡ OutOfMemory) ⊎ HasFault text e
