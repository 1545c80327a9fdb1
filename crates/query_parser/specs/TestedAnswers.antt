-- What the code answers of a text that may have tests.
use Rattle.std.specs.Prelude.{◌≡◌, Result, Ok, Err}
use Rattle.spanner_model.specs.declared.tested.Tested.{Tested}
use Rattle.query_parser.specs.declared.fault.QueryFault.{QueryFault}
use Rattle.query_parser.specs.declared.fault.QueryFault.TheVariants.{OutOfMemory}
use Rattle.spanner_model.specs.Tested.{TestedTree, tested_of}

-- this query with its tests, or this fault, where memory lasts
abbrev pub IsTestedAnswer : Result Tested QueryFault → Result TestedTree QueryFault → Type 0
IsTestedAnswer (Err OutOfMemory) r = Unit {0}
IsTestedAnswer (Ok t) r = r ≡ Ok (tested_of t)
IsTestedAnswer (Err e) r = r ≡ Err e
