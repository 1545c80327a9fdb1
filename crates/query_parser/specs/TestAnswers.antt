-- What the code that reads tests says of its steps.
use Rattle.std.specs.Prelude.{◌≡◌, ◌⊎◌, ℕ, Bool, List, Result, Ok, Err}
use Rattle.spanner_model.specs.declared.query.Query.{Query}
use Rattle.spanner_model.specs.ExprView.{query_of}
use Rattle.spanner_model.specs.declared.tested.Asked.{Asked}
use Rattle.spanner_model.specs.declared.tested.Tested.{Tested}
use Rattle.query_parser.specs.declared.tests_read.Mark.{Mark}
use Rattle.query_parser.specs.declared.tests_read.Mark.TheVariants as code_mark
use Rattle.query_parser.specs.declared.tests_read.SoFar.{SoFar}
use Rattle.query_parser.specs.declared.fault.QueryFault.{QueryFault}
use Rattle.query_parser.specs.declared.fault.QueryFault.TheVariants.{OutOfMemory}
use Rattle.query_parser.specs.TestSteps.{TestLast, at_test, after_test_name, after_test_open, after_test_var, after_test, TestsRead, TestNext, test_goes, test_stops, HasTestsFrom, StopsFrom, IsReadAs}
use Rattle.query_parser.specs.Tested.{IsTestedText, HasTestedFault, IsTestedReadFault}
use Rattle.spanner_model.specs.Tested.{tested_of}

abbrev pub test_last_of : Mark → TestLast
test_last_of code_mark.Before = at_test
test_last_of (code_mark.Name c) = after_test_name c.name c.at
test_last_of (code_mark.Open c) = after_test_open c.name c.at
test_last_of (code_mark.Var a) = after_test_var a
test_last_of code_mark.Test = after_test

abbrev pub tests_of : SoFar → TestsRead
tests_of s = record { asked = s.asked; last = test_last_of s.mark }

-- the code did this step, of so many bytes, and left this read, or memory ran out
abbrev pub IsTestStep : Result ℕ QueryFault → TestNext → TestsRead → Type 0
IsTestStep (Ok len) next s = next ≡ test_goes len s
IsTestStep (Err OutOfMemory) next s = Unit {0}
IsTestStep (Err fault) next s = next ≡ test_stops fault

-- the code read the tests from this place on, or met their fault, or memory ran out
abbrev pub AreReadFrom : Result (List Asked) QueryFault → List ℕ → ℕ → Type 0
AreReadFrom (Ok asked) text p = HasTestsFrom text p asked
AreReadFrom (Err OutOfMemory) text p = Unit {0}
AreReadFrom (Err fault) text p = StopsFrom text p fault

-- the code read the text, or met a fault, or memory ran out
abbrev pub IsReadThrough : Result (Query × Bool × List Asked) QueryFault → List ℕ → Type 0
IsReadThrough (Ok x) text = IsReadAs text (query_of x.0) x.1 x.2
IsReadThrough (Err OutOfMemory) text = Unit {0}
IsReadThrough (Err fault) text = IsTestedReadFault text fault

-- what the code answers is the text's: its one query with its tests, or its one fault, where memory lasts
abbrev pub IsTestedRead : List ℕ → Result Tested QueryFault → Type 0
IsTestedRead text (Ok t) = IsTestedText text (tested_of t)
IsTestedRead text (Err e) = (e ≡ OutOfMemory) ⊎ HasTestedFault text e
