-- Reading the tests behind a query.
use Rattle.std.specs.Prelude.{◌≡◌, ℕ, List, [], ◌∷◌, ◌++◌, length, drop, Option, Some, None, Result, Ok, Err, Bool, false, if◌then◌else◌}
use Rattle.span_core.specs.Names.{is_name, is_name_start}
use Rattle.spanner_model.specs.Captures.{VarName}
use Rattle.spanner_model.specs.Expression.{QueryTree}
use Rattle.formula_parser.specs.Runs.{StandsAt}
use Rattle.spanner_model.specs.declared.tested.Asked.{Asked}
use Rattle.query_parser.specs.declared.fault.QueryFault.{QueryFault}
use Rattle.query_parser.specs.declared.fault.QueryFault.TheVariants.{Unexpected}
use Rattle.query_parser.specs.Tokens.{Token, name_token, open_paren, close_paren, comma, word_token, sign_token, is_blank, TokenAt, IsStray}
use Rattle.query_parser.specs.Reads.{Refusal, unexpected, name_too_long}
use Rattle.query_parser.specs.Faults.{refused}
use Rattle.query_parser.specs.Nest.{Nest, whole_query}
use Rattle.query_parser.specs.Step.{word_at, EndsReading}
use Rattle.query_parser.specs.Nest.{outermost}
use Rattle.query_parser.specs.TokenRuns.{Run, IsReadTo}
use Rattle.query_parser.specs.Tested.{asked_of, where_word, TestMark, ends_tests}
use Rattle.query_parser.specs.Tested as mark

-- the last thing read: something before the name of a test; that name and its place; the parenthesis behind it; the variable, and with it the
-- whole test; its parenthesis
pub data TestLast : Type 0 where
  at_test : TestLast
  after_test_name : VarName → ℕ → TestLast
  after_test_open : VarName → ℕ → TestLast
  after_test_var : Asked → TestLast
  after_test : TestLast

-- the tests that stand whole, and the last thing read
pub record TestsRead : Type 0 where
  pub asked : List Asked
  pub last : TestLast

abbrev pub tests_at : List Asked → TestLast → TestsRead
tests_at asked last = record { asked = asked; last = last }

abbrev pub no_test_read : TestsRead
no_test_read = tests_at [] at_test

abbrev pub test_mark : TestLast → TestMark
test_mark at_test = mark.at_test
test_mark (after_test_name x p) = mark.after_test_name
test_mark (after_test_open x p) = mark.after_test_open
test_mark (after_test_var a) = mark.after_test_var
test_mark after_test = mark.after_test

-- what a token leaves, or why it may not come next
abbrev pub TestMove : Type 0
TestMove = Result TestsRead Refusal

-- a name, where one may stand
abbrev pub test_name_read : VarName → TestsRead → TestMove
test_name_read x s = if is_name x then Ok s else Err name_too_long

abbrev pub test_named : ℕ → VarName → TestLast → List Asked → TestMove
test_named at x at_test asked = test_name_read x (tests_at asked (after_test_name x at))
test_named at x (after_test_open test p) asked = test_name_read x (tests_at asked (after_test_var (asked_of test p x)))
test_named at x _ asked = Err unexpected

abbrev pub test_opened : TestLast → List Asked → TestMove
test_opened (after_test_name x p) asked = Ok (tests_at asked (after_test_open x p))
test_opened _ asked = Err unexpected

abbrev pub test_closed : TestLast → List Asked → TestMove
test_closed (after_test_var a) asked = Ok (tests_at (asked ++ a ∷ []) after_test)
test_closed _ asked = Err unexpected

abbrev pub test_parted : TestLast → List Asked → TestMove
test_parted after_test asked = Ok (tests_at asked at_test)
test_parted _ asked = Err unexpected

abbrev pub test_move : ℕ → Token → TestsRead → TestMove
test_move at (name_token x) s = test_named at x s.last s.asked
test_move at open_paren s = test_opened s.last s.asked
test_move at close_paren s = test_closed s.last s.asked
test_move at comma s = test_parted s.last s.asked
test_move at t s = Err unexpected

-- ---- one step: a blank, or a token

-- so many bytes are read and this is read then; or the reading ends with a fault
pub data TestNext : Type 0 where
  test_goes : ℕ → TestsRead → TestNext
  test_stops : QueryFault → TestNext

abbrev pub test_moved : ℕ → ℕ → TestMove → TestNext
test_moved at len (Ok s) = test_goes len s
test_moved at len (Err why) = test_stops (refused why at)

abbrev pub test_words : ℕ → List ℕ → TestsRead → TestNext
test_words at x s = test_moved at (length x) (test_move at (word_token x) s)

abbrev pub test_signs : ℕ → Option Token → TestsRead → TestNext
test_signs at None s = test_stops (Unexpected at)
test_signs at (Some t) s = test_moved at 1 (test_move at t s)

abbrev pub test_step : ℕ → List ℕ → TestsRead → TestNext
test_step at [] s = test_stops (Unexpected at)
test_step at (c ∷ t) s =
    if is_blank c then test_goes 1 s
    else if is_name_start c then test_words at (word_at (c ∷ t)) s
    else test_signs at (sign_token c) s

-- ---- where the tests, and the query before them, lead

-- the reading of the tests ends at the place p with a fault
pub data TestsStop (text : List ℕ) (p : ℕ) (s : TestsRead) : QueryFault → Type 0 where
  atom_stops : StandsAt text p (47 ∷ []) → TestsStop text p s (Unexpected p)
  token_stops : {q : ℕ} {t : Token} {why : Refusal} → TokenAt text p t q → test_move p t s ≡ Err why → TestsStop text p s (refused why p)
  stray_stops : {c : ℕ} → StandsAt text p (c ∷ []) → IsStray c → TestsStop text p s (Unexpected p)
  end_stops : drop p text ≡ [] → ends_tests (test_mark s.last) ≡ false → TestsStop text p s (Unexpected p)

-- a query that is whole stands before the place p, with the word behind it; `many` is whether some projection keeps too many names
pub record TestsBegin (text : List ℕ) (p : ℕ) (n : Nest) (q : QueryTree) (many : Bool) (after : ℕ) : Type 0 where
  pub reads : IsReadTo text p n
  pub whole : whole_query n ≡ Some (q, many)
  pub word : TokenAt text p (name_token where_word) after

-- from the place on, the text has these tests to its end
abbrev pub HasTestsFrom : List ℕ → ℕ → List Asked → Type 0
HasTestsFrom text p asked = (e : ℕ) × Run test_move text p no_test_read e (tests_at asked after_test) × (drop e text ≡ [])

-- from the place on, the text has tests up to this fault
abbrev pub StopsFrom : List ℕ → ℕ → QueryFault → Type 0
StopsFrom text p fault = (e : ℕ) × (s : TestsRead) × Run test_move text p no_test_read e s × TestsStop text e s fault

-- the text is read to its end: this is its query, and these are its tests
pub data IsReadAs (text : List ℕ) (q : QueryTree) (many : Bool) : List Asked → Type 0 where
  without_where : EndsReading text 0 outermost (Ok (q, many)) → IsReadAs text q many []
  with_where : {p after : ℕ} {n : Nest} {asked : List Asked} → TestsBegin text p n q many after → HasTestsFrom text after asked → IsReadAs text q many asked
