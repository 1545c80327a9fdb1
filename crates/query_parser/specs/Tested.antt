-- The grammar of a query with tests, and the fault of a text that is none.
--   A query may end with the word `where` and tests with commas between. The word is read so only behind a whole body, so that a let may
--   still be named `where`: of the query itself nothing changes.
use Rattle.std.specs.Prelude.{◌≡◌, ◌⊎◌, ℕ, ◌+◌, ◌<◌, ◌≤◌, Bool, true, false, List, [], ◌∷◌, ◌++◌, length, drop, map, Result, Ok, Err, codes, if◌then◌else◌}
use Rattle.span_core.specs.declared.TheConstants.{MOST_VARIABLES}
use Rattle.span_core.specs.Names.{is_name}
use Rattle.span_core.specs.Lists.{AtMost, Has}
use Rattle.spanner_model.specs.Captures.{VarName}
use Rattle.spanner_model.specs.Answer.{IsResultVar}
use Rattle.spanner_model.specs.Sound.{NameOf, IsFreeName, IsSound}
use Rattle.formula_parser.specs.Runs.{StandsAt}
use Rattle.query_parser.specs.declared.TheConstants.{MOST_TEXT_BYTES}
use Rattle.spanner_model.specs.declared.tested.Asked.{Asked}
use Rattle.query_parser.specs.declared.fault.QueryFault.{QueryFault}
use Rattle.query_parser.specs.declared.fault.QueryFault.TheVariants.{Unexpected, TooManyVariables, TooLong, TestVariable}
use Rattle.query_parser.specs.Tokens.{Token, name_token, open_paren, close_paren, comma, TokenAt, BlankAt, IsStray}
use Rattle.query_parser.specs.Spells.{Spells}
use Rattle.query_parser.specs.Reads.{Reading, Refusal, unexpected, name_too_long, is_whole, ReadsQuery}
use Rattle.query_parser.specs.Faults.{IsReadFault, refused}
use Rattle.query_parser.specs.TreeFaults.{IsTreeFault}
use Rattle.spanner_model.specs.Tested.{TestedTree}

abbrev pub asked_of : VarName → ℕ → VarName → Asked
asked_of test at var = record { test = test; at = at; var = var }

-- the word before the tests
abbrev pub where_word : List ℕ
where_word = codes "where"

-- ---- the grammar

-- a token, with the place of its first byte
abbrev pub Placed : Type 0
Placed = ℕ × Token

-- From the place p on the text has these tokens, with blanks before, between and after them.
pub data HasPlaced (text : List ℕ) : ℕ → List Placed → Type 0 where
  text_ends : {p : ℕ} → drop p text ≡ [] → HasPlaced text p []
  blank_first : {p : ℕ} {ts : List Placed} → BlankAt text p → HasPlaced text (p + 1) ts → HasPlaced text p ts
  token_first : {p q : ℕ} {t : Token} {ts : List Placed} → TokenAt text p t q → HasPlaced text q ts → HasPlaced text p ((p, t) ∷ ts)

-- the tokens of a test
pub data SpellsTest : List Placed → Asked → Type 0 where
  one_test : {at p q r : ℕ} {test var : VarName} → IsFreeName test → IsFreeName var →
      SpellsTest ((at, name_token test) ∷ (p, open_paren) ∷ (q, name_token var) ∷ (r, close_paren) ∷ []) (asked_of test at var)

-- the tokens of tests, with a comma between
pub data SpellsTests : List Placed → List Asked → Type 0 where
  first_test : {ts : List Placed} {a : Asked} → SpellsTest ts a → SpellsTests ts (a ∷ [])
  more_tests : {ts us : List Placed} {a : Asked} {asked : List Asked} (p : ℕ) → SpellsTests ts asked → SpellsTest us a →
      SpellsTests (ts ++ (p, comma) ∷ us) (asked ++ a ∷ [])

-- the tokens behind a query: none, or the word and at least one test
pub data SpellsWhere : List Placed → List Asked → Type 0 where
  no_test : SpellsWhere [] []
  tests_follow : {p : ℕ} {ts : List Placed} {asked : List Asked} → SpellsTests ts asked → SpellsWhere ((p, name_token where_word) ∷ ts) asked

-- the text spells the query with its tests
pub record SpellsTested (text : List ℕ) (t : TestedTree) : Type 0 where
  pub query : List Placed
  pub tests : List Placed
  pub placed : HasPlaced text 0 (query ++ tests)
  pub spells_query : Spells (map (λ p. p.1) query) t.query
  pub spells_tests : SpellsWhere tests t.asked

-- ---- what is read of the tests, and what may come next

-- the last thing read: something before the name of a test; that name; the parenthesis behind it; the variable; a test
pub data TestMark : Type 0 where
  at_test : TestMark
  after_test_name : TestMark
  after_test_open : TestMark
  after_test_var : TestMark
  after_test : TestMark

-- a name, where one may stand
abbrev pub reads_test_name : VarName → TestMark → Result TestMark Refusal
reads_test_name x m = if is_name x then Ok m else Err name_too_long

-- what is read once this token is read too, or why it may not come next
abbrev pub next_of_tests : TestMark → Token → Result TestMark Refusal
next_of_tests at_test (name_token x) = reads_test_name x after_test_name
next_of_tests after_test_name open_paren = Ok after_test_open
next_of_tests after_test_open (name_token x) = reads_test_name x after_test_var
next_of_tests after_test_var close_paren = Ok after_test
next_of_tests after_test comma = Ok at_test
next_of_tests _ t = Err unexpected

-- the tests may end here
abbrev pub ends_tests : TestMark → Bool
ends_tests after_test = true
ends_tests _ = false

-- the word stands at p, behind a whole query of which this is read
pub record BeginsTests (text : List ℕ) (p : ℕ) (r : Reading) (q : ℕ) : Type 0 where
  pub reads : ReadsQuery text p r
  pub whole : is_whole r ≡ true
  pub word : TokenAt text p (name_token where_word) q

-- This is read of the tests before the place p.
pub data ReadsTests (text : List ℕ) : ℕ → TestMark → Type 0 where
  word_read : {p q : ℕ} {r : Reading} → BeginsTests text p r q → ReadsTests text q at_test
  blank_read : {p : ℕ} {m : TestMark} → ReadsTests text p m → BlankAt text p → ReadsTests text (p + 1) m
  token_read : {p q : ℕ} {m n : TestMark} {t : Token} → ReadsTests text p m → TokenAt text p t q → next_of_tests m t ≡ Ok n → ReadsTests text q n

-- no tests begin
abbrev pub HasNoTests : List ℕ → Type 0
HasNoTests text = (p q : ℕ) (r : Reading) → ¬ BeginsTests text p r q

-- ---- the faults

-- The fault that is met first, reading from left to right: one of the query, where no tests begin; else one of the tests.
pub data IsTestedReadFault (text : List ℕ) : QueryFault → Type 0 where
  of_query : {e : QueryFault} → HasNoTests text → IsReadFault text e → IsTestedReadFault text e
  atom_in_tests : {p : ℕ} {m : TestMark} → ReadsTests text p m → StandsAt text p (47 ∷ []) → IsTestedReadFault text (Unexpected p)
  token_in_tests : {p q : ℕ} {m : TestMark} {t : Token} {why : Refusal} → ReadsTests text p m → TokenAt text p t q → next_of_tests m t ≡ Err why →
      IsTestedReadFault text (refused why p)
  no_token_in_tests : {p c : ℕ} {m : TestMark} → ReadsTests text p m → StandsAt text p (c ∷ []) → IsStray c → IsTestedReadFault text (Unexpected p)
  tests_not_whole : {p : ℕ} {m : TestMark} → ReadsTests text p m → drop p text ≡ [] → ends_tests m ≡ false → IsTestedReadFault text (Unexpected p)

-- the whole text is read, and of its query this is read
pub data IsReadWhole (text : List ℕ) (r : Reading) : Type 0 where
  without_tests : {p : ℕ} → ReadsQuery text p r → drop p text ≡ [] → is_whole r ≡ true → IsReadWhole text r
  with_tests : {p q e : ℕ} {m : TestMark} → BeginsTests text p r q → ReadsTests text e m → drop e text ≡ [] → ends_tests m ≡ true → IsReadWhole text r

-- x is the first variable of a test that the result does not have
abbrev pub FirstMissing : (VarName → Type 0) → List Asked → VarName → Type 0
FirstMissing V [] x = ⊥
FirstMissing V (a ∷ asked) x = (¬ V a.var × (a.var ≡ x)) ⊎ (V a.var × FirstMissing V asked x)

-- each test is of a variable of the result
abbrev pub AreOfResult : TestedTree → Type 0
AreOfResult t = (a : Asked) → Has t.asked a → IsResultVar t.query a.var

-- The one fault of a text.
pub data HasTestedFault (text : List ℕ) : QueryFault → Type 0 where
  too_long : MOST_TEXT_BYTES < length text → HasTestedFault text TooLong
  unreadable : {e : QueryFault} → length text ≤ MOST_TEXT_BYTES → IsTestedReadFault text e → HasTestedFault text e
  too_many_kept : {r : Reading} → length text ≤ MOST_TEXT_BYTES → IsReadWhole text r → r.many ≡ true → HasTestedFault text TooManyVariables
  too_many_captured : {t : TestedTree} → length text ≤ MOST_TEXT_BYTES → SpellsTested text t → ¬ AtMost MOST_VARIABLES (NameOf t.query) →
      HasTestedFault text TooManyVariables
  not_sound : {t : TestedTree} {e : QueryFault} → length text ≤ MOST_TEXT_BYTES → SpellsTested text t → AtMost MOST_VARIABLES (NameOf t.query) →
      IsTreeFault t.query e → HasTestedFault text e
  no_variable : {t : TestedTree} {x : VarName} → length text ≤ MOST_TEXT_BYTES → SpellsTested text t → IsSound t.query →
      FirstMissing (IsResultVar t.query) t.asked x → HasTestedFault text (TestVariable x)

-- the text is that of a sound query with tests of its result's variables
abbrev pub IsTestedText : List ℕ → TestedTree → Type 0
IsTestedText text t = (length text ≤ MOST_TEXT_BYTES) × SpellsTested text t × IsSound t.query × AreOfResult t
