-- What the code that reads queries with tests shows at its steps.
use Rattle.std.proofs.Common.{◌≡◌, ◌⊎◌, inl, inr, ℕ, zero, suc, ◌+◌, ◌≤◌, ◌&&◌, Bool, true, false, List, [], ◌∷◌, ◌++◌, length, take, drop, Option, Some, None, Result, Ok, Err, ap, refl, sym, subst, ◌∙◌, arith, length-drop, cond}
use Rattle.std.specs.Prelude.{IfErr, IsTrue, ◌↔◌, codes, slice_get}
use Rattle.std.proofs.lemmas.Bool.{and_parts}
use Rattle.std.proofs.lemmas.List.{take_all}
use Rattle.span_core.proofs.HasLaws.{Has-append_cases}
use Rattle.spanner_model.proofs.TreeLaws.{take_at_more}
use Rattle.std.specs.List.{take_while}
use Rattle.std.proofs.lemmas.List.Sums.{take_while-cons}
use Rattle.std.specs.Str.{bytes_eq}
use Rattle.span_core.specs.declared.TheConstants.{MOST_VARIABLES}
use Rattle.span_core.specs.Names.{is_name_start, is_name_byte}
use Rattle.span_core.specs.Lists.{AtMost, Has}
use Rattle.spanner_model.specs.declared.query.Query.{Query}
use Rattle.spanner_model.specs.Captures.{VarName}
use Rattle.spanner_model.specs.Expression.{QueryTree}
use Rattle.spanner_model.specs.ExprView.{query_of}
use Rattle.spanner_model.specs.Answer.{IsResultVar}
use Rattle.spanner_model.specs.Sound.{NameOf, IsSound}
use Rattle.formula_parser.proofs.BuiltLaws.{IsText}
use Rattle.query_parser.specs.declared.TheConstants.{MOST_TEXT_BYTES}
use Rattle.spanner_model.specs.declared.tested.Asked.{Asked}
use Rattle.spanner_model.specs.declared.tested.Tested.{Tested}
use Rattle.query_parser.specs.declared.fault.QueryFault.{QueryFault}
use Rattle.query_parser.specs.declared.fault.QueryFault.TheVariants.{Unexpected, TooManyVariables, TestVariable, OutOfMemory}
use Rattle.query_parser.specs.Tokens.{Token, name_token, word_token, IsWordAt, TokenAt, atom_at, word_at, sign_at}
use Rattle.query_parser.specs.Reads.{is_whole}
use Rattle.query_parser.specs.TreeFaults.{IsTreeFault}
use Rattle.query_parser.specs.Formed.{IsFormedQuery, PassesQuery}
use Rattle.query_parser.specs.Nest.{Nest, Body, reading_of, outermost, whole_query}
use Rattle.query_parser.specs.Step.{step, stops, ends, EndsAfter}
use Rattle.query_parser.specs.Step as code
use Rattle.query_parser.specs.Turn.{IsTurn, IsEnd}
use Rattle.query_parser.specs.TokenRuns.{Run, run_ends, query_step, IsReadTo}
use Rattle.query_parser.specs.Tested.{Placed, where_word, SpellsTested, ends_tests, FirstMissing, of_query, HasNoTests, HasTestedFault, too_long, unreadable, too_many_kept, too_many_captured, not_sound, no_variable, IsTestedText}
use Rattle.spanner_model.specs.Tested.{TestedTree, tested_of}
use Rattle.query_parser.specs.TestSteps.{TestLast, after_test, TestsRead, tests_at, no_test_read, test_mark, test_move, StopsFrom, TestsStop, atom_stops, token_stops, stray_stops, end_stops, TestsBegin, HasTestsFrom, IsReadAs, without_where}
use Rattle.query_parser.specs.TestAnswers.{AreReadFrom, IsReadThrough, IsTestedRead}
use Rattle.query_parser.specs.TestedAnswers.{IsTestedAnswer}
use Rattle.query_parser.proofs.FaultLaws.{ends_fault}
use Rattle.query_parser.proofs.StepLaws.{IsSign, is_equals, is_semicolon, is_open, is_close, is_comma, sign_is, word_here}
use Rattle.query_parser.proofs.ReadLaws.{memory_fault, read_memory, refused_memory, tree_memory}
use Rattle.query_parser.specs.Faults.{IsReadFault}
use Rattle.query_parser.proofs.FormedLaws.{AtomsBuilt, built_split}
use Rattle.query_parser.proofs.SoundQuery.{built_tokens, formed_query, passed_query}
use Rattle.query_parser.proofs.Lists.{eq_true, eq_is}
use Rattle.query_parser.proofs.TextLaws.{word_by}
use Rattle.query_parser.proofs.RunsMeet.{end_halts, end_no_token, word_run}
use Rattle.query_parser.proofs.TurnLaws.{token_within}
use Rattle.query_parser.proofs.TestMoves.{tokens_of, placed_tokens}
use Rattle.query_parser.proofs.TestTurns.{stop_fault, fault_stops, Stopped}
use Rattle.query_parser.proofs.TestedReading.{run_read, run_goes, ends_halts, turn_ends, no_tests_here, whole_found, begin_begins, read_spelled}
use Rattle.query_parser.proofs.TestedFaults.{one_tested, tested_not_both, one_tested_fault, read_kept}

-- ---- the word before the tests

-- no word stands there behind a whole query
abbrev pub NoWhere : List ℕ → ℕ → Nest → Type 0
NoWhere text at n = is_whole (reading_of n) ≡ true → (q : ℕ) → TokenAt text at (name_token where_word) q → ⊥

pub where_here : (text : List ℕ) (at : ℕ) → code.word_at (drop at text) ≡ where_word → TokenAt text at (name_token where_word) (at + 5)
where_here text at is = by (drop at text) refl is
  where
    starts : (c : ℕ) (s : List ℕ) (b : Bool) → cond b (c ∷ take_while is_name_byte s) [] ≡ where_word → is_name_start c ≡ true
    starts c s true e = let first : c ≡ 119 = cc in rw first refl
    starts c s false e = absurd (cc)

    by : (rest : List ℕ) → drop at text ≡ rest → code.word_at rest ≡ where_word → TokenAt text at (name_token where_word) (at + 5)
    by [] here e = absurd (cc)
    by (c ∷ s) here e =
        let word = word_here text at c s here (starts c s (is_name_byte c) (sym (take_while-cons is_name_byte c s) ∙ e)) in
        word_at where_word (subst (IsWordAt text at) e word) refl

named : (x y : List ℕ) → word_token x ≡ name_token y → x ≡ y
named x y is = by (bytes_eq x (codes "let")) (bytes_eq x (codes "union")) (bytes_eq x (codes "join")) (bytes_eq x (codes "project")) (bytes_eq x (codes "none")) is
  where
    by : (a b d e f : Bool) → word_by a b d e f x ≡ name_token y → x ≡ y
    by true b d e f is = absurd (cc)
    by false true d e f is = absurd (cc)
    by false false true e f is = absurd (cc)
    by false false false true f is = absurd (cc)
    by false false false false true is = absurd (cc)
    by false false false false false is = cc

no_sign_name : {c : ℕ} {x : List ℕ} → IsSign c (name_token x) → ⊥
no_sign_name is = by is refl
  where
    by : {c : ℕ} {t : Token} {y : List ℕ} → IsSign c t → t ≡ name_token y → ⊥
    by is_equals e = absurd (cc)
    by is_semicolon e = absurd (cc)
    by is_open e = absurd (cc)
    by is_close e = absurd (cc)
    by is_comma e = absurd (cc)

word_of_name : {text : List ℕ} {at q : ℕ} {t : Token} {x : List ℕ} → TokenAt text at t q → t ≡ name_token x → code.word_at (drop at text) ≡ x
word_of_name (atom_at at found) e = absurd (cc)
word_of_name {text = text} {at = at} {x = x} (word_at y {t = t} is same) e = word_run text at y is ∙ named y x (same ∙ e)
word_of_name {x = x} (sign_at {c = c} {t = t} at is) e = absurd (no_sign_name (subst (IsSign c) e (sign_is c t is)))

-- whether the word stands behind a whole query, as the code tells it
abbrev pub Tells : Bool → Nest → List ℕ → Type 0
Tells b n rest = b ≡ (is_whole (reading_of n) && bytes_eq (code.word_at rest) where_word)

pub where_told : (text : List ℕ) (at : ℕ) (n : Nest) (rest : List ℕ) (b : Bool) → rest ≡ drop at text → Tells b n rest → b ≡ true →
    (is_whole (reading_of n) ≡ true) × TokenAt text at (name_token where_word) (at + 5)
where_told text at n rest b here tells is =
    let parts = and_parts (is_whole (reading_of n)) (bytes_eq (code.word_at rest) where_word) (sym tells ∙ is) in
    (parts.0, where_here text at (ap code.word_at (sym here) ∙ eq_is (code.word_at rest) where_word parts.1))

pub where_not : (text : List ℕ) (at : ℕ) (n : Nest) (rest : List ℕ) (b : Bool) → rest ≡ drop at text → Tells b n rest → b ≡ false → NoWhere text at n
where_not text at n rest b here tells none w q token =
    let word = eq_true (code.word_at rest) where_word (ap code.word_at here ∙ word_of_name token refl) in
    let both : (is_whole (reading_of n) && bytes_eq (code.word_at rest) where_word) ≡ true = ap (λ v. v && bytes_eq (code.word_at rest) where_word) w ∙ word in
    let same : true ≡ false = sym both ∙ sym tells ∙ none in absurd (cc)

-- the word takes five bytes of the text
pub word_within : {text : List ℕ} {at : ℕ} → TokenAt text at (name_token where_word) (at + 5) → at + 5 ≤ length text
word_within {text = text} {at = at} word = let w = token_within word in omega (arith, w.0, w.1, length-drop at text)

-- ---- the turns of the query

-- nothing is read yet
pub query_begins : (text : List ℕ) (n : Nest) → n ≡ outermost → IsReadTo text 0 n
query_begins text n is = subst (IsReadTo text 0) (sym is) run_ends

pub run_begins : (text : List ℕ) (from : ℕ) (s : TestsRead) → s ≡ no_test_read → Run test_move text from no_test_read from s
run_begins text from s is = subst (Run test_move text from no_test_read from) (sym is) run_ends

-- a fault of a turn is one of the text
pub query_fails : (text : List ℕ) (at : ℕ) (n m : Nest) (e : QueryFault) → IsReadTo text at n → NoWhere text at n → IsTurn (Err e) text at n m → IsReadThrough (Err e) text
query_fails text at n m OutOfMemory run none is = tt
query_fails text at n m e run none is = by (turn_ends text at n m e is)
  where
    by : (e ≡ OutOfMemory) ⊎ EndsAfter zero text at n (Err e) → IsReadThrough (Err e) text
    by (inl same) = absurd (cc)
    by (inr last) = of_query (no_tests_here run (ends_halts text at n (Err e) last) none) (ends_fault zero text at n e (run_read run) last)

-- at the text's end
pub query_ends_fails : (text : List ℕ) (at : ℕ) (n : Nest) (e : QueryFault) → IsReadTo text at n → drop at text ≡ [] → IsEnd (Err e) (step at [] n) → IsReadThrough (Err e) text
query_ends_fails text at n OutOfMemory run here is = tt
query_ends_fails text at n e run here is =
    of_query (no_tests_here run (end_halts query_step text at n here) (λ w q token. end_no_token here token))
    (ends_fault zero text at n e (run_read run) (inl (ap (λ t. step at t n) here ∙ is)))

pub query_ends : (text : List ℕ) (at : ℕ) (n : Nest) (x : Query × Bool) → IsReadTo text at n → drop at text ≡ [] → IsEnd (Ok x) (step at [] n) → IsReadAs text (query_of x.0) x.1 []
query_ends text at n x run here is = without_where (run_goes run (Ok (query_of x.0, x.1)) (zero, inl (ap (λ t. step at t n) here ∙ is)))

-- ---- the end of the tests

pub ended : (l : TestLast) → ends_tests (test_mark l) ≡ true → l ≡ after_test
ended after_test w = refl
ended l w = absurd (cc)

pub tests_whole : (text : List ℕ) (from at : ℕ) (s : TestsRead) (b : Bool) → Run test_move text from no_test_read at s → drop at text ≡ [] → b ≡ ends_tests (test_mark s.last) → b ≡ true →
    HasTestsFrom text from s.asked
tests_whole text from at s b run here tells is = (at, rw (← ended s.last (sym tells ∙ is)) run, here)

pub tests_cut : (text : List ℕ) (from at : ℕ) (s : TestsRead) (b : Bool) → Run test_move text from no_test_read at s → drop at text ≡ [] → b ≡ ends_tests (test_mark s.last) → b ≡ false →
    StopsFrom text from (Unexpected at)
tests_cut text from at s b run here tells is = (at, s, run, end_stops here (sym tells ∙ is))

-- ---- the query before the word

finds : (at : ℕ) (found : Option Body) (b : Body) → ends at found ≡ stops (Ok b) → found ≡ Some b
finds at None b e = absurd (cc)
finds at (Some c) b e = cc

pub where_begins : (text : List ℕ) (at : ℕ) (n : Nest) (x : Query × Bool) → IsReadTo text at n → TokenAt text at (name_token where_word) (at + 5) → IsEnd (Ok x) (step at [] n) →
    TestsBegin text at n (query_of x.0) x.1 (at + 5)
where_begins text at n x run word is = record { reads = run; whole = finds at (whole_query n) (query_of x.0, x.1) is; word = word }

pub whole_never_fails : (text : List ℕ) (at : ℕ) (n : Nest) (e : QueryFault) → is_whole (reading_of n) ≡ true → IsEnd (Err e) (step at [] n) → IsReadThrough (Err e) text
whole_never_fails text at n OutOfMemory w is = tt
whole_never_fails text at n e w is = let (b, found) = whole_found n w in let stop = sym (ap (ends at) found) ∙ is in absurd (cc)

pub tests_fail : (text : List ℕ) (at : ℕ) (n : Nest) (q : QueryTree) (many : Bool) (e : QueryFault) → TestsBegin text at n q many (at + 5) → AreReadFrom (Err e) text (at + 5) →
    IsReadThrough (Err e) text
tests_fail text at n q many OutOfMemory begin is = tt
tests_fail text at n q many e begin (p, s, run, stop) = stop_fault (at, reading_of n, at + 5, begin_begins begin, run) stop

-- ---- the stages

pub through_stopped : (text : List ℕ) (e : QueryFault) → length text ≤ MOST_TEXT_BYTES → IsReadThrough (Err e) text → IsTestedRead text (Err e)
through_stopped text OutOfMemory short is = inl refl
through_stopped text e short is = inr (unreadable short is)

pub kept_many : (text : List ℕ) (q : QueryTree) (many : Bool) (asked : List Asked) → length text ≤ MOST_TEXT_BYTES → IsReadAs text q many asked → many ≡ true →
    IsTestedRead text (Err TooManyVariables)
kept_many text q true asked short read is = let (r, whole, many) = read_kept read in inr (too_many_kept short whole many)
kept_many text q false asked short read is = absurd (cc)

pub kept_few : (text : List ℕ) (q : QueryTree) (many : Bool) (asked : List Asked) → IsReadAs text q many asked → many ≡ false → SpellsTested text (record { query = q; asked = asked })
kept_few text q true asked read is = absurd (cc)
kept_few text q false asked read is = read_spelled read

pub names_many : (text : List ℕ) (t : TestedTree) → length text ≤ MOST_TEXT_BYTES → SpellsTested text t → ¬ AtMost MOST_VARIABLES (NameOf t.query) → IsTestedRead text (Err TooManyVariables)
names_many text t short spelled many = inr (too_many_captured {t = t} short spelled many)

tokens_both : (ts us : List Placed) → tokens_of (ts ++ us) ≡ tokens_of ts ++ tokens_of us
tokens_both [] us = refl
tokens_both (t ∷ ts) us = ap (λ xs. t.1 ∷ xs) (tokens_both ts us)

-- the atoms of the query are well built
built_query : (text : List ℕ) (t : TestedTree) → IsText text → (s : SpellsTested text t) → AtomsBuilt (tokens_of s.query)
built_query text t bytes s = (built_split (tokens_of s.query) (tokens_of s.tests) (subst AtomsBuilt (tokens_both s.query s.tests) (built_tokens (placed_tokens s.placed) bytes))).0

pub tested_formed : (text : List ℕ) (t : TestedTree) → IsText text → SpellsTested text t → IsFormedQuery t.query
tested_formed text t bytes s = formed_query (tokens_of s.query) t.query (built_query text t bytes s) s.spells_query

pub tested_sound : (text : List ℕ) (t : TestedTree) → IsText text → SpellsTested text t → PassesQuery t.query → AtMost MOST_VARIABLES (NameOf t.query) → IsSound t.query
tested_sound text t bytes s passes few = passed_query (tokens_of s.query) t.query (built_query text t bytes s) s.spells_query passes few

pub tree_fails : (text : List ℕ) (t : TestedTree) (e : QueryFault) → length text ≤ MOST_TEXT_BYTES → SpellsTested text t → AtMost MOST_VARIABLES (NameOf t.query) →
    (e ≡ OutOfMemory) ⊎ IsTreeFault t.query e → IsTestedRead text (Err e)
tree_fails text t e short spelled few (inl is) = inl is
tree_fails text t e short spelled few (inr f) = inr (not_sound {t = t} short spelled few f)

-- the first variable of a test that is none of these is none of the result's
missing_same : (V W : VarName → Type 0) → ((x : VarName) → V x ↔ W x) → (asked : List Asked) (x : VarName) → FirstMissing V asked x → FirstMissing W asked x
missing_same V W same [] x h = h
missing_same V W same (a ∷ asked) x (inl h) = inl ((λ w. h.0 ((same a.var).1 w)), h.1)
missing_same V W same (a ∷ asked) x (inr h) = inr ((same a.var).0 h.0, missing_same V W same asked x h.1)

pub variable_missing : (text : List ℕ) (t : TestedTree) (vars : List VarName) (x : VarName) → length text ≤ MOST_TEXT_BYTES → SpellsTested text t → IsSound t.query →
    ((y : VarName) → Has vars y ↔ IsResultVar t.query y) → FirstMissing (Has vars) t.asked x → IsTestedRead text (Err (TestVariable x))
variable_missing text t vars x short spelled sound names missing = inr (no_variable {t = t} short spelled sound (missing_same (Has vars) (IsResultVar t.query) names t.asked x missing))

-- ---- a loop over the tests

-- up to the place k, each test is of one of these variables
abbrev pub AreAmong : List VarName → List Asked → Type 0
AreAmong vars asked = (a : Asked) → Has asked a → Has vars a.var

first_at : (vars : List VarName) (asked : List Asked) (k : ℕ) (a : Asked) → slice_get asked k ≡ Some a → AreAmong vars (take k asked) → (Has vars a.var → ⊥) → FirstMissing (Has vars) asked a.var
first_at vars [] k a at before none = absurd (cc)
first_at vars (b ∷ asked) zero a at before none = let same : b ≡ a = cc in inl ((λ h. none (rw (← same) h)), ap (λ (z : Asked). z.var) same)
first_at vars (b ∷ asked) (suc k) a at before none = inr (before b (inl refl), first_at vars asked k a at (λ z h. before z (inr h)) none)

among_next : (vars : List VarName) (asked : List Asked) (k : ℕ) (a : Asked) → slice_get asked k ≡ Some a → AreAmong vars (take k asked) → Has vars a.var → AreAmong vars (take (k + 1) asked)
among_next vars asked k a at before here z h =
    elim (Has-append_cases (take k asked) (a ∷ []) z (rw (← take_at_more asked k a at) h)) as (λ _. Has vars z.var) [
      | inl old ↦ before z old
      | inr last ↦ elim last as (λ _. Has vars z.var) [ inl same ↦ rw (← same) here | inr none ↦ absurd none ]
    ]

-- as the code tells it
not_had : (r : Bool) (P : Type 0) → (IsTrue r ↔ P) → r ≡ false → P → ⊥
not_had true P tells is h = absurd (cc)
not_had false P tells is h = let t : IsTrue false = tells.1 h in absurd (cc)

had : (r : Bool) (P : Type 0) → (IsTrue r ↔ P) → r ≡ true → P
had true P tells is = tells.0 refl
had false P tells is = absurd (cc)

pub missing_here : (vars : List VarName) (asked : List Asked) (k : ℕ) (a : Asked) (r : Bool) → slice_get asked k ≡ Some a → AreAmong vars (take k asked) → (IsTrue r ↔ Has vars a.var) → r ≡ false →
    FirstMissing (Has vars) asked a.var
missing_here vars asked k a r at before tells is = first_at vars asked k a at before (not_had r (Has vars a.var) tells is)

pub among_more : (vars : List VarName) (asked : List Asked) (k : ℕ) (a : Asked) (r : Bool) → slice_get asked k ≡ Some a → AreAmong vars (take k asked) → (IsTrue r ↔ Has vars a.var) → r ≡ true →
    AreAmong vars (take (k + 1) asked)
among_more vars asked k a r at before tells is = among_next vars asked k a at before (had r (Has vars a.var) tells is)

pub among_all : (vars : List VarName) (asked : List Asked) (k : ℕ) → length asked ≤ k → AreAmong vars (take k asked) → AreAmong vars asked
among_all vars asked k past all = subst (AreAmong vars) (take_all k asked past) all

-- ---- the clauses of the public call

tested_memory : {text : List ℕ} {e : QueryFault} → HasTestedFault text e → e ≡ memory_fault → ⊥
tested_memory (too_long h) e = absurd (cc)
tested_memory (unreadable h f) e = by (fault_stops f) e
  where
    stopped : {text : List ℕ} {p : ℕ} {s : TestsRead} {d : QueryFault} → TestsStop text p s d → d ≡ memory_fault → ⊥
    stopped (atom_stops at) e = absurd (cc)
    stopped {p = p} (token_stops {why = why} at is) e = refused_memory why p e
    stopped (stray_stops at is) e = absurd (cc)
    stopped (end_stops here w) e = absurd (cc)

    by : {text : List ℕ} {e : QueryFault} → (HasNoTests text × IsReadFault text e) ⊎ Stopped text e → e ≡ memory_fault → ⊥
    by (inl (none, g)) e = read_memory g e
    by (inr (p, s, begun, stop)) e = stopped stop e
tested_memory (too_many_kept h k m) e = absurd (cc)
tested_memory (too_many_captured h s m) e = absurd (cc)
tested_memory (not_sound {t = t} h s r f) e = tree_memory t.query (subst (IsTreeFault t.query) e f)
tested_memory (no_variable h s r m) e = absurd (cc)

pub tested_never : (text : List ℕ) (r : Result Tested QueryFault) → IsTestedRead text r → IfErr r (λ e. ¬ (e ≡ memory_fault))
tested_never text (Ok t) h = tt
tested_never text (Err e) (inl is) = λ same. out (sym is ∙ same)
  where
    out : OutOfMemory ≡ memory_fault → ⊥
    out e = absurd (cc)
tested_never text (Err e) (inr f) = tested_memory f

answer_tested : (e : QueryFault) (r : Result TestedTree QueryFault) → (e ≡ OutOfMemory) ⊎ (r ≡ Err e) → IsTestedAnswer (Err e) r
answer_tested OutOfMemory r h = tt
answer_tested e r (inl is) = absurd (cc)
answer_tested e r (inr h) = h

pub tested_only : (text : List ℕ) (r : Result Tested QueryFault) → IsTestedRead text r → (t : TestedTree) → IsTestedText text t → IsTestedAnswer r (Ok t)
tested_only text (Ok u) h t is = ap (λ (x : TestedTree). Ok x) (one_tested text t (tested_of u) is h)
tested_only text (Err e) (inl m) t is = answer_tested e (Ok t) (inl m)
tested_only text (Err e) (inr f) t is = absurd (tested_not_both text t e is f)

pub tested_only_fault : (text : List ℕ) (r : Result Tested QueryFault) → IsTestedRead text r → (e : QueryFault) → HasTestedFault text e → IsTestedAnswer r (Err e)
tested_only_fault text (Ok t) h e f = absurd (tested_not_both text (tested_of t) e h f)
tested_only_fault text (Err d) (inl m) e f = answer_tested d (Err e) (inl m)
tested_only_fault text (Err d) (inr g) e f = answer_tested d (Err e) (inr (ap (λ (x : QueryFault). Err x) (one_tested_fault text e d f g)))
