-- Each text of bytes is that of a query with tests or has a fault; and where no tests begin it is what it was without them.
use Rattle.std.proofs.Common.{◌≡◌, ◌⊎◌, inl, inr, ℕ, zero, suc, ◌+◌, ◌<◌, ◌≤◌, ◌&&◌, Bool, true, false, nat_lt, List, [], ◌∷◌, ◌++◌, length, length-drop, drop, Err, ap, refl, subst, arith}
use Rattle.std.specs.List.{All}
use Rattle.std.specs.Str.{bytes_eq}
use Rattle.std.proofs.lemmas.Bool.Decides.{nat_tests}
use Rattle.std.proofs.lemmas.List.{append-nil}
use Rattle.span_core.specs.declared.TheConstants.{MOST_VARIABLES}
use Rattle.span_core.specs.Lists.{AtMost, Has}
use Rattle.spanner_model.specs.Captures.{VarName}
use Rattle.spanner_model.specs.Expression.{QueryTree}
use Rattle.spanner_model.specs.Answer.{IsResultVar, vars_of_lets}
use Rattle.spanner_model.specs.Sound.{NameOf, IsSound}
use Rattle.spanner_model.proofs.Deciding.{Told, told_of, told_lets}
use Rattle.formula_parser.proofs.BuiltLaws.{IsText}
use Rattle.query_parser.specs.declared.TheConstants.{MOST_TEXT_BYTES}
use Rattle.spanner_model.specs.declared.tested.Asked.{Asked}
use Rattle.query_parser.specs.declared.fault.QueryFault.{QueryFault}
use Rattle.query_parser.specs.declared.fault.QueryFault.TheVariants.{TooManyVariables, TooLong, TestVariable}
use Rattle.query_parser.specs.Spells.{SpellsQuery}
use Rattle.query_parser.specs.Reads.{is_whole}
use Rattle.query_parser.specs.Faults.{IsReadFault, KeepsTooMany, HasFault}
use Rattle.query_parser.specs.Faults as plain_fault
use Rattle.query_parser.specs.Nest.{Nest, reading_of, outermost}
use Rattle.query_parser.specs.Step.{word_at, EndsAfter, EndsReading}
use Rattle.query_parser.specs.TokenRuns.{Run, run_ends, IsReadTo}
use Rattle.query_parser.specs.Tested.{where_word, Placed, HasPlaced, SpellsWhere, no_test, tests_follow, SpellsTested, ends_tests, HasNoTests, of_query, without_tests, with_tests, FirstMissing, HasTestedFault, too_long, unreadable, too_many_kept, too_many_captured, not_sound, no_variable, IsTestedText}
use Rattle.spanner_model.specs.Tested.{TestedTree}
use Rattle.query_parser.specs.TestSteps.{after_test, TestsRead, tests_at, no_test_read, test_mark, test_move, TestNext, test_goes, test_stops, test_step, TestsStop, end_stops, TestsBegin, IsReadAs, without_where, with_where}
use Rattle.query_parser.specs.TestedLaws.{plain, QueriesAreAsBefore, EachTextIsTold}
use Rattle.query_parser.proofs.TextLaws.{spelled_ends, ends_spelled}
use Rattle.query_parser.proofs.FaultLaws.{fault_ends}
use Rattle.query_parser.proofs.EachQueryText.{read_or_refused, text_from_all}
use Rattle.query_parser.proofs.ToldQueries.{told_names, QueryPassesOrFault, query_passes_or_fault}
use Rattle.query_parser.proofs.RunsMeet.{run_on}
use Rattle.query_parser.proofs.TestMoves.{tokens_of, placed_tokens, not_none}
use Rattle.query_parser.proofs.TestTurns.{Went, step_went, stop_fault, fault_stops, Stopped}
use Rattle.query_parser.proofs.TestedReading.{ends_halts, ends_run, no_tests_here, whole_found, begin_begins, read_spelled, spelled_read}
use Rattle.query_parser.proofs.TestedFaults.{one_tested, tested_not_both, one_tested_fault, read_kept}
use Rattle.query_parser.proofs.TestedCode.{where_told, where_not, tested_formed, tested_sound, ended}

-- ---- where tests begin

abbrev Begins : List ℕ → Type 0
Begins text = (p : ℕ) × (n : Nest) × (q : QueryTree) × (many : Bool) × (after : ℕ) × TestsBegin text p n q many after

begins_or_not : (text : List ℕ) (e : QueryFault) → IsReadFault text e → Begins text ⊎ HasNoTests text
begins_or_not text e f = by (fault_ends f)
  where
    at_stop : (p : ℕ) (n : Nest) → IsReadTo text p n → EndsAfter zero text p n (Err e) → (b : Bool) →
        b ≡ (is_whole (reading_of n) && bytes_eq (word_at (drop p text)) where_word) → Begins text ⊎ HasNoTests text
    at_stop p n run last true tells =
        let (w, word) = where_told text p n (drop p text) true refl tells refl in
        let (body, found) = whole_found n w in
        inl (p, n, body.0, body.1, p + 5, record { reads = run; whole = found; word = word })
    at_stop p n run last false tells = inr (no_tests_here run (ends_halts text p n (Err e) last) (where_not text p n (drop p text) false refl tells refl))

    by : EndsReading text 0 outermost (Err e) → Begins text ⊎ HasNoTests text
    by (steps, ends) = let (p, n, run, last) = ends_run steps text 0 outermost (Err e) ends in at_stop p n run last _ refl

-- ---- each reading of tests ends

abbrev TestsEnd : List ℕ → ℕ → TestsRead → Type 0
TestsEnd text p s =
    (e : ℕ) × (f : TestsRead) × Run test_move text p s e f × (((d : QueryFault) × TestsStop text e f d) ⊎ ((drop e text ≡ []) × (f.last ≡ after_test)))

none_left : (text : List ℕ) (p : ℕ) (s : TestsRead) → drop p text ≡ [] → TestsEnd text p s
none_left text p s here = by (ends_tests (test_mark s.last)) refl
  where
    by : (b : Bool) → ends_tests (test_mark s.last) ≡ b → TestsEnd text p s
    by true w = (p, s, run_ends, inr (here, ended s.last w))
    by false w = (p, s, run_ends, inl (_, end_stops here w))

tests_end : (fuel : ℕ) (text : List ℕ) (p : ℕ) (s : TestsRead) → length (drop p text) < fuel → TestsEnd text p s
tests_end zero text p s h = absurd (omega (arith, h))
tests_end (suc fuel) text p s h = by (drop p text) refl (tests_end fuel text)
  where
    next : (found : TestNext) → Went text p s found → ((q : ℕ) (k : TestsRead) → length (drop q text) < fuel → TestsEnd text q k) → TestsEnd text p s
    next (test_goes len k) (run, some, few) again =
        let (e, f, more, end) = again (p + len) k (omega (arith, length-drop p text, length-drop (p + len) text, some, few, h)) in (e, f, run_on test_move text run more, end)
    next (test_stops d) stop again = (p, s, run_ends, inl (d, stop))

    by : (rest : List ℕ) → drop p text ≡ rest → ((q : ℕ) (k : TestsRead) → length (drop q text) < fuel → TestsEnd text q k) → TestsEnd text p s
    by [] here again = none_left text p s here
    by (c ∷ t) here again = next (test_step p (drop p text) s) (step_went text p s (omega (arith, ap length here))) again

-- ---- each text

abbrev TestedOrFault : List ℕ → Type 0
TestedOrFault text = ((t : TestedTree) × IsTestedText text t) ⊎ ((e : QueryFault) × HasTestedFault text e)

missing_or_all : (V : VarName → Type 0) → ((x : VarName) → Told (V x)) → (asked : List Asked) → ((x : VarName) × FirstMissing V asked x) ⊎ ((a : Asked) → Has asked a → V a.var)
missing_or_all V told [] = inr (λ a h. absurd h)
missing_or_all V told (a ∷ asked) = by (told a.var) (missing_or_all V told asked)
  where
    by : Told (V a.var) → ((x : VarName) × FirstMissing V asked x) ⊎ ((b : Asked) → Has asked b → V b.var) →
        ((x : VarName) × FirstMissing V (a ∷ asked) x) ⊎ ((b : Asked) → Has (a ∷ asked) b → V b.var)
    by (inr none) later = inl (a.var, inl (none, refl))
    by (inl here) (inl (x, missing)) = inl (x, inr (here, missing))
    by (inl here) (inr all) = inr (λ b h. elim h as (λ _. V b.var) [ inl same ↦ rw (← same) here | inr has ↦ all b has ])

spelled_told : (text : List ℕ) (t : TestedTree) → length text ≤ MOST_TEXT_BYTES → IsText text → SpellsTested text t → TestedOrFault text
spelled_told text t short bytes s = named (told_names t.query)
  where
    n : ℕ
    n = length t.query.lets

    asked : IsSound t.query → ((x : VarName) × FirstMissing (IsResultVar t.query) t.asked x) ⊎ ((a : Asked) → Has t.asked a → IsResultVar t.query a.var) → TestedOrFault text
    asked sound (inl (x, missing)) = inr (TestVariable x, no_variable {t = t} short s sound missing)
    asked sound (inr all) = inl (t, (short, s, sound, all))

    checked : AtMost MOST_VARIABLES (NameOf t.query) → QueryPassesOrFault t.query → TestedOrFault text
    checked few (inl passes) =
        asked (tested_sound text t bytes s passes few)
        (missing_or_all (IsResultVar t.query) (told_of (vars_of_lets t.query.lets n) (told_lets t.query.lets n) t.query.body) t.asked)
    checked few (inr (e, f)) = inr (e, not_sound {t = t} short s few f)

    named : Told (AtMost MOST_VARIABLES (NameOf t.query)) → TestedOrFault text
    named (inr many) = inr (TooManyVariables, too_many_captured {t = t} short s many)
    named (inl few) = checked few (query_passes_or_fault t.query (tested_formed text t bytes s))

read_told : (text : List ℕ) (q : QueryTree) (many : Bool) (asked : List Asked) → length text ≤ MOST_TEXT_BYTES → IsText text → IsReadAs text q many asked → TestedOrFault text
read_told text q true asked short bytes read = let (r, whole, many) = read_kept read in inr (TooManyVariables, too_many_kept short whole many)
read_told text q false asked short bytes read = spelled_told text (record { query = q; asked = asked }) short bytes (read_spelled read)

each_tested : (text : List ℕ) → All (λ b. b < 256) text → TestedOrFault text
each_tested text all = by (nat_lt MOST_TEXT_BYTES (length text)) refl
  where
    bytes : IsText text
    bytes = text_from_all text all

    behind : length text ≤ MOST_TEXT_BYTES → Begins text → TestedOrFault text
    behind short (p, n, q, many, after, begin) = end (tests_end (suc (length (drop after text))) text after no_test_read (omega arith))
      where
        end : TestsEnd text after no_test_read → TestedOrFault text
        end (e, f, run, inl (d, stop)) = inr (d, unreadable short (stop_fault (p, reading_of n, after, begin_begins begin, run) stop))
        end (e, f, run, inr (here, last)) =
            read_told text q many f.asked short bytes
            (with_where begin (e, rw (← last) run, here))

    refused : length text ≤ MOST_TEXT_BYTES → (e : QueryFault) → IsReadFault text e → Begins text ⊎ HasNoTests text → TestedOrFault text
    refused short e f (inl begins) = behind short begins
    refused short e f (inr none) = inr (e, unreadable short (of_query none f))

    read : length text ≤ MOST_TEXT_BYTES → ((q : QueryTree) × SpellsQuery text q) ⊎ (((e : QueryFault) × IsReadFault text e) ⊎ KeepsTooMany text) → TestedOrFault text
    read short (inl (q, spelled)) = read_told text q false [] short bytes (without_where (spelled_ends text q spelled))
    read short (inr (inl (e, f))) = refused short e f (begins_or_not text e f)
    read short (inr (inr (p, r, d, here, w, many))) = inr (TooManyVariables, too_many_kept short (without_tests d here w) many)

    by : (b : Bool) → nat_lt MOST_TEXT_BYTES (length text) ≡ b → TestedOrFault text
    by true e = inr (TooLong, too_long (grind (arith, nat_tests)))
    by false e = read (grind (arith, nat_tests)) (read_or_refused text)

pub each_text_told : EachTextIsTold
each_text_told = record { one_query = one_tested; not_both = tested_not_both; one_fault = one_tested_fault; one_of_both = each_tested }

-- ---- texts without tests

plain_spelled : (text : List ℕ) (q : QueryTree) → SpellsQuery text q → SpellsTested text (plain q)
plain_spelled text q spelled = read_spelled (without_where (spelled_ends text q spelled))

no_where : {tests : List Placed} {asked : List Asked} → SpellsWhere tests asked → asked ≡ [] → tests ≡ []
no_where no_test e = refl
no_where (tests_follow follow) e = absurd (not_none follow e)

spelled_plain : (text : List ℕ) (q : QueryTree) → SpellsTested text (plain q) → SpellsQuery text q
spelled_plain text q s =
    let none = no_where s.spells_tests refl in
    let has : HasPlaced text 0 s.query = subst (HasPlaced text 0) (append-nil s.query) (rw (← none) s.placed) in
    (tokens_of s.query, placed_tokens has, s.spells_query)

not_begun : {text : List ℕ} {q : QueryTree} {asked : List Asked} → HasNoTests text → IsReadAs text q false asked → SpellsQuery text q × (asked ≡ [])
not_begun {text = text} {q = q} none (without_where e) = (ends_spelled text q e, refl)
not_begun none (with_where {p = p} {after = after} {n = n} b tests) = absurd (none p after (reading_of n) (begin_begins b))

fault_before : (text : List ℕ) (e : QueryFault) → HasNoTests text → HasTestedFault text e → HasFault text e
fault_before text e none (too_long h) = plain_fault.too_long h
fault_before text e none (unreadable h f) = by (fault_stops f)
  where
    by : (HasNoTests text × IsReadFault text e) ⊎ Stopped text e → HasFault text e
    by (inl (none, g)) = plain_fault.unreadable h g
    by (inr (p, s, (b, r, after, begins, run), stop)) = absurd (none b after r begins)
fault_before text e none (too_many_kept {r = r} h (without_tests {p = p} d here w) many) = plain_fault.too_many_kept h (p, r, d, here, w, many)
fault_before text e none (too_many_kept {r = r} h (with_tests {p = p} {q = q} b d here w) many) = absurd (none p q r b)
fault_before text e none (too_many_captured {t = t} h s many) = plain_fault.too_many_captured {q = t.query} h (not_begun none (spelled_read s)).0 many
fault_before text e none (not_sound {t = t} h s few f) = plain_fault.not_sound {q = t.query} h (not_begun none (spelled_read s)).0 few f
fault_before text e none (no_variable {t = t} {x = x} h s sound missing) =
    absurd (rw (not_begun none (spelled_read s)).1 at missing)

fault_after : (text : List ℕ) (e : QueryFault) → HasNoTests text → HasFault text e → HasTestedFault text e
fault_after text e none (plain_fault.too_long h) = too_long h
fault_after text e none (plain_fault.unreadable h f) = unreadable h (of_query none f)
fault_after text e none (plain_fault.too_many_kept h (p, r, d, here, w, many)) = too_many_kept h (without_tests d here w) many
fault_after text e none (plain_fault.too_many_captured {q = q} h s many) = too_many_captured {t = plain q} h (plain_spelled text q s) many
fault_after text e none (plain_fault.not_sound {q = q} h s few f) = not_sound {t = plain q} h (plain_spelled text q s) few f

pub queries_before : QueriesAreAsBefore
queries_before = record {
  same_query = λ text q. (
    (λ h. (h.0, plain_spelled text q h.1, h.2, λ a none. absurd none)),
    (λ h. (h.0, spelled_plain text q h.1, h.2)),
  );
  same_fault = λ text e none. (fault_after text e none, fault_before text e none);
}
