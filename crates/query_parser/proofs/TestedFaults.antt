-- The one fault, or the one query, of a text with tests.
use Rattle.std.proofs.Common.{◌≡◌, ◌⊎◌, inl, inr, ℕ, ◌<◌, ◌≤◌, Bool, true, false, List, [], ◌∷◌, length, drop, Option, Some, Ok, Err, ap, refl, sym, subst, ◌∙◌, arith}
use Rattle.span_core.specs.declared.TheConstants.{MOST_VARIABLES}
use Rattle.span_core.specs.Lists.{AtMost, Has}
use Rattle.spanner_model.specs.Captures.{VarName}
use Rattle.spanner_model.specs.Expression.{QueryTree}
use Rattle.spanner_model.specs.Answer.{IsResultVar}
use Rattle.spanner_model.specs.Sound.{NameOf, IsSound}
use Rattle.query_parser.specs.declared.TheConstants.{MOST_TEXT_BYTES}
use Rattle.spanner_model.specs.declared.tested.Asked.{Asked}
use Rattle.query_parser.specs.declared.fault.QueryFault.{QueryFault}
use Rattle.query_parser.specs.declared.fault.QueryFault.TheVariants.{Unexpected, TooManyVariables, TooLong, TestVariable}
use Rattle.query_parser.specs.Tokens.{name_token, TokenAt}
use Rattle.query_parser.specs.Reads.{Reading, is_whole}
use Rattle.query_parser.specs.Faults.{IsReadFault}
use Rattle.query_parser.specs.TreeFaults.{IsTreeFault}
use Rattle.query_parser.specs.Nest.{Nest, Body, reading_of, outermost, whole_query}
use Rattle.query_parser.specs.Step.{EndsReading}
use Rattle.query_parser.specs.TokenRuns.{Run, query_step}
use Rattle.query_parser.specs.Tested.{where_word, ReadsTests, ends_tests, HasNoTests, IsTestedReadFault, IsReadWhole, without_tests, with_tests, FirstMissing, HasTestedFault, too_long, unreadable, too_many_kept, too_many_captured, not_sound, no_variable, IsTestedText}
use Rattle.spanner_model.specs.Tested.{TestedTree}
use Rattle.query_parser.specs.TestSteps.{TestLast, after_test, TestsRead, tests_at, no_test_read, test_mark, test_move, TestsStop, atom_stops, token_stops, stray_stops, end_stops, TestsBegin, HasTestsFrom, IsReadAs, without_where, with_where}
use Rattle.query_parser.proofs.TokensSpelled.{whole_many}
use Rattle.query_parser.proofs.TextLaws.{Answer}
use Rattle.query_parser.proofs.FaultLaws.{fault_ends, ends_kept, kept_ends}
use Rattle.query_parser.proofs.GrammarLaws.{same_answer, one_read_fault}
use Rattle.query_parser.proofs.QueryLaws.{sound_none, tree_one}
use Rattle.query_parser.proofs.RunsMeet.{end_halts, meets, one_token, end_no_token}
use Rattle.query_parser.proofs.TestTurns.{Begun, reads_begun, begun_reads, fault_stops, Stopped, stop_halts, one_stop}
use Rattle.query_parser.proofs.TestedReading.{read_run, where_halts, begins_ends, whole_found, found_whole, begin_begins, spelled_read}

-- ---- one reading

-- tests begin at one place, behind one query
abbrev tested_tree : QueryTree → List Asked → TestedTree
tested_tree q asked = record { query = q; asked = asked }

begin_one : {text : List ℕ} {p o after later : ℕ} {n m : Nest} {q r : QueryTree} {a b : Bool} → TestsBegin text p n q a after → TestsBegin text o m r b later →
    ◌≡◌ {A = Body} (q, a) (r, b) × (after ≡ later)
begin_one {text = text} {p = p} {o = o} {after = after} {later = later} {n = n} {m = m} {q = q} {r = r} {a = a} {b = b} x y =
    let one = meets query_step text x.reads (where_halts n (found_whole n (q, a) x.whole) x.word) y.reads (where_halts m (found_whole m (r, b) y.whole) y.word) in
    let both : ◌≡◌ {A = Option Body} (Some (q, a)) (Some (r, b)) = sym x.whole ∙ ap whole_query one.1 ∙ y.whole in
    let body : ◌≡◌ {A = Body} (q, a) (r, b) = cc in
    (body, (one_token (rw one.0 at x.word) y.word).1)

tests_one : {text : List ℕ} {p : ℕ} {asked others : List Asked} → HasTestsFrom text p asked → HasTestsFrom text p others → asked ≡ others
tests_one {text = text} {asked = asked} {others = others} (e, run, here) (g, more, there) =
    let one = meets test_move text run (end_halts test_move text e (tests_at asked after_test) here) more (end_halts test_move text g (tests_at others after_test) there) in
    ap (λ (s : TestsRead). s.asked) one.1

abbrev pub IsOne : QueryTree → Bool → List Asked → QueryTree → Bool → List Asked → Type 0
IsOne q a asked r b others = ◌≡◌ {A = Body} (q, a) (r, b) × (asked ≡ others)

begin_no_end : {text : List ℕ} {p after : ℕ} {n : Nest} {q : QueryTree} {many : Bool} {b : Body} → TestsBegin text p n q many after → EndsReading text 0 outermost (Ok b) → ⊥
begin_no_end {text = text} {p = p} {b = b} x e = let same = same_answer text (Ok b) (Err (Unexpected p)) e (begins_ends (begin_begins x)) in absurd (cc)

pub one_reading : {text : List ℕ} {q r : QueryTree} {a b : Bool} {asked others : List Asked} → IsReadAs text q a asked → IsReadAs text r b others → IsOne q a asked r b others
one_reading {text = text} {q = q} {r = r} {a = a} {b = b} (without_where x) (without_where y) =
    let same : ◌≡◌ {A = Answer} (Ok (q, a)) (Ok (r, b)) = same_answer text (Ok (q, a)) (Ok (r, b)) x y in
    let body : ◌≡◌ {A = Body} (q, a) (r, b) = cc in (body, refl)
one_reading (without_where x) (with_where y tests) = absurd (begin_no_end y x)
one_reading (with_where x tests) (without_where y) = absurd (begin_no_end x y)
one_reading {text = text} {asked = asked} (with_where x tests) (with_where y others) =
    let one = begin_one x y in (one.0, tests_one (rw (← one.1) tests) others)

-- ---- faults that are met when the text is read

-- where tests stop, they begin behind a query
begun_begins : {text : List ℕ} {p : ℕ} {s : TestsRead} → Begun text p s →
    (o : ℕ) × (n : Nest) × (b : Body) × (after : ℕ) × TestsBegin text o n b.0 b.1 after × Run test_move text after no_test_read p s
begun_begins (o, r, after, begins, run) =
    let (n, is, read) = read_run begins.reads in
    let (b, whole) = whole_found n (ap is_whole is ∙ begins.whole) in
    (o, n, b, after, record { reads = read; whole = whole; word = begins.word }, run)

pub read_no_fault : {text : List ℕ} {q : QueryTree} {many : Bool} {asked : List Asked} {e : QueryFault} → IsReadAs text q many asked → IsTestedReadFault text e → ⊥
read_no_fault {text = text} {q = q} {many = many} {e = e} read fault = by read (fault_stops fault)
  where
    not_end : {p : ℕ} {s : TestsRead} {d : QueryFault} → TestsStop text p s d → drop p text ≡ [] → s.last ≡ after_test → ⊥
    not_end (atom_stops (rest, at)) here last = absurd (cc)
    not_end (token_stops at is) here last = end_no_token here at
    not_end (stray_stops (rest, at) is) here last = absurd (cc)
    not_end (end_stops at w) here last = let ends : ends_tests _ ≡ true = ap (λ l. ends_tests (test_mark l)) last in absurd (cc)

    by : {others : List Asked} → IsReadAs text q many others → (HasNoTests text × IsReadFault text e) ⊎ Stopped text e → ⊥
    by (without_where ends) (inl (none, f)) = let same = same_answer text (Ok (q, many)) (Err e) ends (fault_ends f) in absurd (cc)
    by (with_where b tests) (inl (none, f)) = none _ _ _ (begin_begins b)
    by (without_where ends) (inr (p, s, begun, stop)) = let (o, n, b, after, begin, run) = begun_begins begun in begin_no_end begin ends
    by (with_where b (end, run, here)) (inr (p, s, begun, stop)) =
        let (o, n, c, after, begin, more) = begun_begins begun in
        let place = (begin_one begin b).1 in
        let one = meets test_move text (rw (← place) more) (stop_halts stop) run (end_halts test_move text end _ here) in
        not_end stop (rw one.0 here) (ap (λ (t : TestsRead). t.last) one.1)

pub one_reading_fault : {text : List ℕ} {e d : QueryFault} → IsTestedReadFault text e → IsTestedReadFault text d → e ≡ d
one_reading_fault {text = text} {e = e} {d = d} x y = by (fault_stops x) (fault_stops y)
  where
    apart : {c : QueryFault} → HasNoTests text → Stopped text c → ⊥
    apart none (p, s, (o, r, after, begins, run), stop) = none o after r begins

    by : (HasNoTests text × IsReadFault text e) ⊎ Stopped text e → (HasNoTests text × IsReadFault text d) ⊎ Stopped text d → e ≡ d
    by (inl (none, f)) (inl (also, g)) = (one_read_fault text e f).0 d g
    by (inl (none, f)) (inr stopped) = absurd (apart none stopped)
    by (inr stopped) (inl (none, f)) = absurd (apart none stopped)
    by (inr (p, s, begun, stop)) (inr (q, k, other, halt)) =
        let (o, n, b, after, begin, run) = begun_begins begun in
        let (i, m, c, later, begin', more) = begun_begins other in
        let place = (begin_one begin begin').1 in
        let one = meets test_move text (rw (← place) run) (stop_halts stop) more (stop_halts halt) in
        one_stop (rw (← one.0) (rw (← one.1) stop)) halt

-- ---- what is kept

pub kept_read : {text : List ℕ} {r : Reading} → IsReadWhole text r → r.many ≡ true → (q : QueryTree) × (asked : List Asked) × IsReadAs text q true asked
kept_read {text = text} {r = r} (without_tests {p = p} d here w) many = let (q, e) = kept_ends text (p, r, d, here, w, many) in (q, [], without_where e)
kept_read {text = text} {r = r} (with_tests {p = p} {q = q} {e = e} {m = m} b d here w) many =
    let (n, is, read) = read_run b.reads in
    let (body, whole) = whole_found n (ap is_whole is ∙ b.whole) in
    let kept : body.1 ≡ true = whole_many n.lets n.many n.top n.below n.current n.last body whole ∙ ap (λ (x : Reading). x.many) is ∙ many in
    let begin : TestsBegin text p n body.0 true q =
    record { reads = read; whole = whole ∙ ap (λ c. Some (body.0, c)) kept; word = b.word } in
    let (s, begun, same) = reads_begun d in
    let (o, k, c, after, other, run) = begun_begins begun in
    let place = (begin_one other begin).1 in
    let run' = rw place at run in
    let last = ended s.last (ap ends_tests same ∙ w) in
    (body.0, s.asked, with_where begin (e, rw (← last) run', here))
  where
    ended : (l : TestLast) → ends_tests (test_mark l) ≡ true → l ≡ after_test
    ended after_test w = refl
    ended l w = absurd (cc)

pub read_kept : {text : List ℕ} {q : QueryTree} {asked : List Asked} → IsReadAs text q true asked → (r : Reading) × IsReadWhole text r × (r.many ≡ true)
read_kept {text = text} {q = q} (without_where e) = let (p, r, d, here, w, many) = ends_kept text q e in (r, without_tests d here w, many)
read_kept {text = text} {q = q} (with_where {p = p} {after = after} {n = n} {asked = asked} b (e, run, here)) =
    let begins = begin_begins b in
    let d : ReadsTests text e (test_mark after_test) = begun_reads {s = tests_at asked after_test} (p, reading_of n, after, begins, run) in
    (reading_of n, with_tests begins d here refl, sym (whole_many n.lets n.many n.top n.below n.current n.last (q, true) b.whole))

-- ---- faults by stages

-- what is wrong with a query and its tests that stand whole
abbrev Late : QueryTree → Bool → List Asked → QueryFault → Type 0
Late q true asked e = e ≡ TooManyVariables
Late q false asked e =
    (¬ AtMost MOST_VARIABLES (NameOf q) × (e ≡ TooManyVariables))
    ⊎ ((AtMost MOST_VARIABLES (NameOf q) × IsTreeFault q e)
    ⊎ ((x : VarName) × IsSound q × FirstMissing (IsResultVar q) asked x × (e ≡ TestVariable x)))

abbrev Staged : List ℕ → QueryFault → Type 0
Staged text e =
    ((MOST_TEXT_BYTES < length text) × (e ≡ TooLong))
    ⊎ ((length text ≤ MOST_TEXT_BYTES)
    × (IsTestedReadFault text e ⊎ ((q : QueryTree) × (many : Bool) × (asked : List Asked) × IsReadAs text q many asked × Late q many asked e)))

staged : {text : List ℕ} {e : QueryFault} → HasTestedFault text e → Staged text e
staged (too_long h) = inl (h, refl)
staged (unreadable h f) = inr (h, inl f)
staged (too_many_kept h whole many) = let (q, asked, read) = kept_read whole many in inr (h, inr (q, true, asked, read, refl))
staged (too_many_captured {t = t} h s many) = inr (h, inr (t.query, false, t.asked, spelled_read s, inl (many, refl)))
staged (not_sound {t = t} h s few f) = inr (h, inr (t.query, false, t.asked, spelled_read s, inr (inl (few, f))))
staged (no_variable {t = t} {x = x} h s sound missing) = inr (h, inr (t.query, false, t.asked, spelled_read s, inr (inr (x, sound, missing, refl))))

missing_one : (V : VarName → Type 0) (asked : List Asked) (x y : VarName) → FirstMissing V asked x → FirstMissing V asked y → x ≡ y
missing_one V [] x y h g = absurd h
missing_one V (a ∷ asked) x y (inl h) (inl g) = sym h.1 ∙ g.1
missing_one V (a ∷ asked) x y (inl h) (inr g) = absurd (h.0 g.0)
missing_one V (a ∷ asked) x y (inr h) (inl g) = absurd (g.0 h.0)
missing_one V (a ∷ asked) x y (inr h) (inr g) = missing_one V asked x y h.1 g.1

late_one : (q : QueryTree) (many : Bool) (asked : List Asked) (e d : QueryFault) → Late q many asked e → Late q many asked d → e ≡ d
late_one q true asked e d h g = h ∙ sym g
late_one q false asked e d (inl h) (inl g) = h.1 ∙ sym g.1
late_one q false asked e d (inl h) (inr (inl g)) = absurd (h.0 g.0)
late_one q false asked e d (inl h) (inr (inr g)) = absurd (h.0 g.1.few)
late_one q false asked e d (inr (inl h)) (inl g) = absurd (g.0 h.0)
late_one q false asked e d (inr (inl h)) (inr (inl g)) = tree_one q e d h.1 g.1
late_one q false asked e d (inr (inl h)) (inr (inr g)) = absurd (sound_none q e g.1 h.1)
late_one q false asked e d (inr (inr h)) (inl g) = absurd (g.0 h.1.few)
late_one q false asked e d (inr (inr h)) (inr (inl g)) = absurd (sound_none q d h.1 g.1)
late_one q false asked e d (inr (inr h)) (inr (inr g)) = h.3 ∙ ap (λ x. TestVariable x) (missing_one (IsResultVar q) asked h.0 g.0 h.2 g.2) ∙ sym g.3

-- what is wrong with one reading is wrong with the other, as they are one
late_same : (q r : QueryTree) (a b : Bool) (asked others : List Asked) (e : QueryFault) → IsOne q a asked r b others → Late q a asked e → Late r b others e
late_same q r a b asked others e (body, tests) late =
    subst (λ (z : Body). Late z.0 z.1 others e) body (subst (λ z. Late q a z e) tests late)

pub one_tested_fault : (text : List ℕ) (e d : QueryFault) → HasTestedFault text e → HasTestedFault text d → e ≡ d
one_tested_fault text e d x y = by (staged x) (staged y)
  where
    by : Staged text e → Staged text d → e ≡ d
    by (inl h) (inl g) = h.1 ∙ sym g.1
    by (inl h) (inr g) = absurd (omega (arith, h.0, g.0))
    by (inr h) (inl g) = absurd (omega (arith, h.0, g.0))
    by (inr (h, inl f)) (inr (g, inl k)) = one_reading_fault f k
    by (inr (h, inl f)) (inr (g, inr (q, many, asked, read, late))) = absurd (read_no_fault read f)
    by (inr (h, inr (q, many, asked, read, late))) (inr (g, inl f)) = absurd (read_no_fault read f)
    by (inr (h, inr (q, a, asked, read, late))) (inr (g, inr (r, b, others, also, wrong))) = late_one r b others e d (late_same q r a b asked others e (one_reading read also) late) wrong

of_result : (V : VarName → Type 0) (asked : List Asked) (x : VarName) → ((a : Asked) → Has asked a → V a.var) → FirstMissing V asked x → ⊥
of_result V [] x all h = h
of_result V (a ∷ asked) x all (inl h) = h.0 (all a (inl refl))
of_result V (a ∷ asked) x all (inr h) = of_result V asked x (λ b has. all b (inr has)) h.1

pub tested_not_both : (text : List ℕ) (t : TestedTree) (e : QueryFault) → IsTestedText text t → HasTestedFault text e → ⊥
tested_not_both text t e (short, spelled, sound, vars) fault = by (staged fault)
  where
    wrong : Late t.query false t.asked e → ⊥
    wrong (inl h) = h.0 sound.few
    wrong (inr (inl h)) = sound_none t.query e sound h.1
    wrong (inr (inr h)) = of_result (IsResultVar t.query) t.asked h.0 vars h.2

    by : Staged text e → ⊥
    by (inl h) = absurd (omega (arith, h.0, short))
    by (inr (h, inl f)) = read_no_fault (spelled_read spelled) f
    by (inr (h, inr (q, many, asked, read, late))) = wrong (late_same q t.query many false asked t.asked e (one_reading read (spelled_read spelled)) late)

pub one_tested : (text : List ℕ) (t u : TestedTree) → IsTestedText text t → IsTestedText text u → t ≡ u
one_tested text t u a b = by (one_reading (spelled_read a.1) (spelled_read b.1))
  where
    by : IsOne t.query false t.asked u.query false u.asked → t ≡ u
    by (body, tests) =
        let query : t.query ≡ u.query = ap (λ (z : Body). z.0) body in
        ap (λ q. tested_tree q t.asked) query ∙ ap (tested_tree u.query) tests
