-- A text with tests: what is read of it, and what it spells.
use Rattle.std.proofs.Common.{◌≡◌, ◌⊎◌, inl, inr, ℕ, zero, suc, ◌+◌, Bool, true, false, List, [], ◌∷◌, ◌++◌, length, drop, Option, Some, None, Ok, Err, ap, refl, sym, subst, ◌∙◌}
use Rattle.std.proofs.lemmas.List.{append-nil}
use Rattle.spanner_model.specs.Captures.{VarName}
use Rattle.spanner_model.specs.Expression.{AtomTree, QueryTree}
use Rattle.formula_parser.specs.Spells.{IsAtomAt}
use Rattle.formula_parser.proofs.AtomLaws.{no_tree_with_fault}
use Rattle.spanner_model.specs.declared.tested.Asked.{Asked}
use Rattle.query_parser.specs.declared.fault.QueryFault.{QueryFault}
use Rattle.query_parser.specs.declared.fault.QueryFault.TheVariants.{Unexpected, OutOfMemory}
use Rattle.query_parser.specs.Tokens.{Token, name_token, TokenAt, atom_at, HasTokens}
use Rattle.query_parser.specs.Spells.{Spells}
use Rattle.query_parser.specs.Reads.{Mark, Reading, unexpected, next, is_whole, ReadsQuery, start_read}
use Rattle.query_parser.specs.Reads as reads
use Rattle.query_parser.specs.Faults.{token_refused}
use Rattle.query_parser.specs.Nest.{Nest, Move, Body, Last, unit, mark_of, reading_of, outermost, move, moves_name, whole_query}
use Rattle.query_parser.specs.Step.{step, goes, reads_atom, moved, EndsAfter, EndsReading}
use Rattle.query_parser.specs.Turn.{IsTurn}
use Rattle.query_parser.specs.TokenRuns.{Run, run_ends, run_blank, run_token, query_step, IsReadTo}
use Rattle.query_parser.specs.Tested.{where_word, Placed, HasPlaced, SpellsTests, SpellsWhere, no_test, tests_follow, SpellsTested, BeginsTests, HasNoTests}
use Rattle.spanner_model.specs.Tested.{TestedTree}
use Rattle.query_parser.specs.Tested as placed
use Rattle.query_parser.specs.TestSteps.{after_test, tests_at, no_test_read, test_move, TestsBegin, IsReadAs, without_where, with_where}
use Rattle.query_parser.proofs.MoveLaws.{seen, shape}
use Rattle.query_parser.proofs.SpelledMoves.{Runs, reads_query}
use Rattle.query_parser.proofs.TokensSpelled.{spelled_query}
use Rattle.query_parser.proofs.StepLaws.{ends_more, at_blank, Steps, by_atom, by_move, token_steps, atom_wanted, wanted, token_ends, Went, went_blank, went_token, went, atom_due}
use Rattle.query_parser.proofs.TextLaws.{Answer, spelled_ends, ends_spelled, tokens_proper}
use Rattle.query_parser.proofs.FaultLaws.{is_found, whole_of, fault_ends}
use Rattle.query_parser.proofs.TurnLaws.{atom_moves}
use Rattle.query_parser.proofs.RunsMeet.{run_on, Halted, meets, one_token, blank_no_token}
use Rattle.query_parser.proofs.TestMoves.{tokens_of, tokens_placed, placed_tokens, proper_front, proper_back, placed_run, run_placed, leads_query, query_runs, tests_lead, tests_spelled}

-- ---- runs of a query

run_from : {text : List ℕ} {p e : ℕ} {n m : Nest} → ReadsQuery text p (reading_of n) → Run query_step text p n e m → ReadsQuery text e (reading_of m)
run_from d run_ends = d
run_from d (run_blank at run) = run_from (reads.blank_read d at) run
run_from {n = n} d (run_token {t = t} at moves run) = run_from (reads.token_read d at (sym (shape t n) ∙ ap seen moves)) run

pub run_read : {text : List ℕ} {p : ℕ} {n : Nest} → IsReadTo text p n → ReadsQuery text p (reading_of n)
run_read run = run_from start_read run

pub read_run : {text : List ℕ} {p : ℕ} {r : Reading} → ReadsQuery text p r → (n : Nest) × (reading_of n ≡ r) × IsReadTo text p n
read_run start_read = (outermost, refl, run_ends)
read_run {text = text} (reads.blank_read d at) = let (n, is, run) = read_run d in (n, is, run_on query_step text run (run_blank at run_ends))
read_run {text = text} (reads.token_read {p = p} {q = q} {r = r} {s = s} {t = t} d at is) =
    let (n, e, run) = read_run d in by n run (move t n) refl (shape t n ∙ ap (λ (x : Reading). next x.mark x t) e ∙ is)
  where
    by : (n : Nest) → IsReadTo text p n → (found : Move) → move t n ≡ found → seen found ≡ Ok s → (m : Nest) × (reading_of m ≡ s) × IsReadTo text q m
    by n run (Ok m) f same = let here : reading_of m ≡ s = cc in (m, here, run_on query_step text run (run_token at f run_ends))
    by n run (Err why) f same = absurd (cc)

-- a reading goes on from where a run ends
pub run_goes : {text : List ℕ} {p e : ℕ} {n m : Nest} → Run query_step text p n e m → (r : Answer) → EndsReading text e m r → EndsReading text p n r
run_goes run_ends r x = x
run_goes {text = text} {p = p} {n = n} (run_blank at run) r x = ends_more text p 1 n n r (at_blank text p n at) (run_goes run r x)
run_goes {text = text} {p = p} {n = n} (run_token {q = q} {k = k} {t = t} at moves run) r x = token_ends text p q t n k r at moves (run_goes run r x)

-- the turns of the code are runs
pub turn_runs : (text : List ℕ) (at len : ℕ) (n m : Nest) → IsTurn (Ok len) text at n m → IsReadTo text at n → IsReadTo text (at + len) m
turn_runs text at len n m (inl is) run = by (went text at n m len is)
  where
    by : {l : ℕ} {k : Nest} → Went text at n l k → IsReadTo text (at + l) k
    by (went_blank b) = run_on query_step text run (run_blank b run_ends)
    by (went_token t token moves) = run_on query_step text run (run_token token moves run_ends)
turn_runs text at len n m (inr (is, (a, found, same))) run =
    let due = atom_due text at n is in
    run_on query_step text run (run_token (atom_at due.0 found) (atom_moves a n due.1 ∙ ap (λ k. Ok k) (sym same)) run_ends)

-- what a token that may come next does
token_does : {text : List ℕ} {at q : ℕ} {t : Token} (n k : Nest) → TokenAt text at t q → move t n ≡ Ok k →
    ((len : ℕ) × (step at (drop at text) n ≡ goes len k)) ⊎ ((step at (drop at text) n ≡ reads_atom) × ((a : AtomTree) × IsAtomAt text at (a, q)))
token_does {text = text} {at = at} n k token moves = by (token_steps token) moves
  where
    by : {u : Token} {r : ℕ} → Steps text at u r → move u n ≡ Ok k →
        ((len : ℕ) × (step at (drop at text) n ≡ goes len k)) ⊎ ((step at (drop at text) n ≡ reads_atom) × ((a : AtomTree) × IsAtomAt text at (a, r)))
    by (by_atom {a = a} does found) moves = inr (does n ∙ wanted at n (atom_wanted a n k moves), (a, found))
    by (by_move len does) moves = inl (len, does n ∙ ap (moved at len) moves)

-- where the reading stops nothing goes on
pub ends_halts : (text : List ℕ) (at : ℕ) (n : Nest) (r : Answer) → EndsAfter zero text at n r → Halted query_step text at n
ends_halts text at n r (inl is) = (
  λ b. let goes_on = at_blank text at n b in absurd (cc),
  λ t q k token moves. elim (token_does n k token moves) [ inl goes_on ↦ (let same = sym goes_on.1 ∙ is in absurd (cc)) | inr atom ↦ (let same = sym atom.0 ∙ is in absurd (cc)) ],
)
ends_halts text at n r (inr (is, (f, fault, same))) = (
  λ b. let goes_on = at_blank text at n b in absurd (cc),
  λ t q k token moves. elim (token_does n k token moves) [
    | inl goes_on ↦ (let same = sym goes_on.1 ∙ is in absurd (cc))
    | inr atom ↦ no_tree_with_fault text at (atom.1.0, q) f atom.1.1 fault
  ],
)

pub turn_ends : (text : List ℕ) (at : ℕ) (n m : Nest) (e : QueryFault) → IsTurn (Err e) text at n m → (e ≡ OutOfMemory) ⊎ EndsAfter zero text at n (Err e)
turn_ends text at n m OutOfMemory is = inl refl
turn_ends text at n m e (inl is) = inr (inl is)
turn_ends text at n m e (inr (is, (f, fault, same))) = inr (inr (is, (f, fault, ap (λ x. Err x) same)))

-- each reading is a run to where it stops
pub ends_run : (steps : ℕ) (text : List ℕ) (at : ℕ) (n : Nest) (r : Answer) → EndsAfter steps text at n r →
    (p : ℕ) × (m : Nest) × Run query_step text at n p m × EndsAfter zero text p m r
ends_run zero text at n r last = (at, n, run_ends, last)
ends_run (suc steps) text at n r (inl (len, m, is, rest)) = by (went text at n m len is) (ends_run steps text (at + len) m r rest)
  where
    by : {l : ℕ} {k : Nest} → Went text at n l k → ((p : ℕ) × (m : Nest) × Run query_step text (at + l) k p m × EndsAfter zero text p m r) →
        (p : ℕ) × (m : Nest) × Run query_step text at n p m × EndsAfter zero text p m r
    by (went_blank b) (p, m, run, last) = (p, m, run_blank b run, last)
    by (went_token t token moves) (p, m, run, last) = (p, m, run_token token moves run, last)
ends_run (suc steps) text at n r (inr (is, (a, q, k, found, moves, rest))) =
    let (p, m, run, last) = ends_run steps text q k r rest in (p, m, run_token (atom_at (atom_due text at n is).0 found) moves run, last)

-- ---- where tests begin

where_out : (m : Mark) (opened : ℕ) (current : Option VarName) (r : Reading) → reads.ends_body m opened current ≡ true → next m r (name_token where_word) ≡ Err unexpected
where_out reads.after_unit opened current r e = refl
where_out m opened current r e = absurd (cc)

where_stays : (last : Last) (opened : ℕ) (current : Option VarName) (n : Nest) → reads.ends_body (mark_of last) opened current ≡ true → n.last ≡ last → move (name_token where_word) n ≡ Err unexpected
where_stays (unit e) opened current n w is = ap (λ l. moves_name where_word l n) is
where_stays last opened current n w is = absurd (cc)

-- there the reading of the query stops
pub where_halts : {text : List ℕ} {p after : ℕ} (n : Nest) → is_whole (reading_of n) ≡ true → TokenAt text p (name_token where_word) after → Halted query_step text p n
where_halts {text = text} {p = p} n w word = (
  λ b. blank_no_token b word,
  λ t q k token moves.
      let none = where_stays n.last (length n.below) n.current n w refl in
      let goes_on : move (name_token where_word) n ≡ Ok k = ap (λ z. move z n) (sym (one_token token word).0) ∙ moves in absurd (cc),
)

-- with an unexpected word, as far as the query is concerned
pub begins_ends : {text : List ℕ} {p after : ℕ} {r : Reading} → BeginsTests text p r after → EndsReading text 0 outermost (Err (Unexpected p))
begins_ends {r = r} b = fault_ends (token_refused b.reads b.word (where_out r.mark r.opened r.current r b.whole))

-- no tests begin where the reading of the query stops elsewhere
pub no_tests_here : {text : List ℕ} {at : ℕ} {n : Nest} → IsReadTo text at n → Halted query_step text at n →
    (is_whole (reading_of n) ≡ true → (q : ℕ) → TokenAt text at (name_token where_word) q → ⊥) → HasNoTests text
no_tests_here {text = text} {at = at} {n = n} run halts none p q r begins =
    let (m, is, other) = read_run begins.reads in
    let whole : is_whole (reading_of m) ≡ true = ap is_whole is ∙ begins.whole in
    let one = meets query_step text other (where_halts m whole begins.word) run halts in
    none (ap (λ k. is_whole (reading_of k)) (sym one.1) ∙ whole) q (rw one.0 at begins.word)

pub whole_found : (n : Nest) → is_whole (reading_of n) ≡ true → (b : Body) × (whole_query n ≡ Some b)
whole_found n w = by (whole_query n) refl (whole_of n (reading_of n) refl ∙ w)
  where
    by : (found : Option Body) → whole_query n ≡ found → is_found found ≡ true → (b : Body) × (whole_query n ≡ Some b)
    by (Some b) f e = (b, f)
    by None f e = absurd (cc)

pub found_whole : (n : Nest) (b : Body) → whole_query n ≡ Some b → is_whole (reading_of n) ≡ true
found_whole n b f = sym (whole_of n (reading_of n) refl) ∙ ap is_found f

pub begin_begins : {text : List ℕ} {p after : ℕ} {n : Nest} {q : QueryTree} {many : Bool} → TestsBegin text p n q many after → BeginsTests text p (reading_of n) after
begin_begins {n = n} {q = q} {many = many} b = record { reads = run_read b.reads; whole = found_whole n (q, many) b.whole; word = b.word }

-- ---- what is read is spelled, and what is spelled is read

pub read_spelled : {text : List ℕ} {q : QueryTree} {asked : List Asked} → IsReadAs text q false asked → SpellsTested text (record { query = q; asked = asked })
read_spelled {text = text} {q = q} (without_where e) =
    let (ts, has, spells) = ends_spelled text q e in
    let (ps, found, is) = tokens_placed has in
    record { query = ps; tests = []; placed = subst (HasPlaced text 0) (sym (append-nil ps)) found; spells_query = subst (λ us. Spells us q) (sym is) spells; spells_tests = no_test }
read_spelled {text = text} {q = q} {asked = asked} (with_where {p = p} {n = n} b (e, run, here)) =
    let (us, tests, lead) = run_placed test_move run (placed.text_ends here) in
    let whole = (p, name_token where_word) ∷ (us ++ []) in
    let (ts, all, query) = run_placed query_step b.reads (placed.token_first b.word tests) in
    let proper = tokens_proper (placed_tokens all) in
    let both = proper_back ts whole proper in
    record {
      query = ts;
      tests = whole;
      placed = all;
      spells_query = spelled_query (tokens_of ts) n q (proper_front ts whole proper) (query_runs ts outermost n query) b.whole;
      spells_tests = tests_follow (subst (λ xs. SpellsTests xs asked) (sym (append-nil us)) (tests_spelled us asked (proper_front us [] both.1) lead));
    }

pub spelled_read : {text : List ℕ} {t : TestedTree} → SpellsTested text t → IsReadAs text t.query false t.asked
spelled_read {text = text} {t = t} s = by s.tests t.asked s.spells_tests s.placed
  where
    run : (m : Nest) × Runs outermost (tokens_of s.query) m × (whole_query m ≡ Some (t.query, false))
    run = reads_query (tokens_of s.query) t.query s.spells_query

    by : (tests : List Placed) (asked : List Asked) → SpellsWhere tests asked → HasPlaced text 0 (s.query ++ tests) → IsReadAs text t.query false asked
    by tests asked no_test has =
        without_where (spelled_ends text t.query (tokens_of s.query, rw (← append-nil s.query) (placed_tokens has), s.spells_query))
    by tests asked (tests_follow {p = p} {ts = ts} follow) has =
        let (m, leads, whole) = run in
        let (e, query, rest) = placed_run query_step has s.query ((p, name_token where_word) ∷ ts) outermost m refl (leads_query s.query outermost m leads) in
        after_query m e whole rest query
      where
        after_query : (m : Nest) (e : ℕ) → whole_query m ≡ Some (t.query, false) → HasPlaced text e ((p, name_token where_word) ∷ ts) → IsReadTo text e m → IsReadAs text t.query false asked
        after_query m e whole (placed.blank_first at rest) query = after_query m (e + 1) whole rest (run_on query_step text query (run_blank at run_ends))
        after_query m e whole (placed.token_first {q = q} at rest) query =
            let (end, tests, none) = placed_run test_move rest ts [] no_test_read (tests_at asked after_test) (sym (append-nil ts)) (tests_lead follow) in
            tests_end m e q whole query at end none tests
          where
            tests_end : (m : Nest) (e q : ℕ) → whole_query m ≡ Some (t.query, false) → IsReadTo text e m → TokenAt text e (name_token where_word) q →
                (end : ℕ) → HasPlaced text end [] → Run test_move text q no_test_read end (tests_at asked after_test) → IsReadAs text t.query false asked
            tests_end m e q whole query at end (placed.text_ends here) tests = with_where (record { reads = query; whole = whole; word = at }) (end, tests, here)
            tests_end m e q whole query at end (placed.blank_first b none) tests = tests_end m e q whole query at (end + 1) none (run_on test_move text tests (run_blank b run_ends))
