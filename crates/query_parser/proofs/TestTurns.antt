-- Steps of reading tests: what goes on, and what stops it.
use Rattle.std.proofs.Common.{◌≡◌, ◌⊎◌, inl, inr, ℕ, ◌+◌, ◌<◌, ◌≤◌, Bool, true, false, List, [], ◌∷◌, length, length-append, drop, Result, Ok, Err, ap, refl, sym, subst, ◌∙◌, arith, cond, if◌then◌else◌}
use Rattle.std.specs.List.{take_while}
use Rattle.std.proofs.lemmas.List.Sums.{take_while-cons}
use Rattle.span_core.specs.Names.{is_name, is_name_start, is_name_byte}
use Rattle.spanner_model.specs.Captures.{VarName}
use Rattle.formula_parser.proofs.RunLaws.{run_of}
use Rattle.formula_parser.proofs.HeadLaws.{start_continues}
use Rattle.spanner_model.specs.declared.tested.Asked.{Asked}
use Rattle.query_parser.specs.declared.fault.QueryFault.{QueryFault}
use Rattle.query_parser.specs.declared.fault.QueryFault.TheVariants.{Unexpected, OutOfMemory}
use Rattle.query_parser.specs.Tokens.{Token, name_token, open_paren, close_paren, comma, sign_token, is_blank, TokenAt, atom_at, word_at, sign_at}
use Rattle.query_parser.specs.Reads.{Reading, Refusal, unexpected, name_too_long}
use Rattle.query_parser.specs.Faults.{refused, IsReadFault}
use Rattle.query_parser.specs.Step as code
use Rattle.query_parser.specs.TokenRuns.{Run, run_ends, run_blank, run_token}
use Rattle.query_parser.specs.Tested.{TestMark, next_of_tests, reads_test_name, BeginsTests, ReadsTests, word_read, HasNoTests, IsTestedReadFault, of_query, atom_in_tests, token_in_tests, no_token_in_tests, tests_not_whole}
use Rattle.query_parser.specs.Tested as grammar
use Rattle.query_parser.specs.TestSteps.{TestLast, at_test, after_test_name, after_test_open, after_test_var, after_test, TestsRead, tests_at, no_test_read, test_mark, TestMove, test_name_read, test_move, TestNext, test_goes, test_stops, test_moved, test_words, test_signs, test_step, TestsStop, atom_stops, token_stops, stray_stops, end_stops}
use Rattle.query_parser.specs.TestAnswers.{IsTestStep, AreReadFrom}
use Rattle.query_parser.proofs.StepLaws.{Front, blank, slash, starts, sign, stray, front_of, start_no_blank, sign_is, sign_no_other, word_here}
use Rattle.query_parser.proofs.RunsMeet.{run_on, Halted, end_halts, one_token, word_front, same_front, no_slash_starts, no_slash_sign, no_blank_slash, blank_no_token, end_no_token, stray_no_blank, stray_no_token}

-- ---- what is read of tests, and what may come next

abbrev test_seen : TestMove → Result TestMark Refusal
test_seen (Ok s) = Ok (test_mark s.last)
test_seen (Err why) = Err why

name_seen : (x : VarName) (s : TestsRead) → test_seen (test_name_read x s) ≡ reads_test_name x (test_mark s.last)
name_seen x s = by (is_name x)
  where
    by : (b : Bool) → test_seen (if b then Ok s else Err name_too_long) ≡ (if b then Ok (test_mark s.last) else Err name_too_long)
    by true = refl
    by false = refl

shape_at : (at : ℕ) (t : Token) (last : TestLast) (asked : List Asked) → test_seen (test_move at t (tests_at asked last)) ≡ next_of_tests (test_mark last) t
shape_at at (name_token x) at_test asked = name_seen x (tests_at asked (after_test_name x at))
shape_at at (name_token x) (after_test_open test p) asked = name_seen x (tests_at asked (after_test_var (grammar.asked_of test p x)))
shape_at at open_paren (after_test_name x p) asked = refl
shape_at at close_paren (after_test_var a) asked = refl
shape_at at comma after_test asked = refl
shape_at at t at_test asked = refl
shape_at at t (after_test_name x p) asked = refl
shape_at at t (after_test_open test p) asked = refl
shape_at at t (after_test_var a) asked = refl
shape_at at t after_test asked = refl

pub test_shape : (at : ℕ) (t : Token) (s : TestsRead) → test_seen (test_move at t s) ≡ next_of_tests (test_mark s.last) t
test_shape at t s = shape_at at t s.last s.asked

-- what was read of tests is a run from their beginning
abbrev pub Begun : List ℕ → ℕ → TestsRead → Type 0
Begun text p s = (b : ℕ) × (r : Reading) × (after : ℕ) × BeginsTests text b r after × Run test_move text after no_test_read p s

pub reads_begun : {text : List ℕ} {p : ℕ} {m : TestMark} → ReadsTests text p m → (s : TestsRead) × Begun text p s × (test_mark s.last ≡ m)
reads_begun (word_read {p = p} {q = q} {r = r} begins) = (no_test_read, (p, r, q, begins, run_ends), refl)
reads_begun {text = text} (grammar.blank_read d at) =
    let (s, (b, r, after, begins, run), is) = reads_begun d in (s, (b, r, after, begins, run_on test_move text run (run_blank at run_ends)), is)
reads_begun {text = text} (grammar.token_read {p = p} {q = q} {m = m} {n = n} {t = t} d at moves) =
    let (s, (b, r, after, begins, run), is) = reads_begun d in
    by s b r after begins run (test_move p t s) refl (test_shape p t s ∙ ap (λ x. next_of_tests x t) is ∙ moves)
  where
    by : (s : TestsRead) (b : ℕ) (r : Reading) (after : ℕ) → BeginsTests text b r after → Run test_move text after no_test_read p s → (found : TestMove) → test_move p t s ≡ found →
        test_seen found ≡ Ok n → (k : TestsRead) × Begun text q k × (test_mark k.last ≡ n)
    by s b r after begins run (Ok k) f e = (k, (b, r, after, begins, run_on test_move text run (run_token at f run_ends)), cc)
    by s b r after begins run (Err why) f e = absurd (cc)

run_reads : {text : List ℕ} {p e : ℕ} {s f : TestsRead} → ReadsTests text p (test_mark s.last) → Run test_move text p s e f → ReadsTests text e (test_mark f.last)
run_reads d run_ends = d
run_reads d (run_blank at run) = run_reads (grammar.blank_read d at) run
run_reads {p = p} {s = s} d (run_token {k = k} {t = t} at moves run) = run_reads {s = k} (grammar.token_read d at (sym (test_shape p t s) ∙ ap test_seen moves)) run

pub begun_reads : {text : List ℕ} {p : ℕ} {s : TestsRead} → Begun text p s → ReadsTests text p (test_mark s.last)
begun_reads (b, r, after, begins, run) = run_reads {s = no_test_read} (word_read begins) run

-- ---- what stops them

pub stop_fault : {text : List ℕ} {p : ℕ} {s : TestsRead} {e : QueryFault} → Begun text p s → TestsStop text p s e → IsTestedReadFault text e
stop_fault d (atom_stops at) = atom_in_tests (begun_reads d) at
stop_fault {p = p} {s = s} d (token_stops {t = t} at is) = token_in_tests (begun_reads d) at (sym (test_shape p t s) ∙ ap test_seen is)
stop_fault d (stray_stops at is) = no_token_in_tests (begun_reads d) at is
stop_fault d (end_stops here w) = tests_not_whole (begun_reads d) here w

abbrev pub Stopped : List ℕ → QueryFault → Type 0
Stopped text e = (p : ℕ) × (s : TestsRead) × Begun text p s × TestsStop text p s e

pub fault_stops : {text : List ℕ} {e : QueryFault} → IsTestedReadFault text e → (HasNoTests text × IsReadFault text e) ⊎ Stopped text e
fault_stops (of_query none f) = inl (none, f)
fault_stops (atom_in_tests {p = p} d at) = let (s, begun, is) = reads_begun d in inr (p, s, begun, atom_stops at)
fault_stops {text = text} (token_in_tests {p = p} {m = m} {t = t} {why = why} d at moves) =
    let (s, begun, is) = reads_begun d in
    inr (p, s, begun, token_stops at (by s (test_move p t s) refl (test_shape p t s ∙ ap (λ x. next_of_tests x t) is ∙ moves)))
  where
    by : (s : TestsRead) (found : TestMove) → test_move p t s ≡ found → test_seen found ≡ Err why → test_move p t s ≡ Err why
    by s (Ok k) f e = absurd (cc)
    by s (Err w) f e = f ∙ (let same : w ≡ why = cc in ap (λ x. Err x) same)
fault_stops (no_token_in_tests {p = p} d at is) = let (s, begun, same) = reads_begun d in inr (p, s, begun, stray_stops at is)
fault_stops (tests_not_whole {p = p} d here w) =
    let (s, begun, is) = reads_begun d in inr (p, s, begun, end_stops here (ap grammar.ends_tests is ∙ w))

-- where a `/` stands there is an atom, or no token
slash_refused : {text : List ℕ} {p q : ℕ} {rest : List ℕ} {t : Token} (s : TestsRead) → drop p text ≡ 47 ∷ rest → TokenAt text p t q → test_move p t s ≡ Err unexpected
slash_refused s here (atom_at at found) = refl
slash_refused {text = text} {p = p} s here (word_at x is same) = let (c, r, there, w) = word_front text p x is in absurd (no_slash_starts (same_front text p there here) w)
slash_refused {text = text} {p = p} s here (sign_at (r, there) is) = absurd (no_slash_sign (same_front text p there here) is)

pub stop_halts : {text : List ℕ} {p : ℕ} {s : TestsRead} {e : QueryFault} → TestsStop text p s e → Halted test_move text p s
stop_halts {text = text} {p = p} {s = s} (atom_stops (r, here)) = (
  λ b. no_blank_slash (same_front text p b.1.1 here) b.2,
  λ t q k at moves. let none = slash_refused s here at in absurd (cc),
)
stop_halts {text = text} {p = p} {s = s} (token_stops {t = u} at is) = (
  λ b. blank_no_token b at,
  λ t q k there moves. let none : test_move p t s ≡ Err _ = ap (λ z. test_move p z s) (one_token there at).0 ∙ is in absurd (cc),
)
stop_halts {text = text} {p = p} (stray_stops (r, here) is) = (λ b. stray_no_blank text p here is b, λ t q k at moves. stray_no_token here is at)
stop_halts {text = text} {p = p} {s = s} (end_stops here w) = end_halts test_move text p s here

-- one fault stops them
stop_token : {text : List ℕ} {p q : ℕ} {s : TestsRead} {e : QueryFault} {t : Token} {why : Refusal} → TestsStop text p s e → TokenAt text p t q → test_move p t s ≡ Err why →
    e ≡ refused why p
stop_token {p = p} {s = s} {why = why} (atom_stops (r, here)) at is =
    let none = slash_refused s here at in
    let same : unexpected ≡ why = cc in ap (λ w. refused w p) same
stop_token {p = p} {s = s} {why = why} (token_stops {why = w} there other) at is =
    let moves : test_move p _ s ≡ Err why = ap (λ z. test_move p z s) (one_token there at).0 ∙ is in
    let same : w ≡ why = cc in ap (λ v. refused v p) same
stop_token (stray_stops (r, here) none) at is = absurd (stray_no_token here none at)
stop_token (end_stops here w) at is = absurd (end_no_token here at)

abbrev ByToken : List ℕ → ℕ → TestsRead → QueryFault → Type 0
ByToken text p s e = (t : Token) × (q : ℕ) × (why : Refusal) × TokenAt text p t q × (test_move p t s ≡ Err why) × (e ≡ refused why p)

stop_kind : {text : List ℕ} {p : ℕ} {s : TestsRead} {e : QueryFault} → TestsStop text p s e → (e ≡ Unexpected p) ⊎ ByToken text p s e
stop_kind (atom_stops at) = inl refl
stop_kind (token_stops {q = q} {t = t} {why = why} at is) = inr (t, q, why, at, is, refl)
stop_kind (stray_stops at is) = inl refl
stop_kind (end_stops here w) = inl refl

pub one_stop : {text : List ℕ} {p : ℕ} {s : TestsRead} {e d : QueryFault} → TestsStop text p s e → TestsStop text p s d → e ≡ d
one_stop {text = text} {p = p} {s = s} {e = e} {d = d} x y = by (stop_kind x) (stop_kind y)
  where
    by : (e ≡ Unexpected p) ⊎ ByToken text p s e → (d ≡ Unexpected p) ⊎ ByToken text p s d → e ≡ d
    by (inl a) (inl b) = a ∙ sym b
    by (inr (t, q, why, at, is, same)) b = same ∙ sym (stop_token y at is)
    by (inl a) (inr (t, q, why, at, is, same)) = stop_token x at is ∙ sym same

-- ---- the code's steps

abbrev tests_by : Bool → Bool → ℕ → List ℕ → ℕ → TestsRead → TestNext
tests_by b w at t c s = if b then test_goes 1 s else if w then test_words at (code.word_at (c ∷ t)) s else test_signs at (sign_token c) s

by_both : (b w : Bool) (at c : ℕ) (t : List ℕ) (s : TestsRead) → is_blank c ≡ b → is_name_start c ≡ w → test_step at (c ∷ t) s ≡ tests_by b w at t c s
by_both b w at c t s e f = ap (λ x. tests_by x (is_name_start c) at t c s) e ∙ ap (λ x. tests_by b x at t c s) f

-- what a step that goes on has read, and why one stops
abbrev pub Went : List ℕ → ℕ → TestsRead → TestNext → Type 0
Went text at s (test_goes len k) = Run test_move text at s (at + len) k × (0 < len) × (len ≤ length (drop at text))
Went text at s (test_stops e) = TestsStop text at s e

moved_went : {text : List ℕ} {at len : ℕ} {t : Token} (s : TestsRead) → TokenAt text at t (at + len) → 0 < len → len ≤ length (drop at text) → Went text at s (test_moved at len (test_move at t s))
moved_went {text = text} {at = at} {len = len} {t = t} s token some few = by (test_move at t s) refl
  where
    by : (found : TestMove) → test_move at t s ≡ found → Went text at s (test_moved at len found)
    by (Ok k) is = (run_token token is run_ends, some, few)
    by (Err why) is = token_stops token is

front_went : (text : List ℕ) (at : ℕ) {c : ℕ} (s : TestsRead) → Front c → (t : List ℕ) → drop at text ≡ c ∷ t → Went text at s (test_step at (c ∷ t) s)
front_went text at s (blank {c = c} b) t here =
    subst (Went text at s) (sym (ap (λ x. tests_by x (is_name_start c) at t c s) b)) (run_blank (c, (t, here), b) run_ends, omega arith, omega (arith, ap length here))
front_went text at s slash t here = atom_stops (t, here)
front_went text at s (starts {c = c} w) t here =
    let x = code.word_at (c ∷ t) in
    let r = run_of is_name_byte (c ∷ t) in
    let front : take_while is_name_byte (c ∷ t) ≡ c ∷ take_while is_name_byte t =
    take_while-cons is_name_byte c t ∙ ap (λ b. cond b (c ∷ take_while is_name_byte t) []) (start_continues c w) in
    subst (Went text at s) (sym (by_both false true at c t s (start_no_blank c w).0 w))
    (moved_went s (word_at x (word_here text at c t here w) refl) (omega (arith, ap length front)) (omega (arith, ap length here, ap length r.splits, length-append x r.rest)))
front_went text at s (sign {c = c} {t = u} is) t here =
    let none = sign_no_other c u (sign_is c u is) in
    subst (Went text at s) (sym (by_both false false at c t s none.0 none.2 ∙ ap (λ o. test_signs at o s) is)) (moved_went s (sign_at (t, here) is) (omega arith) (omega (arith, ap length here)))
front_went text at s (stray {c = c} (b, d, w, none)) t here =
    subst (Went text at s) (sym (by_both false false at c t s b w ∙ ap (λ o. test_signs at o s) none)) (stray_stops (t, here) (b, d, w, none))

pub step_went : (text : List ℕ) (at : ℕ) (s : TestsRead) → 0 < length (drop at text) → Went text at s (test_step at (drop at text) s)
step_went text at s some = by (drop at text) refl some
  where
    by : (rest : List ℕ) → drop at text ≡ rest → 0 < length rest → Went text at s (test_step at rest s)
    by [] here some = absurd (omega (arith, some))
    by (c ∷ t) here some = front_went text at s (front_of c) t here

-- a turn of the code
pub turn_goes : (text : List ℕ) (at len : ℕ) (s k : TestsRead) (rest : List ℕ) → rest ≡ drop at text → 0 < length (drop at text) → IsTestStep (Ok len) (test_step at rest s) k →
    Run test_move text at s (at + len) k × (0 < len) × (len ≤ length (drop at text))
turn_goes text at len s k rest here some is = subst (Went text at s) (ap (λ t. test_step at t s) (sym here) ∙ is) (step_went text at s some)

pub turn_fails : (text : List ℕ) (from at : ℕ) (s k : TestsRead) (e : QueryFault) (rest : List ℕ) → rest ≡ drop at text → 0 < length (drop at text) → Run test_move text from no_test_read at s →
    IsTestStep (Err e) (test_step at rest s) k → AreReadFrom (Err e) text from
turn_fails text from at s k OutOfMemory rest here some run is = tt
turn_fails text from at s k e rest here some run is = (at, s, run, subst (Went text at s) (ap (λ t. test_step at t s) (sym here) ∙ is) (step_went text at s some))
