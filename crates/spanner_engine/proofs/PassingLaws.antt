-- Which rows pass, test by test and row by row.
use Rattle.std.proofs.Common.{◌≡◌, ℕ, zero, suc, ◌+◌, ◌*◌, ◌≤◌, Bool, true, false, ◌&&◌, List, [], ◌∷◌, ◌++◌, length, take, filter, Option, Some, None, inl, inr, refl, sym, ap, ◌∙◌, arith, append-nil}
use Rattle.std.specs.Bool.{OnTrue, OnFalse}
use Rattle.std.specs.Prelude.{slice_get, if◌then◌else◌}
use Rattle.span_core.specs.declared.span.Span.{Span}
use Rattle.span_core.specs.Lists.{Has}
use Rattle.span_core.proofs.HasLaws.{Has-slice_get, Has-append_right, Contains-Has}
use Rattle.spanner_model.specs.Captures.{VarName, Mapping, row_of}
use Rattle.spanner_model.specs.Expression.{QueryTree}
use Rattle.spanner_model.specs.Answers.{SpanRow}
use Rattle.spanner_model.proofs.Ends.{EndsBy, query_ends}
use Rattle.spanner_model.specs.declared.tested.Asked.{Asked}
use Rattle.std.specs.Prelude.{Contains}
use Rattle.std.proofs.lemmas.List.Elements.{filter-append}
use Rattle.std.proofs.lemmas.List.{length_push}
use Rattle.spanner_model.proofs.NameLaws.{ascending-distinct}
use Rattle.span_core.specs.NameSets.{Ascending}
use Rattle.spanner_model.proofs.RowLaws.{mapping_of-outside, mapping_of-at, row_length}
use Rattle.span_tests.specs.Listed.{IsNamed}
use Rattle.spanner_engine.specs.Fitting.{AllFit, AreLast, FitsRow}
use Rattle.spanner_engine.specs.Left.{AreLeft, EndsIn}
use Rattle.spanner_model.specs.Passing.{AreKnown, Check, Known, check_of, checks_of, passes, passing, row_passes, span_passes}
use Rattle.spanner_engine.specs.Trying.{IsNextPassing}

-- ---- tests one by one

pub known_at : (k : Known) (asked : List Asked) (i : ℕ) (a : Asked) → AreKnown k asked → slice_get asked i ≡ Some a → IsNamed k.tests a.test
known_at k asked i a all is = all a (Has-slice_get asked i a is)

-- ---- rows under tests one by one

module _ (k : Known) (names : List VarName) (d : List ℕ) (row : SpanRow) where
  abbrev pub passes_of : List Asked → Bool
  passes_of asked = passes (checks_of k asked) names d row

  passes_next : (asked : List Asked) (i : ℕ) (a : Asked) → passes_of (take i asked) ≡ true → slice_get asked i ≡ Some a → row_passes names d row (check_of k a) ≡ true →
      passes_of (take (suc i) asked) ≡ true
  passes_next [] i a before is holds = absurd (cc)
  passes_next (b ∷ asked) zero a before is holds =
      let same : a ≡ b = cc in
      let here : row_passes names d row (check_of k b) ≡ true = rw (← same) holds in
      simp here refl
  passes_next (b ∷ asked) (suc i) a before is holds = by (row_passes names d row (check_of k b)) refl before (λ rest. passes_next asked i a rest is holds)
    where
      by : (c : Bool) → row_passes names d row (check_of k b) ≡ c → (c && passes_of (take i asked)) ≡ true → (passes_of (take i asked) ≡ true → passes_of (take (suc i) asked) ≡ true) →
          passes_of (take (suc (suc i)) (b ∷ asked)) ≡ true
      by true e rest later = ap (λ (c : Bool). c && passes_of (take (suc i) asked)) e ∙ later rest
      by false e rest later = absurd (cc)

  pub passes_more : (asked : List Asked) (i : ℕ) (a : Asked) → passes_of (take i asked) ≡ true → slice_get asked i ≡ Some a → row_passes names d row (check_of k a) ≡ true →
      passes_of (take (i + 1) asked) ≡ true
  passes_more asked i a before is holds =
      let e : suc i ≡ i + 1 = omega arith in
      rw (← e) (passes_next asked i a before is holds)

  pub fails_at : (asked : List Asked) (i : ℕ) (a : Asked) → slice_get asked i ≡ Some a → row_passes names d row (check_of k a) ≡ false → passes_of asked ≡ false
  fails_at [] i a is fails = absurd (cc)
  fails_at (b ∷ asked) zero a is fails =
      let same : a ≡ b = cc in
      ap (λ (c : Bool). c && passes_of asked) (rw same at fails)
  fails_at (b ∷ asked) (suc i) a is fails = by (row_passes names d row (check_of k b)) (fails_at asked i a is fails)
    where
      by : (c : Bool) → passes_of asked ≡ false → (c && passes_of asked) ≡ false
      by true e = e
      by false e = refl

-- ---- rows one by one

pub passing_append : (checks : List Check) (names : List VarName) (d : List ℕ) (xs ys : List SpanRow) → passing checks names d (xs ++ ys) ≡ passing checks names d xs ++ passing checks names d ys
passing_append [] names d xs ys = refl
passing_append (c ∷ checks) names d xs ys = filter-append (passes (c ∷ checks) names d) xs ys

one_fails : (checks : List Check) (names : List VarName) (d : List ℕ) (row : SpanRow) → passes checks names d row ≡ false → passing checks names d (row ∷ []) ≡ []
one_fails [] names d row fails = absurd (cc)
one_fails (c ∷ checks) names d row fails = ap (λ (b : Bool). if b then row ∷ [] else []) fails

pub more_fail : (checks : List Check) (names : List VarName) (d : List ℕ) (tried : List SpanRow) (row : SpanRow) → passing checks names d tried ≡ [] →
    passes checks names d row ≡ false → passing checks names d (tried ++ row ∷ []) ≡ []
more_fail checks names d tried row fail fails = passing_append checks names d tried (row ∷ []) ∙
    ap (λ (xs : List SpanRow). xs ++ passing checks names d (row ∷ [])) fail ∙ one_fails checks names d row fails

-- ---- the last of the answers fit

row_ends : (n : ℕ) (names : List VarName) (m : Mapping) → EndsBy n m → (s : Span) → Has (row_of names m) (Some s) → s.end ≤ n
row_ends n [] m ends s h = absurd h
row_ends n (x ∷ names) m ends s (inl e) = ends x s e
row_ends n (x ∷ names) m ends s (inr h) = row_ends n names m ends s h

pub last_fit : (q : QueryTree) (d : List ℕ) (names : List VarName) (rest : List SpanRow) (row : SpanRow) → AreLast q d names rest → Has rest row → FitsRow (length names) (length d) row
last_fit q d names rest row last h =
    let there : Has last.all row = rw last.joined (Has-append_right last.front rest row h) in
    let g = last.answers.each_answers row there in
    let fits : FitsRow (length names) (length d) (row_of names g.0) = record { lengths = row_length names g.0; inside = row_ends (length d) names g.0 (query_ends q d g.0 g.1) } in
    rw g.2 fits

pub last_rest : (q : QueryTree) (d : List ℕ) (names : List VarName) (tried rest old : List SpanRow) → old ≡ tried ++ rest → AreLast q d names old → AreLast q d names rest
last_rest q d names tried rest old is last = record {
  all = last.all;
  answers = last.answers;
  front = last.front ++ tried;
  joined = last.joined ∙ ap (λ (xs : List SpanRow). last.front ++ xs) is ∙ joins last.front tried rest;
}
  where
    joins : (a b c : List SpanRow) → a ++ (b ++ c) ≡ (a ++ b) ++ c
    joins [] b c = refl
    joins (x ∷ a) b c = ap (λ (xs : List SpanRow). x ∷ xs) (joins a b c)

-- what a test says of a row is what it says of the span at the place of its variable
module _ (k : Known) (names : List VarName) (d : List ℕ) (row : SpanRow) (a : Asked) where
  pub passes_at : (place : ℕ) (o : Option Span) (b : Bool) → Ascending names → slice_get names place ≡ Some a.var → slice_get row place ≡ Some o → b ≡ span_passes (check_of k a).1 d o →
      b ≡ row_passes names d row (check_of k a)
  passes_at place o b ascend name at is = is ∙ ap (span_passes (check_of k a).1 d) (sym (mapping_of-at names row place a.var o (ascending-distinct names ascend) name at))

  pub fails_outside : ¬ Contains names a.var → false ≡ row_passes names d row (check_of k a)
  fails_outside out = ap (span_passes (check_of k a).1 d) (sym (mapping_of-outside names row a.var (λ h. out (Contains-Has names a.var h))))

-- ---- one answer further

pub one_left : (b : Bool) (old new : List SpanRow) (row before : SpanRow) → OnTrue b (old ≡ row ∷ new) → OnFalse b ((old ≡ []) × (new ≡ []) × (row ≡ before)) → EndsIn old new
one_left true old new row before goes ends = (row ∷ [], goes)
one_left false old new row before goes ends = ([], ends.0 ∙ sym ends.1)

joins : (a b c : List SpanRow) → a ++ (b ++ c) ≡ (a ++ b) ++ c
joins [] b c = refl
joins (x ∷ a) b c = ap (λ (xs : List SpanRow). x ∷ xs) (joins a b c)

pub one_tried : (front rest new old : List SpanRow) (row : SpanRow) → old ≡ front ++ rest → rest ≡ row ∷ new → old ≡ (front ++ row ∷ []) ++ new
one_tried front rest new old row is next = is ∙ ap (λ (xs : List SpanRow). front ++ xs) next ∙ joins front (row ∷ []) new

-- the steps of one more that was tried
next_unit : (n unit : ℕ) → (n + 1) * unit ≡ n * unit + unit
next_unit n unit = omega arith

steps_by : (old now next after v w tests n m : ℕ) → m ≡ n + 1 → w ≡ v → now ≤ old + n * (2 * v + tests) → next ≤ now + 2 * w → after ≤ next + tests →
    after ≤ old + m * (2 * v + tests)
steps_by old now next after v w tests n m e same inv further asked =
    let unit : m * (2 * v + tests) ≡ n * (2 * v + tests) + (2 * v + tests) = ap (λ (k : ℕ). k * (2 * v + tests)) e ∙ next_unit n (2 * v + tests) in
    omega (arith, unit, inv, further, asked, same)

pub steps_more : (old now next after v w tests : ℕ) (front : List SpanRow) (row : SpanRow) → w ≡ v → now ≤ old + length front * (2 * v + tests) → next ≤ now + 2 * w → after ≤ next + tests →
    after ≤ old + length (front ++ row ∷ []) * (2 * v + tests)
steps_more old now next after v w tests front row same inv further asked =
    steps_by old now next after v w tests (length front) (length (front ++ row ∷ [])) (length_push front row) same inv further asked

-- ---- rows that fit

-- those that are left fit
pub all_fit : (q : QueryTree) (d : List ℕ) (names : List VarName) (rest : List SpanRow) → AreLast q d names rest → AllFit (length names) (length d) rest
all_fit q d names rest last = λ row h. last_fit q d names rest row last h

module _ (width n : ℕ) (old new : List SpanRow) where
  pub fit_left : AllFit width n old → EndsIn old new → AllFit width n new
  fit_left fit left = λ row h. fit row (rw left.1 (Has-append_right left.0 new row h))

  -- the one behind those that were tried
  pub tried_fits : (front rest : List SpanRow) (row shown : SpanRow) → AllFit width n old → old ≡ front ++ rest → rest ≡ row ∷ new → shown ≡ row → FitsRow width n shown
  tried_fits front rest row shown fit is next same =
      let there : Has rest row = rw next (inl refl) in
      rw same (fit row (rw is (Has-append_right front rest row there)))

-- ---- rows that are given

pub passes_first : (checks : List Check) (names : List VarName) (d : List ℕ) (row : SpanRow) (rows : List SpanRow) →
    passes checks names d row ≡ true → passing checks names d (row ∷ rows) ≡ row ∷ passing checks names d rows
passes_first [] names d row rows is = refl
passes_first (c ∷ checks) names d row rows is =
    ap (λ (b : Bool). if b then row ∷ filter (passes (c ∷ checks) names d) rows else filter (passes (c ∷ checks) names d) rows) is

pub next_passes : (checks : List Check) (names : List VarName) (d : List ℕ) (old new : List SpanRow) (row : SpanRow) → IsNextPassing checks names d old row new →
    passing checks names d old ≡ row ∷ passing checks names d new
next_passes checks names d old new row n =
    ap (passing checks names d) n.joined ∙ passing_append checks names d n.tried (row ∷ new) ∙ ap (λ (xs : List SpanRow). xs ++ passing checks names d (row ∷ new)) n.fail
    ∙ passes_first checks names d row new n.passed

next_ends : (checks : List Check) (names : List VarName) (d : List ℕ) (old new : List SpanRow) (row : SpanRow) → IsNextPassing checks names d old row new → EndsIn old new
next_ends checks names d old new row n = (n.tried ++ row ∷ [], n.joined ∙ joins n.tried (row ∷ []) new)

next_fits : (checks : List Check) (names : List VarName) (d : List ℕ) (old new : List SpanRow) (row : SpanRow) → AllFit (length names) (length d) old →
    IsNextPassing checks names d old row new → FitsRow (length names) (length d) row
next_fits checks names d old new row fit n = fit row (rw n.joined (Has-append_right n.tried (row ∷ new) row (inl refl)))

-- what going further did, where it found a row and where it found none
module _ (checks : List Check) (names : List VarName) (d : List ℕ) (old new : List SpanRow) (row : SpanRow) where
  pub goes_within : (b : Bool) → AllFit (length names) (length d) old → OnTrue b (IsNextPassing checks names d old row new) → OnTrue b (FitsRow (length names) (length d) row)
  goes_within true fit n = next_fits checks names d old new row fit n
  goes_within false fit n = tt

  pub goes_left : (b : Bool) (P : Type 0) → OnTrue b (IsNextPassing checks names d old row new) → OnFalse b (P × (new ≡ [])) → EndsIn old new
  goes_left true P n none = next_ends checks names d old new row n
  goes_left false P n none = (old, sym (append-nil old) ∙ ap (λ (xs : List SpanRow). old ++ xs) (sym none.1))

-- ---- what is left after a row

-- those that are left after a row are the last of the answers
pub left_last : (q : QueryTree) (d : List ℕ) (names : List VarName) (after : Option SpanRow) (rest : List SpanRow) → AreLeft q d names after rest → AreLast q d names rest
left_last q d names None rest (rows, answers, is) = record { all = rows; answers = answers; front = []; joined = sym is }
left_last q d names (Some after) rest (rows, answers, is) = record { all = rows; answers = answers; front = is.0; joined = is.1 }

-- ---- a row that passes is one of the rows

pub has_filter : (f : SpanRow → Bool) (rows : List SpanRow) (row : SpanRow) → Has (filter f rows) row → Has rows row
has_filter f [] row h = h
has_filter f (r ∷ rows) row h = by (f r) h (has_filter f rows row)
  where
    by : (b : Bool) → Has (if b then r ∷ filter f rows else filter f rows) row → (Has (filter f rows) row → Has rows row) → Has (r ∷ rows) row
    by true (inl e) later = inl e
    by true (inr h) later = inr (later h)
    by false h later = inr (later h)

pub has_passing : (checks : List Check) (names : List VarName) (d : List ℕ) (rows : List SpanRow) (row : SpanRow) → Has (passing checks names d rows) row → Has rows row
has_passing [] names d rows row h = h
has_passing (c ∷ checks) names d rows row h = has_filter (passes (c ∷ checks) names d) rows row h
