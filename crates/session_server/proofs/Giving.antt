-- The rows that a session gives, one by one.
use Rattle.std.proofs.Common.{arith, ◌≡◌, ◌≤◌, ◌+◌, ℕ, zero, suc, Bool, true, false, List, [], ◌∷◌, ◌++◌, length, drop, take, Option, Some, None, MatchOption, inl, inr, refl, sym, ap, ◌∙◌, subst}
use Rattle.std.specs.Bool.{OnTrue, OnFalse}
use Rattle.std.specs.Prelude.{if◌then◌else◌}
use Rattle.serde_json.specs.Written.{compact_text}
use Rattle.span_core.specs.Lists.{Has}
use Rattle.growing_document.specs.Grown.{AreBytes}
use Rattle.spanner_model.specs.Captures.{VarName}
use Rattle.spanner_model.specs.Expression.{QueryTree}
use Rattle.spanner_model.specs.Answers.{SpanRow, AreAnswers}
use Rattle.spanner_engine.specs.Fitting.{AreLast, FitsRow}
use Rattle.spanner_model.specs.Answers.{AreResultNames}
use Rattle.std.specs.Prelude.{◌^◌}
use Rattle.spanner_model.specs.Tested.{TestedTree, tested_of}
use Rattle.session_server.specs.declared.session.Session.{Session as CodeSession}
use Rattle.spanner_engine.specs.Left.{AnswersLeft, EndsIn, Source, passing_over}
use Rattle.std.specs.Prelude.{is_some, nat_lt, ◌<◌}
use Rattle.std.proofs.Common.{length-take}
use Rattle.std.proofs.lemmas.List.{take_all}
use Rattle.std.proofs.lemmas.Bool.Decides.{nat_tests}
use Rattle.session_server.specs.Replies.{Session, begun, giving, row_data, to_come}
use Rattle.session_server.specs.Rows.{array_of, rows_text, with_row}
use Rattle.session_server.specs.Standing.{GivesOne, GivesSoFar, HasGiven, IsKeptSession, IsReadOn, IsSession, IsSessionOver, next_row}
use Rattle.session_server.proofs.RowTexts.{array_text, row_behind}
use Rattle.spanner_model.specs.Passing.{AreKnown, Check, Known, checks_of, passing}
use Rattle.spanner_engine.proofs.PassingLaws.{has_passing, last_fit, last_rest}

-- ---- a row that comes is an answer

has_drop : (n : ℕ) (rows : List SpanRow) (row : SpanRow) → Has (drop n rows) row → Has rows row
has_drop zero rows row h = h
has_drop (suc n) [] row h = h
has_drop (suc n) (r ∷ rows) row h = inr (has_drop n rows row h)

pub comes_fits : (q : QueryTree) (d : List ℕ) (names : List VarName) (checks : List Check) (given : ℕ) (all rest : List SpanRow) (row : SpanRow) →
    AreAnswers q d names all → drop given (passing checks names d all) ≡ row ∷ rest → FitsRow (length names) (length d) row
comes_fits q d names checks given all rest row answers is =
    let there : Has all row = has_passing checks names d all row (has_drop given (passing checks names d all) row (rw is (inl refl))) in
    last_fit q d names all row (record { all = all; answers = answers; front = []; joined = refl }) there

-- ---- the row behind it

drop_more : (n : ℕ) (rows rest : List SpanRow) (row : SpanRow) → drop n rows ≡ row ∷ rest → drop (n + 1) rows ≡ rest
drop_more n rows rest row is =
    let e : suc n ≡ n + 1 = omega arith in
    ap (λ (k : ℕ). drop k rows) (sym e) ∙ by n rows is
  where
    by : (k : ℕ) (rs : List SpanRow) → drop k rs ≡ row ∷ rest → drop (suc k) rs ≡ rest
    by zero [] at = absurd (cc)
    by zero (r ∷ rs) at = cc
    by (suc k) [] at = absurd (cc)
    by (suc k) (r ∷ rs) at = by k rs at

pub comes_next : (checks : List Check) (names : List VarName) (d : List ℕ) (given : ℕ) (all old new : List SpanRow) (row : SpanRow) (o : Option SpanRow) →
    drop given (passing checks names d all) ≡ row ∷ passing checks names d old →
    MatchOption o ((passing checks names d old ≡ []) × (new ≡ [])) (λ r. passing checks names d old ≡ r ∷ passing checks names d new) →
    MatchOption o (drop (given + 1) (passing checks names d all) ≡ []) (λ r. drop (given + 1) (passing checks names d all) ≡ r ∷ passing checks names d new)
comes_next checks names d given all old new row None is n = drop_more given (passing checks names d all) (passing checks names d old) row is ∙ n.0
comes_next checks names d given all old new row (Some r) is n = drop_more given (passing checks names d all) (passing checks names d old) row is ∙ n

-- and before any row was given
pub comes_first : (checks : List Check) (names : List VarName) (d : List ℕ) (old new : List SpanRow) (o : Option SpanRow) →
    MatchOption o ((passing checks names d old ≡ []) × (new ≡ [])) (λ r. passing checks names d old ≡ r ∷ passing checks names d new) →
    MatchOption o (passing checks names d old ≡ []) (λ r. passing checks names d old ≡ r ∷ passing checks names d new)
comes_first checks names d old new None n = n.0
comes_first checks names d old new (Some r) n = n

pub begun_session : (k : Known) (t : TestedTree) (c : CodeSession) (d : List ℕ) (old : List SpanRow) → tested_of c.tested ≡ t → c.grown ≡ false →
    IsReadOn t.query d (length d ∷ []) c.vars c.growing → length d ≤ 2 ^ 28 → AreBytes d →
    AreResultNames t.query c.vars → AreKnown k t.asked → AreAnswers t.query d c.vars old → AreLast t.query d c.vars c.answers.rest → c.answers.variables ≡ length c.vars →
    MatchOption (next_row c) ((passing (checks_of k t.asked) c.vars d old ≡ []) × (c.answers.rest ≡ []))
    (λ r. passing (checks_of k t.asked) c.vars d old ≡ r ∷ passing (checks_of k t.asked) c.vars d c.answers.rest) →
    IsSession k c (begun t d)
begun_session k t c d old query ready reads few bytes names known answers last wide next =
    inl (
      old,
      record {
        kept = record { query = query; growing = reads; few = few; bytes = bytes; names = names; tests_known = known };
        ready = ready;
        same = refl;
        answers = answers;
        last = last;
        wide = wide;
        next = comes_first (checks_of k t.asked) c.vars d old c.answers.rest (next_row c) next;
      },
    )

-- ---- one row given

-- what a step to the next row says, in the shape of that row
pub as_option : (b : Bool) (row : SpanRow) (N : Type 0) (S : SpanRow → Type 0) → OnTrue b (S row) → OnFalse b N → MatchOption (if b then Some row else None) N S
as_option true row N S found none = found
as_option false row N S found none = none

pub is_next : (c : CodeSession) → c.some ≡ true → next_row c ≡ Some c.answers.row
is_next c is = ap (λ (b : Bool). if b then Some c.answers.row else None) is

some_next : (b : Bool) (row : SpanRow) → is_some (if b then Some row else None) ≡ b
some_next true row = refl
some_next false row = refl

-- what a step of borrowed rows says, where it is known what they are taken from
module _ (judges : ℕ → List ℕ → Bool) (source taken_from : Source) (old all new : List SpanRow) (row : SpanRow) (some : Bool) (source_is : source ≡ taken_from) (all_is : old ≡ all) where
  pub next_from : OnTrue some (passing_over judges source old ≡ row ∷ passing_over judges source new) →
      OnTrue some (passing_over judges taken_from all ≡ row ∷ passing_over judges taken_from new)
  next_from next = rw (source_is, all_is) at next

  pub none_from : OnFalse some ((passing_over judges source old ≡ []) × (new ≡ [])) → OnFalse some ((passing_over judges taken_from all ≡ []) × (new ≡ []))
  none_from none = rw (source_is, all_is) at none

pub last_from : (q : QueryTree) (d : List ℕ) (names : List VarName) (old all new : List SpanRow) → old ≡ all → AreLast q d names all → EndsIn old new → AreLast q d names new
last_from q d names old all new is last ends = last_rest q d names ends.0 new all (sym is ∙ ends.1) last

abbrev pub as_stored : CodeSession → Session → Session
as_stored c s = record s { query = tested_of c.tested; document = c.growing.document }

pub same_session : (k : Known) (c : CodeSession) (s : Session) → IsKeptSession k c s → as_stored c s ≡ s
same_session k c s o =
    ap (λ (q : TestedTree). record s { query = q; document = c.growing.document }) o.query
    ∙ ap (λ (d : List ℕ). record s { document = d }) o.growing.holds

-- what comes, where a row is there
pub comes_of : (k : Known) (c : CodeSession) (s : Session) (all : List SpanRow) (row : SpanRow) → next_row c ≡ Some row → IsSessionOver k c s all →
    to_come k s c.vars all ≡ row ∷ passing (checks_of k s.query.asked) c.vars s.document c.answers.rest
comes_of k c s all row is o =
    let P : Option SpanRow → Type 0 = λ n. MatchOption n (to_come k s c.vars all ≡ []) (λ r. to_come k s c.vars all ≡ r ∷ passing (checks_of k s.query.asked) c.vars s.document c.answers.rest) in
    subst P is o.next

pub row_fits : (k : Known) (c : CodeSession) (s : Session) (all : List SpanRow) (row : SpanRow) → next_row c ≡ Some row → IsSessionOver k c s all → FitsRow (length c.vars) (length s.document) row
row_fits k c s all row is o =
    comes_fits s.query.query s.document c.vars (checks_of k s.query.asked) s.given all (passing (checks_of k s.query.asked) c.vars s.document c.answers.rest) row o.answers
    (comes_of k c s all row is o)

abbrev pub with_left : CodeSession → AnswersLeft → Bool → CodeSession
with_left c left some = record c { answers = left; some = some }

pub give_one : (k : Known) (c : CodeSession) (s : Session) (all : List SpanRow) (left : AnswersLeft) (some : Bool) (e before after : List ℕ) →
    c.some ≡ true → e ≡ c.growing.document → after ≡ with_row before (compact_text (row_data c.vars c.answers.row)) →
    AreLast (tested_of c.tested).query e c.vars left.rest → left.variables ≡ c.answers.variables →
    OnTrue some (passing (checks_of k (tested_of c.tested).asked) c.vars e c.answers.rest ≡ left.row ∷ passing (checks_of k (tested_of c.tested).asked) c.vars e left.rest) →
    OnFalse some ((passing (checks_of k (tested_of c.tested).asked) c.vars e c.answers.rest ≡ []) × (left.rest ≡ [])) →
    IsSessionOver k c (as_stored c s) all → GivesOne k c (with_left c left some) before after (as_stored c s) all
give_one k c s all left some e before after is same written last wide found none o =
    let checks = checks_of k (tested_of c.tested).asked in
    let D : List ℕ = c.growing.document in
    let comes = comes_of k c (as_stored c s) all c.answers.row (is_next c is) o in
    let next : Option SpanRow = if some then Some left.row else None in
    let N : List ℕ → Type 0 = λ x.
    MatchOption next ((passing checks c.vars x c.answers.rest ≡ []) × (left.rest ≡ [])) (λ r. passing checks c.vars x c.answers.rest ≡ r ∷ passing checks c.vars x left.rest) in
    record {
      row = c.answers.row;
      rest = passing checks c.vars D c.answers.rest;
      comes = comes;
      written = written;
      now = record {
        kept = record { query = refl; growing = o.kept.growing; few = o.kept.few; bytes = o.kept.bytes; names = o.kept.names; tests_known = o.kept.tests_known };
        ready = o.ready;
        same = o.same;
        answers = o.answers;
        last = rw (← same) last;
        wide = wide ∙ o.wide;
        next = comes_next checks c.vars D s.given all c.answers.rest left.rest c.answers.row next comes (subst N same (as_option some left.row _ _ found none));
      };
    }

-- ---- some rows given

drop_nothing : (n : ℕ) (rows : List SpanRow) → rows ≡ [] → drop n rows ≡ []
drop_nothing zero rows is = is
drop_nothing (suc n) [] is = refl
drop_nothing (suc n) (r ∷ rows) is = absurd (cc)

drop_by : (a b : ℕ) (rows : List SpanRow) → drop b (drop a rows) ≡ drop (a + b) rows
drop_by zero b rows = let e : b ≡ zero + b = omega arith in ap (λ (n : ℕ). drop n rows) e
drop_by (suc a) b [] = drop_nothing b [] refl ∙ sym (drop_nothing (suc a + b) [] refl)
drop_by (suc a) b (r ∷ rows) = let e : suc (a + b) ≡ suc a + b = omega arith in drop_by a b rows ∙ ap (λ (n : ℕ). drop n (r ∷ rows)) e

drop_twice : (a b : ℕ) (rows : List SpanRow) → drop (a + b) rows ≡ drop b (drop a rows)
drop_twice a b rows = sym (drop_by a b rows)

take_next : (n : ℕ) (rows rest : List SpanRow) (row : SpanRow) → drop n rows ≡ row ∷ rest → take (suc n) rows ≡ take n rows ++ row ∷ []
take_next zero [] rest row is = absurd (cc)
take_next zero (r ∷ rows) rest row is = let e : r ≡ row = cc in ap (λ (x : SpanRow). x ∷ []) e
take_next (suc n) [] rest row is = absurd (cc)
take_next (suc n) (r ∷ rows) rest row is = ap (λ (xs : List SpanRow). r ∷ xs) (take_next n rows rest row is)

some_left : (n : ℕ) (rows rest : List SpanRow) (row : SpanRow) → drop n rows ≡ row ∷ rest → n < length rows
some_left zero [] rest row is = absurd (cc)
some_left zero (r ∷ rows) rest row is = omega arith
some_left (suc n) [] rest row is = absurd (cc)
some_left (suc n) (r ∷ rows) rest row is = let h = some_left n rows rest row is in omega (arith, h)

none_left : (n : ℕ) (rows : List SpanRow) → drop n rows ≡ [] → length rows ≤ n
none_left zero [] is = omega arith
none_left zero (r ∷ rows) is = absurd (cc)
none_left (suc n) [] is = omega arith
none_left (suc n) (r ∷ rows) is = let h = none_left n rows is in omega (arith, h)

module _ (k : Known) (old : CodeSession) (s : Session) (all : List SpanRow) where
  abbrev coming : List SpanRow
  coming = to_come k s old.vars all

  left_now : (now : CodeSession) (count : ℕ) (vars : List VarName) → vars ≡ old.vars → to_come k (giving count s) vars all ≡ drop count coming
  left_now now count vars same =
      ap (λ (vs : List VarName). to_come k (giving count s) vs all) same ∙ drop_twice s.given count (passing (checks_of k s.query.asked) old.vars s.document all)

  -- one more
  pub one_given : (now new : CodeSession) (count : ℕ) (before after : List ℕ) → GivesSoFar k old now count before s all → new.vars ≡ now.vars →
      GivesOne k now new before after (giving count s) all → GivesSoFar k old new (count + 1) after s all
  one_given now new count before after so vars one =
      let left : drop count coming ≡ one.row ∷ one.rest = sym (left_now now count now.vars so.vars) ∙ one.comes in
      let next : suc count ≡ count + 1 = omega arith in
      let more = some_left count coming one.rest one.row left in
      let again : s.given + count + 1 ≡ s.given + (count + 1) = omega arith in
      record {
        vars = vars ∙ so.vars;
        few = omega (arith, more);
        rows = one.written ∙ ap (λ (t : List ℕ). with_row t (compact_text (row_data now.vars one.row))) so.rows
            ∙ ap (λ (vs : List VarName). with_row (rows_text old.vars (take count coming)) (compact_text (row_data vs one.row))) so.vars
            ∙ sym (row_behind old.vars (take count coming) one.row)
            ∙ ap (rows_text old.vars) (sym (take_next count coming one.rest one.row left))
            ∙ ap (λ (n : ℕ). rows_text old.vars (take n coming)) next;
        now = rw (← again) one.now;
      }

  given_at : (now : CodeSession) (count most : ℕ) (written : List ℕ) (more : Bool) → GivesSoFar k old now count written s all → take most coming ≡ take count coming →
      length (take most coming) ≡ count →
      more ≡ nat_lt most (length coming) → HasGiven k old now most (array_of written) more s all
  given_at now count most written more so same long tells = record {
    rows = ap array_of (so.rows ∙ ap (rows_text old.vars) (sym same)) ∙ array_text old.vars (take most coming);
    tells = tells;
    now = rw long so.now;
  }

  -- no further one remains
  pub all_given : (now : CodeSession) (count most : ℕ) (written : List ℕ) → GivesSoFar k old now count written s all → count ≤ most → to_come k (giving count s) now.vars all ≡ [] →
      HasGiven k old now most (array_of written) false s all
  all_given now count most written so few none =
      let end = none_left count coming (sym (left_now now count now.vars so.vars) ∙ none) in
      let exact : length coming ≡ count = omega (arith, end, so.few) in
      let same : take most coming ≡ coming = take_all most coming (omega (arith, exact, few)) in
      let upto : take count coming ≡ coming = take_all count coming (omega (arith, exact)) in
      given_at now count most written false so (same ∙ sym upto) (ap (λ (xs : List SpanRow). length xs) same ∙ exact) (grind (arith, nat_tests, exact, few))

  -- so many were asked for
  pub most_given : (now : CodeSession) (most : ℕ) (written : List ℕ) (more : Bool) → GivesSoFar k old now most written s all → more ≡ now.some →
      HasGiven k old now most (array_of written) more s all
  most_given now most written more so tells =
      given_at now most most written more so refl (long most coming so.few) (tells ∙ sym (some_next now.some now.answers.row) ∙ by (next_row now) so.now.next)
    where
      long : (n : ℕ) (rows : List SpanRow) → n ≤ length rows → length (take n rows) ≡ n
      long n rows few = omega (arith, length-take n rows, few)

      by : (o : Option SpanRow) → MatchOption o (to_come k (giving most s) now.vars all ≡ [])
          (λ r. to_come k (giving most s) now.vars all ≡ r ∷ passing (checks_of k s.query.asked) now.vars s.document now.answers.rest) →
          is_some o ≡ nat_lt most (length coming)
      by None is = let end = none_left most coming (sym (left_now now most now.vars so.vars) ∙ is) in grind (arith, nat_tests, end)
      by (Some r) is = let more = some_left most coming _ r (sym (left_now now most now.vars so.vars) ∙ is) in grind (arith, nat_tests, more)

pub on_true : (b : Bool) (P : Type 0) → b ≡ true → OnTrue b P → P
on_true true P e h = h
on_true false P e h = absurd (cc)

pub on_false : (b : Bool) (P : Type 0) → b ≡ false → OnFalse b P → P
on_false true P is h = absurd (cc)
on_false false P is h = h

pub end_given : (k : Known) (old now new : CodeSession) (s : Session) (all : List SpanRow) (count most : ℕ) (before after array : List ℕ) → GivesSoFar k old now count before s all → count ≤ most →
    after ≡ before → array ≡ array_of after → new ≡ now → to_come k (giving count s) now.vars all ≡ [] → HasGiven k old new most array false s all
end_given k old now new s all count most before after array so few same is stays none =
    rw stays
    (rw (is ∙ ap array_of same) (all_given k old s all now count most before so few none))

pub full_given : (k : Known) (old now : CodeSession) (s : Session) (all : List SpanRow) (count most : ℕ) (written array : List ℕ) (more : Bool) → GivesSoFar k old now count written s all →
    count ≡ most →
    array ≡ array_of written → more ≡ now.some → HasGiven k old now most array more s all
full_given k old now s all count most written array more so is made tells =
    rw made
    (most_given k old s all now most written more (rw (← is) so) tells)
