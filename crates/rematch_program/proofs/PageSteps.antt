-- One row of a page after another.
use Rattle.std.specs.Prelude.{◌↔◌, Bool, true, false, IsTrue, codes, nat_lt}
use Rattle.std.proofs.lemmas.Bool.{le-leb, leb-true, true≢false}
use Rattle.std.specs.Bool.{OnTrue, OnFalse}
use Rattle.std.proofs.Common.{◌≡◌, ℕ, zero, suc, ◌+◌, ◌-◌, ◌*◌, ◌<◌, ◌≤◌, List, [], ◌∷◌, ◌++◌, length, Option, Some, None, if◌then◌else◌, refl, sym, ap, ◌∙◌, arith, append-nil, append_assoc, length-append}
use Rattle.std.specs.List.{flat_map}
use Rattle.std.proofs.lemmas.List.Concat.{flat_map-cons}
use Rattle.spanner_model.specs.Captures.{VarName}
use Rattle.spanner_model.specs.Answers.{SpanRow, page_end}
use Rattle.spanner_engine.specs.Fitting.{FitsRow}
use Rattle.spanner_engine.specs.Left.{EndsIn, Source, checks_over, passing_over}
use Rattle.spanner_model.specs.Passing.{Check, known, passing}
use Rattle.spanner_engine.specs.Trying.{trying_steps}
use Rattle.spanner_engine.proofs.PassingLaws.{passing_append}
use Rattle.rm_outside.specs.declared.status.Status.{Status}
use Rattle.rm_outside.specs.Change.{Change}
use Rattle.rematch_program.specs.Work.{Clock, clock, work}
use Rattle.rematch_program.specs.Run.{FromPage, whole, write_failed, out_of_memory}
use Rattle.note_texts.specs.Notes.{line}
use Rattle.rematch_program.specs.Pages.{FitsPage, cursor_given, first_rows, last_note, next_cursor}
use Rattle.rematch_program.specs.Written.{EndsPage}
use Rattle.rematch_program.specs.Steps.{next_steps}
use Rattle.rematch_program.specs.Taking.{PageTakes}
use Rattle.rematch_program.proofs.Inside.{fits_of}
use Rattle.rematch_program.proofs.PassingPages.{length_checks}
use Rattle.rematch_program.proofs.TakingLaws.{page_takes, steps_ended, steps_found, steps_runs}

pub first_of_none : (limit : Option ℕ) → first_rows limit [] ≡ []
first_of_none None = refl
first_of_none (Some zero) = refl
first_of_none (Some (suc n)) = refl

pub lines_next : (text : SpanRow → List ℕ) (rows rest : List SpanRow) (row : SpanRow) → rows ≡ row ∷ rest → flat_map text rows ≡ text row ++ flat_map text rest
lines_next text rows rest row is = ap (flat_map text) is ∙ flat_map-cons text row rest

pub some_more : (more : Bool) (coming new : List SpanRow) (row : SpanRow) (P : Type 0) → OnTrue more (coming ≡ row ∷ new) → OnFalse more ((coming ≡ []) × P) → IsTrue more ↔ (0 < length coming)
some_more false coming new row P some none = let n = ap length none.0 in (λ t. absurd (cc), λ l. absurd (omega (arith, n, l)))
some_more true coming new row P some none = let one = ap length some in (λ t. omega (arith, one), λ l. refl)

-- with what the counter keeps to told otherwise, from an earlier moment on
module _ (out : Change) (end : Status) (note : List ℕ) (old mid new : ℕ) (text last : List ℕ) (P Q : Clock → Type 0) (then_ : P (clock mid new) → Q (clock old new)) where
  pub page_earlier : FromPage (work out (clock mid new)) end note text last P → FromPage (work out (clock old new)) end note text last Q
  page_earlier (whole is says adds took) = whole is says adds (then_ took)
  page_earlier (write_failed is failed part took) = write_failed is failed part (then_ took)
  page_earlier (out_of_memory is part took) = out_of_memory is part (then_ took)

-- what trying answers takes is within what is stated
tries_within : (n v t now next : ℕ) (found : Bool) → next ≤ now + trying_steps v t n found → next ≤ now + (n * (next_steps v + t) + (if found then 0 else next_steps v))
tries_within n v t now next true h =
    let e : n * (next_steps v + t) ≡ n * (2 * v + t) + n * (2 * v + 4) = omega arith in
    omega (arith, e, h)
tries_within n v t now next false h =
    let e : n * (next_steps v + t) ≡ n * (2 * v + t) + n * (2 * v + 4) = omega arith in
    omega (arith, e, h)

-- ---- what going further did, told of what the rows were first taken from

module _ {s t : Source} (same : t ≡ s) where
  pub goes_on : (judges : ℕ → List ℕ → Bool) (old new : List SpanRow) {row : SpanRow} → passing_over judges t old ≡ row ∷ passing_over judges t new
      → passing_over judges s old ≡ row ∷ passing_over judges s new
  goes_on judges old new h = rw (← same) h

  pub goes_out : (judges : ℕ → List ℕ → Bool) (old : List SpanRow) → passing_over judges t old ≡ [] → passing_over judges s old ≡ []
  goes_out judges old h = rw (← same) h

  pub fits_page : {row : SpanRow} → FitsRow (length t.names) (length t.document) row → FitsPage (length s.names) (length s.document) row
  fits_page {row} h = rw (← same) (fits_of (length t.names) (length t.document) row h)

  pub tries : (old new : List SpanRow) (now next : ℕ) (found : Bool) → next ≤ now + trying_steps (length t.names) (length t.asked) (length old - length new) found →
      next ≤ now + ((length old - length new) * (next_steps (length s.names) + length s.asked) + (if found then 0 else next_steps (length s.names)))
  tries old new now next found h =
      let here : next ≤ now + trying_steps (length s.names) (length s.asked) (length old - length new) found = rw (← same) h in
      tries_within (length old - length new) (length s.names) (length s.asked) now next found here

-- one list ends in a second, and that in a third
pub ends_on : {xs ys : List SpanRow} (zs : List SpanRow) → EndsIn xs ys → EndsIn ys zs → EndsIn xs zs
ends_on zs (f, is) (g, next) = (f ++ g, is ∙ ap (λ (rows : List SpanRow). f ++ rows) next ∙ sym (append_assoc f g zs))

pub ends_long : (xs ys : List SpanRow) → EndsIn xs ys → length ys ≤ length xs
ends_long xs ys (f, is) = omega (arith, ap length is ∙ length-append f ys)

-- ---- what was tried

module _ (judges : ℕ → List ℕ → Bool) (s : Source) (page rest left : List SpanRow) (ends : EndsIn rest left) where
  abbrev checks : List Check
  checks = checks_over judges s

  all_pass : length (passing_over judges s rest) ≡ length (passing checks s.names s.document ends.0) + length (passing_over judges s left)
  all_pass =
      ap (λ (rows : List SpanRow). length (passing_over judges s rows)) ends.1
      ∙ ap length (passing_append checks s.names s.document ends.0 left)
      ∙ length-append (passing checks s.names s.document ends.0) (passing_over judges s left)

  tried_long : length rest - length left ≡ length ends.0
  tried_long = let long = ap length ends.1 ∙ length-append ends.0 left in omega (arith, long)

  -- and the answers did not end
  pub tried_some : (old new : ℕ) → length (passing_over judges s rest) ≤ length page + 1 + length (passing_over judges s left) →
      new ≤ old + (length rest - length left) * (next_steps (length s.names) + length s.asked) → PageTakes checks s.names s.document rest page (clock old new)
  tried_some old new few steps =
      let U = next_steps (length s.names) + length s.asked in
      let same : (length rest - length left) * U ≡ length ends.0 * U = ap (λ (n : ℕ). n * U) tried_long in
      page_takes checks s.names s.document rest page (length s.asked) old new (record {
        tried = ends.0;
        left = left;
        joined = ends.1;
        ended = false;
        few = omega (arith, few, all_pass);
        each = length_checks (known s.tests judges) s.asked;
        steps = omega (arith, same, steps);
      })

-- and they ended
pub tried_all : (judges : ℕ → List ℕ → Bool) (s : Source) (page rest : List SpanRow) (old new : ℕ) → length (passing_over judges s rest) ≤ length page →
    new ≤ old + length rest * (next_steps (length s.names) + length s.asked) + next_steps (length s.names) → PageTakes (checks_over judges s) s.names s.document rest page (clock old new)
tried_all judges s page rest old new few steps =
    page_takes (checks_over judges s) s.names s.document rest page (length s.asked) old new (record {
      tried = rest;
      left = [];
      joined = sym (append-nil rest);
      ended = true;
      few = omega (arith, few);
      each = length_checks (known s.tests judges) s.asked;
      steps = steps;
    })

-- ---- the steps so far, and those of one try more

module _ {s t : Source} (same : t ≡ s) (all old new : List SpanRow) (ends : EndsIn all old) (then_ : EndsIn old new) (start : ℕ) {mid next : ℕ}
    (first : mid ≤ start + (length all - length old) * (next_steps (length s.names) + length s.asked)) where
  pub took_found : (found : Bool) → found ≡ true → next ≤ mid + trying_steps (length t.names) (length t.asked) (length old - length new) found →
      next ≤ start + (length all - length new) * (next_steps (length s.names) + length s.asked)
  took_found found is took =
      let here = rw is at took in
      steps_found (length all) (length old) (length new) (next_steps (length s.names) + length s.asked) start mid next (ends_long old new then_) (ends_long all old ends) first
      (tries same old new mid next true here)

  -- and a run of rows behind it
  pub took_runs : (found : Bool) (after : List SpanRow) (end : ℕ) → found ≡ true → next ≤ mid + trying_steps (length t.names) (length t.asked) (length old - length new) found
      → length new < length old → EndsIn new after → end ≤ next + (4 * (length new - length after) + 2) → end ≤ start + (length all - length after) * (next_steps (length s.names) + length s.asked)
  took_runs found after end is took fewer then_after runs =
      let here : next ≤ mid + trying_steps (length t.names) (length t.asked) (length old - length new) true = rw is at took in
      let told : next ≤ mid + trying_steps (length s.names) (length s.asked) (length old - length new) true = rw (← same) here in
      steps_runs (length all) (length old) (length new) (length after) (length s.names) (length s.asked) start mid next end (ends_long new after then_after) fewer
      (ends_long all old ends) first told runs

  pub took_none : (found : Bool) → found ≡ false → new ≡ [] → next ≤ mid + trying_steps (length t.names) (length t.asked) (length old - length new) found →
      next ≤ start + length all * (next_steps (length s.names) + length s.asked) + next_steps (length s.names)
  took_none found is none took =
      let here = rw is at took in
      let gone = rw none at here in
      steps_ended (length all) (length old) (next_steps (length s.names)) (next_steps (length s.names) + length s.asked) start mid next (ends_long all old ends) first
      (tries same old [] mid next false gone)

  -- the try behind the last row of a page
  pub last_try : (judges : ℕ → List ℕ → Bool) (page : List SpanRow) (row : SpanRow) (found : Bool) → OnTrue found (passing_over judges t old ≡ row ∷ passing_over judges t new) →
      OnFalse found ((passing_over judges t old ≡ []) × (new ≡ [])) →
      length (passing_over judges s all) ≤ length page + length (passing_over judges s old) →
      next ≤ mid + trying_steps (length t.names) (length t.asked) (length old - length new) found → PageTakes (checks_over judges s) s.names s.document all page (clock start next)
  last_try judges page row true some none few took =
      let one = ap length (goes_on same judges old new some) in
      tried_some judges s page all new (ends_on new ends then_) start next (omega (arith, one, few)) (took_found true refl took)
  last_try judges page row false some none few took =
      let empty = ap length (goes_out same judges old none.0) in
      tried_all judges s page all start next (omega (arith, empty, few)) (took_none false refl none.1 took)

-- a row that was found is the next one of the answers and of the page, and behind it is what the answers from the first on end in
pub record NextRow (judges : ℕ → List ℕ → Bool) (s : Source) (all old new : List SpanRow) (limit limit' : Option ℕ) (row : SpanRow) : Type 0 where
  pub next : passing_over judges s old ≡ row ∷ passing_over judges s new
  pub front : first_rows limit (passing_over judges s old) ≡ row ∷ first_rows limit' (passing_over judges s new)
  pub tried : EndsIn all new

pub next_row : (judges : ℕ → List ℕ → Bool) {s t : Source} {all old : List SpanRow} (new : List SpanRow) {limit limit' : Option ℕ} {row : SpanRow} → t ≡ s → EndsIn all old → EndsIn old new
    → passing_over judges t old ≡ row ∷ passing_over judges t new → ((x : SpanRow) (rows : List SpanRow) → first_rows limit (x ∷ rows) ≡ x ∷ first_rows limit' rows)
    → NextRow judges s all old new limit limit' row
next_row judges {old = old} new {limit} {row = row} same ends then_ found one =
    let next = goes_on same judges old new found in
    record { next = next; front = ap (first_rows limit) next ∙ one row _; tried = ends_on new ends then_ }

pub on_true : (b : Bool) (P : Type 0) → P → OnTrue b P
on_true true P p = p
on_true false P p = tt

-- what was gone on to leaves fewer
pub further : (judges : ℕ → List ℕ → Bool) (s : Source) {old : List SpanRow} (new : List SpanRow) {row : SpanRow} → EndsIn old new →
    passing_over judges s old ≡ row ∷ passing_over judges s new → length new < length old
further judges s new ([], is) next =
    let same = ap (λ (rows : List SpanRow). length (passing_over judges s rows)) is in
    let one = ap length next in
    absurd (omega (arith, same, one))
further judges s new (x ∷ front, is) next = let long = ap length is ∙ length-append (x ∷ front) new in omega (arith, long)

-- ---- the end

-- no row was left
pub ends_none : (limit : Option ℕ) {left : List SpanRow} (page coming : List SpanRow) → left ≡ [] → length left + length page ≡ length coming + length (first_rows limit left) →
    EndsPage page coming None false
ends_none limit page coming none same =
    let gone = ap length (ap (first_rows limit) none ∙ first_of_none limit) in
    let empty = ap length none in
    record { more = (λ t. absurd (cc), λ h. absurd (omega (arith, gone, empty, same, h))); last = tt }

-- the limit was reached, and one row further was tried
pub ends_after : (judges : ℕ → List ℕ → Bool) {s t : Source} (old new page coming : List SpanRow) (row : SpanRow) {last last_row : Option SpanRow} (more : Bool) (P : Type 0) → t ≡ s →
    OnTrue more (passing_over judges t old ≡ row ∷ passing_over judges t new) → OnFalse more ((passing_over judges t old ≡ []) × P) →
    length (passing_over judges s old) + length page ≡ length coming → last ≡ last_row → last_row ≡ page_end page None → EndsPage page coming last more
ends_after judges {t = t} old new page coming row {last} more P same some none count is ends =
    let m = some_more more (passing_over judges t old) (passing_over judges t new) row P some none in
    let n = rw same at m in
    record {
      more = (λ b. let left = n.0 b in omega (arith, count, left), λ h. n.1 (omega (arith, count, h)));
      last = on_true more (last ≡ page_end page None) (is ∙ ends);
    }

-- ---- the note

-- the last row tells the cursor
cursor_at : (names : List VarName) (n : ℕ) (given : Option (List ℕ)) (last : Option SpanRow) (page : List SpanRow) →
    next_cursor names n (cursor_given names n (page_end page last) given) [] ≡ next_cursor names n (cursor_given names n last given) page
cursor_at names n given last [] = refl
cursor_at names n given last (row ∷ page) = cursor_at names n given (Some row) page

pub note_is : (names : List VarName) (n : ℕ) (given : Option (List ℕ)) (page rows : List SpanRow) (last : Option SpanRow) (more : Bool) → EndsPage page rows last more →
    last_note names n (cursor_given names n last given) [] more ≡ last_note names n given page (nat_lt (length page) (length rows))
note_is names n given page rows last more ends = by more (nat_lt (length page) (length rows)) refl ends.more ends.last
  where
    by : (more b : Bool) → nat_lt (length page) (length rows) ≡ b → IsTrue more ↔ (length page < length rows) → OnTrue more (last ≡ page_end page None) →
        last_note names n (cursor_given names n last given) [] more ≡ last_note names n given page b
    by true true is both ends_at =
        ap (λ (t : List ℕ). line (codes "more " ++ t)) (ap (λ (r : Option SpanRow). next_cursor names n (cursor_given names n r given) []) ends_at ∙ cursor_at names n given None page)
    by true false is both ends_at = absurd (true≢false (sym (le-leb (suc (length page)) (length rows) (both.0 refl)) ∙ is))
    by false true is both ends_at = absurd (true≢false (sym (both.1 (leb-true (suc (length page)) (length rows) is))))
    by false false is both ends_at = refl
