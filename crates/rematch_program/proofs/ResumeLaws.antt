-- A page's own cursor stands for its end.
use Rattle.std.proofs.Common.{◌≡◌, ℕ, suc, ◌-◌, ◌<◌, ◌≤◌, List, [], ◌∷◌, ◌++◌, Bool, length, take, drop, get_or, Option, Some, None, IsTrue, inl, inr, refl, sym, ap, ◌∙◌, subst, arith, length-drop}
use Rattle.std.specs.Prelude.{◌↔◌}
use Rattle.std.specs.List.{All}
use Rattle.std.proofs.lemmas.List.{take_all}
use Rattle.span_core.specs.declared.kept.Kept.{Kept}
use Rattle.span_core.specs.Names.{is_name}
use Rattle.command_line.specs.RequestView.{cursor_of}
use Rattle.span_core.specs.Lists.{Has}
use Rattle.spanner_model.specs.Captures.{VarName}
use Rattle.spanner_model.specs.Expression.{QueryTree}
use Rattle.spanner_model.specs.Sound.{IsSound}
use Rattle.spanner_model.specs.Answers.{SpanRow, AreAnswers, AreResultNames, IsRest, page_end}
use Rattle.span_core.proofs.HasLaws.{Has-get_or, Has-take}
use Rattle.spanner_model.proofs.RowOrder.{take_both}
use Rattle.row_cursor.specs.CursorTexts.{cursor_text, IsC2Text, IsCursorText}
use Rattle.spanner_engine.specs.Begun.{row_kept}
use Rattle.spanner_model.specs.Passing.{Check, IsPassingPage, passing}
use Rattle.spanner_engine.proofs.PassingLaws.{has_passing}
use Rattle.rematch_program.specs.declared.TheConstants.{DOCUMENT_LIMIT}
use Rattle.rematch_program.specs.Pages.{AllFit, CursorFits, IsAfter}
use Rattle.rematch_program.specs.Resume.{AreResumed, GiveInTurn, Paged, PagesGiveEachOnce, PagesResume, limits_of, note_cursor, rows_of}
use Rattle.rematch_program.proofs.ResultNames.{result_named}
use Rattle.rematch_program.proofs.Completeness.{after_one}
use Rattle.rematch_program.proofs.Inside.{answers_fit}
use Rattle.rematch_program.proofs.PassingJoins.{page_of, passing_in_order, passing_pages_meet}
use Rattle.rematch_program.proofs.RestLaws.{Has-rest}

-- ---- the rows of a page fit it

page_fits : (checks : List Check) (q : QueryTree) (d : List ℕ) (names : List VarName) (after : Option SpanRow) (a : ℕ) (page : List SpanRow) (more : Bool) →
    IsPassingPage checks q d names after a page more → AllFit (length names) (length d) page
page_fits checks q d names after a page more p row has =
    let among = Has-rest after (passing checks names d p.0) p.1 row p.3 (Has-take p.1 a row (rw (← p.4) has)) in
    answers_fit q d names p.0 p.2 row (has_passing checks names d p.0 row among)

-- ---- the text of a cursor, read as that of `-a`

taken : (names : List VarName) (row : SpanRow) (kept : Option ℕ) (text : List ℕ) → IsCursorText names row kept text → IsAfter names (cursor_of (Some text)) (Some (record { row = row; length = kept }))
taken names row None text h =
    let P : List ℕ → Type 0 = λ t. IsAfter names (cursor_of (Some t)) (Some (record { row = row; length = None })) in
    subst P (sym h.spelled) (record { row_is = h.row_is; spans = h.spans; spelled = refl })
taken names row (Some n) text h =
    let P : List ℕ → Type 0 = λ t. IsAfter names (cursor_of (Some t)) (Some (record { row = row; length = Some n })) in
    subst P (sym h.spelled) (record { row_is = h.row_is; inside = h.inside; small = h.small; spelled = refl })

module _ (names : List VarName) (n : ℕ) (few : n ≤ DOCUMENT_LIMIT) (named : (x : VarName) → Has names x → IsTrue (is_name x)) where
  all_named : All (λ name. IsTrue (is_name name)) names
  all_named k d l = named (get_or names k d) (Has-get_or names k d l)

  -- what the cursor of a row keeps
  abbrev kept_of : SpanRow → Kept
  kept_of row = record { row = row; length = Some n }

  -- what is kept at the end of a page
  abbrev kept_at : Option Kept → List SpanRow → Option Kept
  kept_at after [] = after
  kept_at after (row ∷ page) = kept_at (Some (kept_of row)) page

  reads : (row : SpanRow) (page : List SpanRow) → AllFit (length names) n (row ∷ page) → IsC2Text names row n (cursor_text names row n)
  reads row page fit =
      let here = fit row (inl refl) in
      record { row_is = record { lengths = here.lengths; named = all_named }; inside = here.inside; small = omega (arith, few); spelled = refl }

  later : (row : SpanRow) (page : List SpanRow) → AllFit (length names) n (row ∷ page) → AllFit (length names) n page
  later row page fit r has = fit r (inr has)

  resumes : (given : Option (List ℕ)) (after : Option Kept) (page : List SpanRow) → IsAfter names given after → AllFit (length names) n page →
      IsAfter names (note_cursor names n given page) (kept_at after page)
  resumes None None [] h fit = tt
  resumes None (Some kept) [] h fit = absurd h
  resumes (Some text) None [] h fit = absurd h
  resumes (Some text) (Some kept) [] h fit = taken names kept.row kept.length text h
  resumes given after (row ∷ page) h fit = resumes (Some (cursor_text names row n)) (Some (kept_of row)) page (reads row page fit) (later row page fit)

  still_fits : (after : Option Kept) (page : List SpanRow) → CursorFits n after → CursorFits n (kept_at after page)
  still_fits after [] fits = fits
  still_fits after (row ∷ page) fits = still_fits (Some (kept_of row)) page refl

  same_place : (after : Option Kept) (page : List SpanRow) → row_kept (kept_at after page) ≡ page_end page (row_kept after)
  same_place after [] = refl
  same_place after (row ∷ page) = same_place (Some (kept_of row)) page

pub pages_resume : PagesResume
pages_resume checks q d names given after a page more sound few are begins fits p =
    let named = λ (x : VarName) (h : Has names x). result_named q x sound ((are.1 x).0 h) in
    let there = resumes names (length d) few named given after page begins (page_fits checks q d names (row_kept after) a page more p) in
    let place = same_place names (length d) few named after page in
    record {
      resumed = kept_at names (length d) few named after page;
      taken = there;
      only = λ other begun. after_one names (note_cursor names (length d) given page) (kept_at names (length d) few named after page) other there begun;
      fits = still_fits names (length d) few named after page fits;
      place = place;
      joins = λ b next more' n.
          passing_pages_meet checks q d names (row_kept after) a b page next more more' p
          (rw (← place) n);
    }

-- ---- any number of pages

module _ (checks : List Check) (q : QueryTree) (d : List ℕ) (names : List VarName) (sound : IsSound q) (few : length d ≤ DOCUMENT_LIMIT) (are : AreResultNames q names)
    (all : List SpanRow) (answers : AreAnswers q d names all) where
  abbrev those : List SpanRow
  those = passing checks names d all

  -- what a page gives of the rows that stood after its begin, and where the one that follows begins
  record Gave (given : Option (List ℕ)) (p : Paged) (rest : List SpanRow) : Type 0 where
    end : Option Kept
    begins : IsAfter names (note_cursor names (length d) given p.rows) end
    first : p.rows ≡ take p.limit rest
    left : IsRest (row_kept end) those (drop p.limit rest)
    counted : IsTrue p.more ↔ (p.limit < length rest)

  gave : (given : Option (List ℕ)) (after other : Option Kept) (p : Paged) (rest : List SpanRow) → IsAfter names given after → IsRest (row_kept after) those rest →
      IsAfter names given other → IsPassingPage checks q d names (row_kept other) p.limit p.rows p.more → Gave given p rest
  gave given after other p rest begins is begun page' =
      let same : other ≡ after = after_one names given after other begins begun in
      let page = rw same at page' in
      let leaves = page_of checks q d names (row_kept after) p.limit p.rows p.more all rest answers is page in
      let named = λ (x : VarName) (h : Has names x). result_named q x sound ((are.1 x).0 h) in
      record {
        end = kept_at names (length d) few named after p.rows;
        begins = resumes names (length d) few named given after p.rows begins (page_fits checks q d names (row_kept after) p.limit p.rows p.more page);
        first = leaves.first;
        left = rw (same_place names (length d) few named after p.rows) leaves.left;
        counted = leaves.counted;
      }

  give_first : (pages : List Paged) (given : Option (List ℕ)) (after : Option Kept) (rest : List SpanRow) → IsAfter names given after → IsRest (row_kept after) those rest →
      AreResumed checks q d names given pages → rows_of pages ≡ take (limits_of pages) rest
  give_first [] given after rest begins is h = refl
  give_first (p ∷ pages) given after rest begins is h =
      let g = gave given after h.0.0 p rest begins is h.0.1 h.0.2 in
      let later = give_first pages (note_cursor names (length d) given p.rows) g.end (drop p.limit rest) g.begins g.left h.1 in
      ap (λ (rs : List SpanRow). rs ++ rows_of pages) g.first ∙ ap (λ (rs : List SpanRow). take p.limit rest ++ rs) later ∙ take_both p.limit (limits_of pages) rest

  give_more : (front : List Paged) (last : Paged) (given : Option (List ℕ)) (after : Option Kept) (rest : List SpanRow) → IsAfter names given after →
      IsRest (row_kept after) those rest → AreResumed checks q d names given (front ++ last ∷ []) → IsTrue last.more ↔ (limits_of (front ++ last ∷ []) < length rest)
  give_more [] last given after rest begins is h =
      let g = gave given after h.0.0 last rest begins is h.0.1 h.0.2 in (
        λ t. omega (arith, g.counted.0 t),
        λ l. g.counted.1 (omega (arith, l)),
      )
  give_more (p ∷ front) last given after rest begins is h =
      let g = gave given after h.0.0 p rest begins is h.0.1 h.0.2 in
      let later = give_more front last (note_cursor names (length d) given p.rows) g.end (drop p.limit rest) g.begins g.left h.1 in
      let count : length (drop p.limit rest) ≡ length rest - p.limit = length-drop p.limit rest in (
        λ t. omega (arith, later.0 t, count),
        λ l. later.1 (omega (arith, l, count)),
      )

-- pages of at least one row each have room for as many rows as they are
many_limits : (pages : List Paged) → All (λ p. 1 ≤ p.limit) pages → length pages ≤ limits_of pages
many_limits [] h = omega arith
many_limits (p ∷ pages) h =
    let here : 1 ≤ p.limit = h 0 p (omega arith) in
    let later = many_limits pages (λ k e l. h (suc k) e (omega (arith, l))) in
    omega (arith, here, later)

pub pages_give_each_once : PagesGiveEachOnce
pages_give_each_once checks q d names pages rows sound few are (all, answers, is) h =
    let R : List SpanRow → Type 0 = λ rs. GiveInTurn pages rs in
    let those = passing checks names d all in
    let first = give_first checks q d names sound few are all answers pages None None those tt refl h in
    subst R (sym is) (record {
      in_order = passing_in_order checks names d all answers.in_order;
      first = first;
      more = λ front last split.
          let resumed = rw split at h in
          let m = give_more checks q d names sound few are all answers front last None None those tt refl resumed in
          let same : limits_of pages ≡ limits_of (front ++ last ∷ []) = ap limits_of split in
          (λ t. omega (arith, m.0 t, same), λ l. m.1 (omega (arith, l, same)));
      ends = λ least enough. first ∙ take_all (limits_of pages) those (let room = many_limits pages least in omega (arith, room, enough));
    })
