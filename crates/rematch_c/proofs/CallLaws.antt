-- What each call is answered with, by what is held.
use Rattle.std.proofs.Common.{◌≡◌, inr, ℕ, zero, suc, ◌*◌, ◌/◌, ◌<◌, ◌≤◌, min, Bool, cond, List, [], ◌++◌, length, take, drop, slice_get, Option, Some, None, refl, sym, ap, ◌∙◌, subst, arith}
use Rattle.std.proofs.lemmas.Option.{slice_get_past}
use Rattle.std.proofs.Math.Dec.{eqb-suc-zero}
use Rattle.std.proofs.Math.Nat.{div-lt_iff_lt-mul}
use Rattle.std.proofs.Math.Seq.{drop-append_seam, take-append_seam}
use Rattle.spanner_model.specs.Captures.{VarName}
use Rattle.row_cursor.specs.CursorTexts.{cursor_text}
use Rattle.spanner_model.specs.Answers.{AreResultNames, SpanRow}
use Rattle.query_parser.specs.Binding.{IsOnlyTested}
use Rattle.spanner_engine.specs.declared.beginning.BeginFault.TheVariants.{OutOfMemory}
use Rattle.spanner_library.specs.Library.{Given, PreparedQuery, checks_by, tree}
use Rattle.known_tests.specs.Relations.{relation}
use Rattle.rm_outside.specs.Status.{exit_status_of}
use Rattle.rm_outside.specs.declared.status.Status.{Status}
use Rattle.rm_outside.specs.declared.status.Status.TheVariants as status
use Rattle.rematch_c.specs.declared.held.Held.{Held}
use Rattle.rematch_c.specs.declared.held.Held.TheVariants.{Query, Rows, Run}
use Rattle.rematch_c.specs.declared.open_rows.ReadOptions.{ReadOptions}
use Rattle.rematch_c.specs.declared.short_text.ShortText.{ShortText}
use Rattle.rematch_c.specs.Calls.{Compiled, Counted, Filled, Holds, IsNoQuery, IsNoRows, Named, Opened, Printed, Resumed, Shared}
use Rattle.rematch_c.specs.Refusals.{IsReadRefusal, IsResumeRefusal, IsTextRefusal, IsWant, program}
use Rattle.rematch_c.specs.Rows.{AreRowsBehind, AreAllRowsOf, IsRowIn, QueryRows, rows_within}
use Rattle.rematch_c.specs.Texts.{IsText}

-- ---- what is held

not_query : (held : Held) → ((p : PreparedQuery) → held ≡ Query p → ⊥) → IsNoQuery (Some held)
not_query (Query p) other = other p refl
not_query (Rows r) other = tt
not_query (Run r) other = tt

not_rows : (held : Held) → ((r : QueryRows) → held ≡ Rows r → ⊥) → IsNoRows (Some held)
not_rows (Query p) other = tt
not_rows (Rows r) other = other r refl
not_rows (Run r) other = tt

-- ---- a value is put into a slot

pub holds : (held : Held) (home : Option Held) (note : ShortText) → home ≡ Some held → Holds held note home note status.Done
holds held home note is = subst (λ (h : Option Held). Holds held note h note status.Done) (sym is) Holds.holds

pub holds_none : (held : Held) (home : Option Held) (old note : ShortText) (how : Status) → home ≡ None → how ≡ status.Memory → IsWant note → Holds held old home note how
holds_none held home old note how is same want =
    subst (λ (h : Option Held). Holds held old h note how) (sym is) (subst (λ (s : Status). Holds held old None note s) (sym same) (Holds.want want))

-- ---- a text

pub compiled : (text : List ℕ) (p : PreparedQuery) (home : Option Held) (old note : ShortText) (how : Status) (number : ℕ) → IsOnlyTested program text (tree p) →
    AreResultNames (tree p).query p.names → IsText old [] → Holds (Query p) old home note how → number ≡ exit_status_of how → Compiled text home note number
compiled text p home old note how number only names silent Holds.holds is = subst (λ (n : ℕ). Compiled text (Some (Query p)) old n) (sym is) (Compiled.compiled only names silent)
compiled text p home old note how number only names silent (Holds.want want) is = subst (λ (n : ℕ). Compiled text None note n) (sym is) (Compiled.refused status.Memory want)

pub text_refused : (text : List ℕ) (home : Option Held) (note : ShortText) (how : Status) (number : ℕ) → home ≡ None → IsTextRefusal text how note →
    number ≡ exit_status_of how → Compiled text home note number
text_refused text home note how number empty refused is =
    subst (λ (h : Option Held). Compiled text h note number) (sym empty) (subst (λ (n : ℕ). Compiled text None note n) (sym is) (Compiled.refused how refused))

-- ---- variables

pub counted_query : (held : Held) (p : PreparedQuery) (names : List VarName) (count : ℕ) → held ≡ Query p → names ≡ p.names → count ≡ length names → Counted (Some held) count 0
counted_query held p names count is same counted =
    subst (λ (h : Held). Counted (Some h) count 0) (sym is) (subst (λ (n : ℕ). Counted (Some (Query p)) n 0) (sym (counted ∙ ap length same)) Counted.counted)

pub counted_other : (held : Held) → ((p : PreparedQuery) → held ≡ Query p → ⊥) → Counted (Some held) 0 2
counted_other held other = Counted.no_query (not_query held other)

pub counted_none : (home : Option Held) (number : ℕ) → home ≡ None → number ≡ 2 → Counted home 0 number
counted_none home number empty is = subst (λ (h : Option Held). Counted h 0 number) (sym empty) (subst (λ (n : ℕ). Counted None 0 n) (sym is) (Counted.no_query tt))

pub named_at : (held : Held) (p : PreparedQuery) (names : List VarName) (place : ℕ) (name : VarName) (text : ShortText) → held ≡ Query p → names ≡ p.names →
    slice_get names place ≡ Some name → IsText text name → Named (Some held) place text 0
named_at held p names place name text is same at said =
    let found : slice_get p.names place ≡ Some name = subst (λ (ns : List VarName). slice_get ns place ≡ Some name) same at in
    subst (λ (h : Held). Named (Some h) place text 0) (sym is) (Named.named found said)

pub named_past : (held : Held) (p : PreparedQuery) (names : List VarName) (place : ℕ) (text : ShortText) → held ≡ Query p → names ≡ p.names → length names ≤ place →
    IsText text [] → Named (Some held) place text 2
named_past held p names place text is same past silent =
    let none : slice_get p.names place ≡ None = subst (λ (ns : List VarName). slice_get ns place ≡ None) same (slice_get_past names place past) in
    subst (λ (h : Held). Named (Some h) place text 2) (sym is) (Named.no_variable none silent)

pub named_other : (held : Held) (place : ℕ) (text : ShortText) → ((p : PreparedQuery) → held ≡ Query p → ⊥) → IsText text [] → Named (Some held) place text 2
named_other held place text other silent = Named.no_query (not_query held other) silent

pub named_none : (home : Option Held) (place : ℕ) (text : ShortText) (number : ℕ) → home ≡ None → number ≡ 2 → IsText text [] → Named home place text number
named_none home place text number empty is silent =
    subst (λ (h : Option Held). Named h place text number) (sym empty) (subst (λ (n : ℕ). Named None place text n) (sym is) (Named.no_query tt silent))

-- ---- another slot

pub shared : (held : Held) (p q : PreparedQuery) (other : Option Held) → held ≡ Query p → q ≡ p → other ≡ Some (Query q) → Shared (Some held) other 0
shared held p q other is same home =
    let both : other ≡ Some (Query p) = home ∙ ap (λ (x : PreparedQuery). Some (Query x)) same in
    subst (λ (h : Held). Shared (Some h) other 0) (sym is) (subst (λ (o : Option Held). Shared (Some (Query p)) o 0) (sym both) Shared.shared)

pub shared_want : (held : Held) (p : PreparedQuery) (other : Option Held) → held ≡ Query p → other ≡ None → Shared (Some held) other 9
shared_want held p other is empty =
    subst (λ (h : Held). Shared (Some h) other 9) (sym is) (subst (λ (o : Option Held). Shared (Some (Query p)) o 9) (sym empty) Shared.want)

pub shared_other : (held : Held) (slot : Option Held) → ((p : PreparedQuery) → held ≡ Query p → ⊥) → slot ≡ None → Shared (Some held) slot 2
shared_other held slot other empty = subst (λ (o : Option Held). Shared (Some held) o 2) (sym empty) (Shared.no_query (not_query held other))

pub shared_none : (home other : Option Held) (number : ℕ) → home ≡ None → other ≡ None → number ≡ 2 → Shared home other number
shared_none home other number empty none is =
    subst (λ (h : Option Held). Shared h other number) (sym empty) (subst (λ (o : Option Held). Shared None o number) (sym none)
    (subst (λ (n : ℕ). Shared None None n) (sym is) (Shared.no_query tt)))

-- ---- a document

pub opened : (held : Held) (p : PreparedQuery) (d : List ℕ) (options : ReadOptions) (r : QueryRows) (home : Option Held) (old note : ShortText) (how : Status) → held ≡ Query p →
    AreAllRowsOf p d options r → IsText old [] → Holds (Rows r) old home note how → Opened (Some held) d options home note (exit_status_of how)
opened held p d options r home old note how is rows silent Holds.holds = Opened.opened (ap Some is) rows silent
opened held p d options r home old note how is rows silent (Holds.want want) = Opened.refused status.Memory (ap Some is) (inr (OutOfMemory, tt, (refl, want)))

pub open_refused : (held : Held) (p : PreparedQuery) (d : List ℕ) (options : ReadOptions) (home : Option Held) (note : ShortText) (how : Status) → held ≡ Query p → home ≡ None →
    IsReadRefusal p d options None how note → Opened (Some held) d options home note (exit_status_of how)
open_refused held p d options home note how is empty refused =
    subst (λ (h : Option Held). Opened (Some held) d options h note (exit_status_of how)) (sym empty) (Opened.refused how (ap Some is) refused)

pub opened_other : (held : Held) (d : List ℕ) (options : ReadOptions) (home : Option Held) (note : ShortText) → ((p : PreparedQuery) → held ≡ Query p → ⊥) → home ≡ None →
    IsText note [] → Opened (Some held) d options home note 2
opened_other held d options home note other empty silent =
    subst (λ (o : Option Held). Opened (Some held) d options o note 2) (sym empty) (Opened.no_query (not_query held other) silent)

pub opened_none : (home rows : Option Held) (d : List ℕ) (options : ReadOptions) (note : ShortText) (number : ℕ) → home ≡ None → rows ≡ None → IsText note [] → number ≡ 2 →
    Opened home d options rows note number
opened_none home rows d options note number empty none silent is =
    subst (λ (h : Option Held). Opened h d options rows note number) (sym empty) (subst (λ (o : Option Held). Opened None d options o note number) (sym none)
    (subst (λ (n : ℕ). Opened None d options None note n) (sym is) (Opened.no_query tt silent)))

-- ---- a document behind a cursor

pub resumed : (held : Held) (p : PreparedQuery) (d cursor : List ℕ) (options : ReadOptions) (r : QueryRows) (home : Option Held) (old note : ShortText) (how : Status) → held ≡ Query p →
    AreRowsBehind p d cursor options r → IsText old [] → Holds (Rows r) old home note how → Resumed (Some held) d cursor options home note (exit_status_of how)
resumed held p d cursor options r home old note how is rows silent Holds.holds = Resumed.resumed (ap Some is) rows silent
resumed held p d cursor options r home old note how is rows silent (Holds.want want) =
    Resumed.refused status.Memory (ap Some is) (IsResumeRefusal.unread rows.kept rows.text (inr (OutOfMemory, tt, (refl, want))))

pub resume_refused : (held : Held) (p : PreparedQuery) (d cursor : List ℕ) (options : ReadOptions) (home : Option Held) (note : ShortText) (how : Status) → held ≡ Query p → home ≡ None →
    IsResumeRefusal p d cursor options how note → Resumed (Some held) d cursor options home note (exit_status_of how)
resume_refused held p d cursor options home note how is empty refused =
    subst (λ (h : Option Held). Resumed (Some held) d cursor options h note (exit_status_of how)) (sym empty) (Resumed.refused how (ap Some is) refused)

pub resumed_other : (held : Held) (d cursor : List ℕ) (options : ReadOptions) (home : Option Held) (note : ShortText) → ((p : PreparedQuery) → held ≡ Query p → ⊥) → home ≡ None →
    IsText note [] → Resumed (Some held) d cursor options home note 2
resumed_other held d cursor options home note other empty silent =
    subst (λ (o : Option Held). Resumed (Some held) d cursor options o note 2) (sym empty) (Resumed.no_query (not_query held other) silent)

pub resumed_none : (home rows : Option Held) (d cursor : List ℕ) (options : ReadOptions) (note : ShortText) (number : ℕ) → home ≡ None → rows ≡ None → IsText note [] → number ≡ 2 →
    Resumed home d cursor options rows note number
resumed_none home rows d cursor options note number empty none silent is =
    subst (λ (h : Option Held). Resumed h d cursor options rows note number) (sym empty) (subst (λ (o : Option Held). Resumed None d cursor options o note number) (sym none)
    (subst (λ (n : ℕ). Resumed None d cursor options None note n) (sym is) (Resumed.no_query tt silent)))

-- ---- a cursor

module _ (held : Held) (r : QueryRows) (numbers : List ℕ) (is : held ≡ Rows r) where
  pub printed : (row : SpanRow) (text before copied : List ℕ) (count : ℕ) → IsRowIn (length r.query.names) (length r.document) numbers row →
      text ≡ cursor_text r.query.names row (length r.document) → count ≡ length text → copied ≡ text → count ≤ length before →
      Printed (Some held) numbers before (copied ++ drop count before) count 0
  printed row text before copied count in_row spelled counted same room =
      let long : length copied ≡ count = ap length same ∙ sym counted in
      let front : take count (copied ++ drop count before) ≡ copied = subst (λ (k : ℕ). take k (copied ++ drop count before) ≡ copied) long (take-append_seam copied (drop count before)) in
      let behind : drop count (copied ++ drop count before) ≡ drop count before =
      subst (λ (k : ℕ). drop k (copied ++ drop count before) ≡ drop count before) long (drop-append_seam copied (drop count before)) in
      subst (λ (h : Held). Printed (Some h) numbers before (copied ++ drop count before) count 0) (sym is)
      (Printed.printed row in_row (counted ∙ ap length spelled) (front ∙ same ∙ spelled) behind)

  pub printed_no_room : (row : SpanRow) (text before : List ℕ) (count : ℕ) → IsRowIn (length r.query.names) (length r.document) numbers row →
      text ≡ cursor_text r.query.names row (length r.document) → count ≡ length text → length before < count → Printed (Some held) numbers before before count 8
  printed_no_room row text before count in_row spelled counted room =
      subst (λ (h : Held). Printed (Some h) numbers before before count 8) (sym is) (Printed.no_room row in_row (counted ∙ ap length spelled) room)

  pub printed_no_row : (before : List ℕ) (count : ℕ) → count ≡ 0 → ((row : SpanRow) → IsRowIn (length r.query.names) (length r.document) numbers row → ⊥) →
      Printed (Some held) numbers before before count 2
  printed_no_row before count nought none =
      subst (λ (h : Held). Printed (Some h) numbers before before count 2) (sym is)
      (subst (λ (n : ℕ). Printed (Some (Rows r)) numbers before before n 2) (sym nought) (Printed.no_row none))

  pub printed_want : (before : List ℕ) (count : ℕ) → count ≡ 0 → Printed (Some held) numbers before before count 9
  printed_want before count nought =
      subst (λ (h : Held). Printed (Some h) numbers before before count 9) (sym is)
      (subst (λ (n : ℕ). Printed (Some (Rows r)) numbers before before n 9) (sym nought) Printed.want)

pub printed_other : (held : Held) (numbers before : List ℕ) (count : ℕ) → ((r : QueryRows) → held ≡ Rows r → ⊥) → count ≡ 0 → Printed (Some held) numbers before before count 2
printed_other held numbers before count other nought =
    subst (λ (n : ℕ). Printed (Some held) numbers before before n 2) (sym nought) (Printed.no_rows (not_rows held other))

pub printed_none : (home : Option Held) (numbers before : List ℕ) (count number : ℕ) → home ≡ None → count ≡ 0 → number ≡ 2 → Printed home numbers before before count number
printed_none home numbers before count number empty nought is =
    subst (λ (h : Option Held). Printed h numbers before before count number) (sym empty) (subst (λ (n : ℕ). Printed None numbers before before n number) (sym nought)
    (subst (λ (n : ℕ). Printed None numbers before before 0 n) (sym is) (Printed.no_rows tt)))

-- ---- rows

-- where none fits, there is no room for one
none_fit : (most room width : ℕ) → rows_within most room width ≡ 0 → 0 < most → room < width
none_fit most room zero is some = absurd (omega (arith, is, some))
none_fit most room (suc width) is some =
    let chosen : rows_within most room (suc width) ≡ min most (room / suc width) = ap (λ (b : Bool). cond b most (min most (room / suc width))) (eqb-suc-zero width) in
    let least : min most (room / suc width) ≡ 0 = sym chosen ∙ is in
    let small : room / suc width < 1 = omega (arith, least, some) in
    let below : room < 1 * suc width = (div-lt_iff_lt-mul {k = suc width} {x = room} {y = 1} (omega arith)).0 small in
    omega (arith, below)

-- where some fit, there is room for one
some_fit : (most room width : ℕ) → 0 < rows_within most room width → width ≤ room
some_fit most room zero some = omega arith
some_fit most room (suc width) some =
    let chosen : rows_within most room (suc width) ≡ min most (room / suc width) = ap (λ (b : Bool). cond b most (min most (room / suc width))) (eqb-suc-zero width) in
    let wide : ¬ (room < suc width) = λ small.
    let low : room / suc width < 1 = (div-lt_iff_lt-mul {k = suc width} {x = room} {y = 1} (omega arith)).1 (omega (arith, small)) in
    omega (arith, chosen, some, low) in
    omega (arith, wide)

pub filled : (held : Held) (r new : QueryRows) (before after : List ℕ) (most fitting given : ℕ) → held ≡ Rows r → new.query ≡ r.query → new.document ≡ r.document →
    (0 < most → 0 < fitting) → fitting ≡ rows_within most (length before) (2 * length r.query.names) →
    Given (checks_by relation r.query) r.query.names r.document r.rest new.rest before after fitting given → Filled (Some held) (Some (Rows new)) before after most given 0
filled held r new before after most fitting given is query document some fits rows =
    let room : 0 < most → 2 * length r.query.names ≤ length before = λ wanted. some_fit most (length before) (2 * length r.query.names) (subst (λ (n : ℕ). 0 < n) fits (some wanted)) in
    subst (λ (h : Held). Filled (Some h) (Some (Rows new)) before after most given 0) (sym is)
    (Filled.filled query document room (subst (λ (n : ℕ). Given (checks_by relation r.query) r.query.names r.document r.rest new.rest before after n given) fits rows))

pub filled_no_room : (held : Held) (r : QueryRows) (out : List ℕ) (most fitting given : ℕ) → held ≡ Rows r → given ≡ 0 → 0 < most → fitting ≡ 0 →
    fitting ≡ rows_within most (length out) (2 * length r.query.names) → Filled (Some held) (Some (Rows r)) out out most given 8
filled_no_room held r out most fitting given is none some empty fits =
    subst (λ (h : Held). Filled (Some h) (Some (Rows r)) out out most given 8) (sym is) (subst (λ (n : ℕ). Filled (Some (Rows r)) (Some (Rows r)) out out most n 8) (sym none)
    (Filled.no_room some (none_fit most (length out) (2 * length r.query.names) (sym fits ∙ empty) some)))

pub filled_other : (held : Held) (out : List ℕ) (most given : ℕ) → ((r : QueryRows) → held ≡ Rows r → ⊥) → given ≡ 0 → Filled (Some held) (Some held) out out most given 2
filled_other held out most given other none =
    subst (λ (n : ℕ). Filled (Some held) (Some held) out out most n 2) (sym none) (Filled.no_rows (not_rows held other))

pub filled_none : (home new : Option Held) (out : List ℕ) (most number : ℕ) → home ≡ None → new ≡ None → number ≡ 2 → Filled home new out out most 0 number
filled_none home new out most number empty none is =
    subst (λ (h : Option Held). Filled h new out out most 0 number) (sym empty) (subst (λ (o : Option Held). Filled None o out out most 0 number) (sym none)
    (subst (λ (n : ℕ). Filled None None out out most 0 n) (sym is) (Filled.no_rows tt)))
