-- A run whose way is clear ends with all that was asked for.
use Rattle.std.proofs.Common.{ℕ, ◌≡◌, ◌<◌, ◌≤◌, ◌⊎◌, ◌∙◌, inl, inr, refl, sym, ap, subst, List, Bool, Option, Some, None, IfSome, IsTrue, length, codes, arith}
use Rattle.std.proofs.lemmas.Option.{same_Some}
use Rattle.rm_outside.specs.Faults.{Rose}
use Rattle.rm_outside.specs.Told.{Told}
use Rattle.rm_outside.specs.declared.status.Status.{Status}
use Rattle.rm_outside.specs.declared.status.Status.TheVariants as status
use Rattle.command_line.specs.RequestView.{RequestView, Query, Itself, HeldBy}
use Rattle.command_line.specs.declared.request.Mode.{Mode}
use Rattle.command_line.specs.declared.request.Mode.TheVariants as mode
use Rattle.span_core.specs.declared.kept.Kept.{Kept}
use Rattle.spanner_model.specs.Captures.{VarName}
use Rattle.spanner_model.specs.Expression.{QueryTree}
use Rattle.spanner_model.specs.Answers.{SpanRow, AreResultNames}
use Rattle.spanner_model.proofs.NameLaws.{same_names}
use Rattle.marked_automaton.specs.declared.fault.SizeFault.TheVariants.{States, Ways}
use Rattle.query_automaton.specs.Parts.{HasLargePart}
use Rattle.spanner_model.specs.Tested.{TestedTree}
use Rattle.spanner_engine.specs.Touching.{HasMinus}
use Rattle.row_cursor.specs.CursorTexts.{IsCursorText}
use Rattle.row_cursor.proofs.Whole.{one_cursor}
use Rattle.trial_maker.specs.Trial.{trial_text}
use Rattle.rematch_program.proofs.Fits.{fits_no_other, fits_not_past}
use Rattle.rematch_program.specs.declared.TheConstants.{QUERY_LIMIT, DOCUMENT_LIMIT}
use Rattle.rm_outside.specs.Change.{Change, Adds, Failed}
use Rattle.rematch_program.specs.Work.{Clock, Work, StandsStill, clock, work}
use Rattle.spanner_engine.specs.Begun.{AreRead, HasHeavyAtom, row_kept, table_weight}
use Rattle.spanner_model.specs.Passing.{Check, Known, checks_of}
use Rattle.rematch_program.specs.Limits.{PartsAreSmall}
use Rattle.note_texts.specs.Notes.{line}
use Rattle.rm_outside.proofs.FaultLaws.{rose_from}
use Rattle.rematch_program.specs.Pages.{IsAfter, CursorFits, page_text, last_note}
use Rattle.rematch_program.specs.Testing.{AreAllPassing, IsPassingPageOf, TrialKeeps, explain_tested}
use Rattle.rematch_program.specs.Trials.{trial_summary}
use Rattle.rematch_program.specs.Run.{Text, Shelved, shelved, HasFaults, FromPage, FromAnswers, FromDocument, FromPlace, FromCursor, FromCompiled, FromQuery, FromText, FromRequest, FromWords, IsExplained, IsNotBegun, IsTooLarge, RunTested, WantsAnswers}
use Rattle.rematch_program.specs.Run.{whole, write_failed, out_of_memory, paged, summed, other_document, past_the_document, filter_full, table_full, not_begun, by_states, by_ways, by_memory, answered, document_failed, document_too_long, found, no_cursor, other_variables, placed, page_asked, trial_asked}
use Rattle.rematch_program.specs.Run.{explained, told_names, too_large, compiled, query_refused, understood, given, query_failed, query_too_long, fetched, refused, accepted}
use Rattle.note_texts.specs.Outcomes.{Reports, cut, whole as put_whole}
use Rattle.rematch_program.specs.Complete.{IsTextOf, IsClear, IsWithinLimits, HasDocument, Completes, PlainCompletes, TrialCompletes, ExplainCompletes}

-- a text and a note are whole, or memory was wanting
pub record AreWhole (text last : Text) (w : Work) (end : Status) (note : Text) : Type 0 where
  pub done : end ≡ status.Done
  pub wrote : Adds w.out text
  pub says : note ≡ last

told_as : (held : Option Text) (bytes all : Text) → held ≡ Some all → IfSome held (λ all. bytes ≡ all) → bytes ≡ all
told_as held bytes all is told = let P : Option Text → Type 0 = λ h. IfSome h (λ all. bytes ≡ all) in subst P is told

longer : (limit : ℕ) (held : Option Text) (all : Text) → held ≡ Some all → IfSome held (λ all. limit < length all) → limit < length all
longer limit held all is long = let P : Option Text → Type 0 = λ h. IfSome h (λ all. limit < length all) in subst P is long

-- a query has one list of names; a cursor's text keeps one row, and one length or none
names_one : (q : QueryTree) (names others : List VarName) → AreResultNames q names → AreResultNames q others → names ≡ others
names_one q names others a b = same_names names others a.0 b.0 (λ x h. (b.1 x).1 ((a.1 x).0 h)) (λ x h. (a.1 x).1 ((b.1 x).0 h))

pub after_one : (names : List VarName) (text : Option Text) (after other : Option Kept) → IsAfter names text after → IsAfter names text other → other ≡ after
after_one names None None None h g = refl
after_one names None None (Some kept) h g = absurd g
after_one names None (Some kept) other h g = absurd h
after_one names (Some text) None other h g = absurd h
after_one names (Some text) (Some kept) None h g = absurd g
after_one names (Some text) (Some kept) (Some other) h g =
    let (same_names, same_row, same_length) = one_cursor names names other.row kept.row other.length kept.length text g h in
    ap Some (λ i. record { row = same_row i; length = same_length i })

-- the row of a text that is given
row_of_text : (names : List VarName) (text : Text) (after : Option Kept) → IsAfter names (Some text) after → (kept : Kept) × IsCursorText names kept.row kept.length text
row_of_text names text None h = absurd h
row_of_text names text (Some kept) h = (kept, h)

-- no size is refused
never_states : (q : QueryTree) → PartsAreSmall q → (count : ℕ) → HasLargePart q (States count) → ⊥
never_states q small count (inl (k, l, at, (passes, (n, part, le)))) = let few = (small n (inl (k, l, at, part))).0 in absurd (omega (arith, few, passes, le))
never_states q small count (inr (passes, (n, part, le))) = let few = (small n (inr part)).0 in absurd (omega (arith, few, passes, le))

never_ways : (q : QueryTree) → PartsAreSmall q → (count : ℕ) → HasLargePart q (Ways count) → ⊥
never_ways q small count (inl (k, l, at, (passes, (n, part, le)))) = let few = (small n (inl (k, l, at, part))).1 in absurd (omega (arith, few, passes, le))
never_ways q small count (inr (passes, (n, part, le))) = let few = (small n (inr part)).1 in absurd (omega (arith, few, passes, le))

never_too_large : (q : QueryTree) → PartsAreSmall q → (end : Status) (note : Text) → IsTooLarge q end note → end ≡ status.Memory
never_too_large q small end note (by_states count large is) = absurd (never_states q small count large)
never_too_large q small end note (by_ways count large is) = absurd (never_ways q small count large)
never_too_large q small end note (by_memory is) = is.ends

-- the answers are begun, unless memory is wanting
never_unbegun : (filter : Bool) (q : QueryTree) (after : Option Kept) (document : Text) (most : ℕ) (steps : Clock) (end : Status) (note : Text) →
    CursorFits (length document) after → (IsTrue filter → ¬ HasMinus q → ¬ HasHeavyAtom q document most) → (K : ℕ → Bool) → AreRead filter q document K → table_weight q document K ≤ most →
    IsNotBegun filter q after document most steps end note → end ≡ status.Memory
never_unbegun filter q after document most steps end note fits filtered K reads light (other_document kept other is still) = absurd (fits_no_other (length document) after kept fits other)
never_unbegun filter q after document most steps end note fits filtered K reads light (past_the_document past is still) = absurd (fits_not_past (length document) after fits past)
never_unbegun filter q after document most steps end note fits filtered K reads light (filter_full inside wanted plain heavy is few) = absurd (filtered wanted plain heavy)
never_unbegun filter q after document most steps end note fits filtered K reads light (table_full inside heavy is few) = let past = heavy K reads in absurd (omega (arith, light, past))
never_unbegun filter q after document most steps end note fits filtered K reads light (by_memory is few) = is.ends

same_lines : (j k : ℕ) → mode.Trial j ≡ mode.Trial k → j ≡ k
same_lines j k is = cc

pub trial_wants : (m : Mode) (lines : ℕ) → m ≡ mode.Trial lines → WantsAnswers m
trial_wants m lines is = let P : Mode → Type 0 = λ o. WantsAnswers o in subst P (sym is) tt

pub plain_wants : (m : Mode) → m ≡ mode.Plain → WantsAnswers m
plain_wants m is = let P : Mode → Type 0 = λ o. WantsAnswers o in subst P (sym is) tt

-- the part of a run from a moment on: the shelf holds what it held, and no count sank in between
record IsLater (s later : Shelved) : Type 0 where
  kept : later.before.held ≡ s.before.held
  counts : (n : Text) → s.before.faults n ≤ later.before.faults n
  ends : later.after ≡ s.after

faults_earlier : (s later : Shelved) (name : Text) → IsLater s later → HasFaults later name → HasFaults s name
faults_earlier s later name is rose =
    let P : Told → Type 0 = λ t. Rose (later.before.faults name) (t.faults name) in rose_from _ _ _ (is.counts name) (subst P is.ends rose)

has_later : (s later : Shelved) (a : RequestView) (names : List VarName) (after : Option Kept) (document : Text) → IsLater s later →
    HasDocument a names after document s → HasDocument a names after document later
has_later s later a names after document is has =
    let P : (Text → Option Text) → Type 0 = λ held. held a.document ≡ Some document in
    record { begins = has.begins; held = subst P (sym is.kept) has.held; few = has.few; fits = has.fits; fetched = λ rose. has.fetched (faults_earlier s later a.document is rose) }

-- from the words to the query; `Goal` is what is to be shown
module _ (k : Known) (words : List Text) (a : RequestView) (text : Text) (t : TestedTree) (names : List VarName) (s : Shelved) (w : Work)
    (notes : Change) (clear : IsClear k words a text t names s w.out notes) (end : Status) (note : Text) (Goal : Type 0)
    (memory : end ≡ status.Memory → Goal) (from_query : (p : Shelved) → IsLater s p → FromQuery p w end note a t (checks_of k t.asked) → Goal) where
  from_text : (p : Shelved) → IsLater s p → FromText p w end note k a text → Goal
  from_text p later (query_refused fault only is quiet) = absurd (only.unsound t clear.sound clear.tests_known)
  from_text p later (out_of_memory is quiet) = memory is.ends
  from_text p later (understood other only case) = let P : TestedTree → Type 0 = λ u. FromQuery p w end note a u (checks_of k u.asked) in
      from_query p later (subst P (sym (only.only t clear.sound)) case)

  given_as : (query : Query) → a.query ≡ query → IsTextOf s query text
  given_as query is = let P : Query → Type 0 = λ o. IsTextOf s o text in subst P is clear.given

  from_request : FromRequest s w end note k a → Goal
  from_request (given own is case) = let P : Text → Type 0 = λ x. FromText s w end note k a x in
      from_text s (record { kept = refl; counts = λ n. omega arith; ends = refl }) (subst P (given_as (Itself own) is) case)
  from_request (query_failed name is failed ends quiet) = absurd ((given_as (HeldBy name) is).2 failed.faulty)
  from_request (query_too_long name is long ends quiet) =
      let told = given_as (HeldBy name) is in let more = longer QUERY_LIMIT (s.before.held name) text told.0 long.many in let few = told.1 in absurd (omega (arith, more, few))
  from_request (out_of_memory name is once ends quiet) = memory ends.ends
  from_request (fetched name is own between gives case) =
      let P : Text → Type 0 = λ x. FromText (shelved between s.after) w end note k a x in
      from_text (shelved between s.after) (record { kept = gives.once.kept; counts = gives.once.later; ends = refl })
      (subst P (told_as (s.before.held name) own text (given_as (HeldBy name) is).0 gives.told) case)

  from_words : FromWords s w end note k words → Goal
  from_words (refused none is quiet) = let both : Some a ≡ None = sym clear.accepted ∙ none in absurd (cc)
  from_words (out_of_memory is quiet) = memory is.ends
  from_words (accepted other is case) =
      let same : other ≡ a = same_Some other a (sym is ∙ clear.accepted) in
      let P : RequestView → Type 0 = λ b. FromRequest s w end note k b in
      from_request (subst P same case)

from_page : (text last : Text) (Keeps : Clock → Type 0) (w : Work) (end : Status) (note : Text) → ¬ Failed w.out →
    FromPage w end note text last Keeps → AreWhole text last w end note ⊎ (end ≡ status.Memory)
from_page text last Keeps w end note fine (whole is says adds few) = inl (record { done = is; wrote = adds; says = says })
from_page text last Keeps w end note fine (write_failed is failed part few) = absurd (fine failed)
from_page text last Keeps w end note fine (out_of_memory is part few) = inr is.ends

-- the plain command
pub record IsServed (a : RequestView) (q : QueryTree) (checks : List Check) (names : List VarName) (after : Option Kept) (document : Text) (w : Work) (end : Status) (note : Text) : Type 0 where
  pub rows : List SpanRow
  pub more : Bool
  pub page : IsPassingPageOf checks q document names (row_kept after) a.limit rows more
  pub are : AreWhole (page_text a.form a.texts names document rows) (last_note names (length document) a.after rows more) w end note

module _ (k : Known) (words : List Text) (a : RequestView) (text : Text) (t : TestedTree) (names : List VarName) (s : Shelved) (w : Work)
    (notes : Change) (clear : IsClear k words a text t names s w.out notes) (end : Status) (note : Text) where
  abbrev q : QueryTree
  q = t.query

  abbrev checks : List Check
  checks = checks_of k t.asked

  module _ (wants : WantsAnswers a.mode) (small : PartsAreSmall q) (p : Shelved) (Goal : Type 0) (memory : end ≡ status.Memory →
      Goal) (from_compiled : FromCompiled a q checks w end note p → Goal) where
    from_query : FromQuery p w end note a t checks → Goal
    from_query (explained is case still same) = let P : Mode → Type 0 = λ m. WantsAnswers m in absurd (subst P is wants)
    from_query (too_large asks why quiet) = memory (never_too_large q small end note why)
    from_query (out_of_memory is quiet) = memory is.ends
    from_query (compiled asks few case) = from_compiled case

  module _ (after : Option Kept) (document : Text) (limits : IsWithinLimits a q document) (fits : CursorFits (length document) after) (Goal : Type 0)
      (memory : end ≡ status.Memory → Goal) (from_answers : FromAnswers a q checks w end note names after document → Goal) where
    from_document : FromDocument a q checks w end note names after document → Goal
    from_document (not_begun why quiet) = memory (let (K, reads, light) = limits.light in never_unbegun a.filter q after document a.max_table w.steps end note fits limits.filtered K reads light why)
    from_document (out_of_memory is quiet) = memory is.ends
    from_document (answered inside held case) = from_answers case

  -- the plain command
  module _ (after : Option Kept) (document : Text) (plain : a.mode ≡ mode.Plain) (limits : IsWithinLimits a q document) where
    abbrev Served : Type 0
    Served = IsServed a q checks names after document w end note ⊎ (end ≡ status.Memory)

    page_of : FromAnswers a q checks w end note names after document → Served
    page_of (paged is rows more page case) = elim (from_page _ _ _ w end note clear.written case) [
      | inl are ↦ inl (record { rows = rows; more = more; page = page; are = are })
      | inr memory ↦ inr memory
    ]
    page_of (summed lines is rows answers case) = let both : mode.Plain ≡ mode.Trial lines = sym plain ∙ is in absurd (cc)

    module _ (p : Shelved) (has : HasDocument a names after document p) where
      place_of : FromPlace a q checks w end note p names after → Served
      place_of (document_failed failed ends quiet) = absurd (has.fetched failed.faulty)
      place_of (document_too_long long ends quiet) = let more = longer DOCUMENT_LIMIT (p.before.held a.document) document has.held long.many in let few = has.few in absurd (omega (arith, more, few))
      place_of (out_of_memory once is quiet) = inr is.ends
      place_of (found bytes gives case) =
          let P : Text → Type 0 = λ d. FromDocument a q checks w end note names after d in
          from_document after document limits has.fits Served (λ m. inr m) page_of (subst P (told_as (p.before.held a.document) bytes document has.held gives.told) case)

      reads_as : (x : Text) → a.after ≡ Some x → (kept : Kept) × IsCursorText names kept.row kept.length x
      reads_as x is = row_of_text names x after (let P : Option Text → Type 0 = λ o. IsAfter names o after in subst P is has.begins)

      cursor_of : FromCursor a q checks w end note p names → Served
      cursor_of (no_cursor x is none ends quiet) = let r = reads_as x is in absurd (none names r.0.row r.0.length r.1)
      cursor_of (other_variables x is others row length reads differ ends quiet) =
          let r = reads_as x is in
          absurd (differ (one_cursor others names row r.0.row length r.0.length x reads r.1).0)
      cursor_of (placed kept starts case) =
          let R : Option Kept → Type 0 = λ o. FromPlace a q checks w end note p names o in
          place_of (subst R (after_one names a.after after kept has.begins starts) case)

      plain_of : FromCompiled a q checks w end note p → Served
      plain_of (out_of_memory is quiet) = inr is.ends
      plain_of (page_asked is own are case) = let P : List VarName → Type 0 = λ ns. FromCursor a q checks w end note p ns in cursor_of (subst P (names_one q own names are clear.named) case)
      plain_of (trial_asked lines is own are same case) = let both : mode.Plain ≡ mode.Trial lines = sym plain ∙ is in absurd (cc)

    pub served : HasDocument a names after document s → FromWords s w end note k words → Served
    served has case = from_words k words a text t names s w notes clear end note Served (λ m. inr m)
        (λ p later. from_query (plain_wants a.mode plain) limits.small p Served (λ m. inr m) (plain_of p (has_later s p a names after document later has))) case

  -- a trial
  module _ (lines : ℕ) (trial : a.mode ≡ mode.Trial lines) (limits : IsWithinLimits a q (trial_text lines)) where
    abbrev Tried : Type 0
    Tried = ((rows : List SpanRow) × AreAllPassing checks q (trial_text lines) names rows ×
        AreWhole (trial_summary lines names (trial_text lines) rows) (line (codes "end")) w end note) ⊎ (end ≡ status.Memory)

    summary_of : FromAnswers a q checks w end note names None (trial_text lines) → Tried
    summary_of (paged is rows more page case) = let both : mode.Plain ≡ mode.Trial lines = sym is ∙ trial in absurd (cc)
    summary_of (summed own is rows answers case) =
        let same : own ≡ lines = same_lines own lines (sym is ∙ trial) in
        let P : ℕ → Type 0 = λ n. FromPage w end note (trial_summary n names (trial_text lines) rows) (line (codes "end")) (TrialKeeps checks a.filter q names (trial_text lines) rows) in
        elim (from_page _ _ _ w end note clear.written (subst P same case)) [
          | inl are ↦ inl (rows, answers, are)
          | inr memory ↦ inr memory
        ]

    trial_of : (p : Shelved) → FromCompiled a q checks w end note p → Tried
    trial_of p (out_of_memory is quiet) = inr is.ends
    trial_of p (page_asked is own are case) = let both : mode.Plain ≡ mode.Trial lines = sym is ∙ trial in absurd (cc)
    trial_of p (trial_asked own is others are same case) =
        let P : ℕ → Type 0 = λ n. FromDocument a q checks w end note others None (trial_text n) in
        let Q : List VarName → Type 0 = λ ns. FromDocument a q checks w end note ns None (trial_text lines) in
        from_document None (trial_text lines) limits tt Tried (λ m. inr m) summary_of
        (subst Q (names_one q others names are clear.named) (subst P (same_lines own lines (sym is ∙ trial)) case))

    pub tried : FromWords s w end note k words → Tried
    tried case = from_words k words a text t names s w notes clear end note Tried (λ m. inr m)
        (λ p later. from_query (trial_wants a.mode lines trial) limits.small p Tried (λ m. inr m) (trial_of p)) case

  -- what the query is
  module _ (explain : a.mode ≡ mode.Explain) where
    abbrev Explained : Type 0
    Explained = AreWhole (explain_tested t names) (line (codes "end")) w end note ⊎ (end ≡ status.Memory)

    told_of : IsExplained t w.out end note → Explained
    told_of (told_names own are page) =
        let P : List VarName → Type 0 = λ ns. FromPage (work w.out (clock 0 0)) end note (explain_tested t ns) (line (codes "end")) StandsStill in
        elim (from_page _ _ _ (work w.out (clock 0 0)) end note clear.written (subst P (names_one q own names are clear.named) page)) [
          | inl all ↦ inl (record { done = all.done; wrote = all.wrote; says = all.says })
          | inr memory ↦ inr memory
        ]
    told_of (by_memory is quiet) = inr is.ends

    lines_of : (p : Shelved) → IsLater s p → FromQuery p w end note a t checks → Explained
    lines_of p later (explained is case still same) = told_of case
    lines_of p later (too_large asks why quiet) = let P : Mode → Type 0 = λ m. WantsAnswers m in absurd (subst P explain asks)
    lines_of p later (out_of_memory is quiet) = inr is.ends
    lines_of p later (compiled asks few case) = let P : Mode → Type 0 = λ m. WantsAnswers m in absurd (subst P explain asks)

    pub explains : FromWords s w end note k words → Explained
    explains case = from_words k words a text t names s w notes clear end note Explained (λ m. inr m) lines_of case

-- with the note
reported : (text last : Text) (w : Work) (notes : Change) (end result : Status) (note : Text) → ¬ Failed notes → Reports end note notes result →
    AreWhole text last w end note → (result ≡ status.Done) × Adds w.out text × Adds notes last
reported text last w notes end result note fine (put_whole is adds) are =
    let P : Text → Type 0 = λ t. Adds notes t in (is ∙ are.done, are.wrote, subst P are.says adds)
reported text last w notes end result note fine (cut is failed part) are = absurd (fine failed)

memory_reported : (notes : Change) (end result : Status) (note : Text) → ¬ Failed notes → Reports end note notes result → end ≡ status.Memory → result ≡ status.Memory
memory_reported notes end result note fine (put_whole is adds) memory = is ∙ memory
memory_reported notes end result note fine (cut is failed part) memory = absurd (fine failed)

module _ (k : Known) (words : List Text) (s : Shelved) (out notes : Change) (steps : Clock) (result : Status) (run : RunTested k words s out notes steps result) where
  plain_completes : PlainCompletes k words s out notes result
  plain_completes a text t names after document plain clear has limits =
      elim (served k words a text t names s (work out steps) notes clear run.end run.note after document plain limits has run.done) [
        | inl p ↦ let r = reported _ _ (work out steps) notes run.end result run.note clear.noted run.report p.are in
            inl (record { done = r.0; rows = p.rows; more = p.more; page = p.page; text = r.1; note = r.2 })
        | inr m ↦ inr (memory_reported notes run.end result run.note clear.noted run.report m)
      ]

  trial_completes : TrialCompletes k words s out notes result
  trial_completes a text t names lines trial clear limits =
      elim (tried k words a text t names s (work out steps) notes clear run.end run.note lines trial limits run.done) [
        | inl p ↦ let r = reported _ _ (work out steps) notes run.end result run.note clear.noted run.report p.2 in
            inl (record { rows = p.0; answers = p.1; writes = record { done = r.0; wrote = r.1; note = r.2 } })
        | inr m ↦ inr (memory_reported notes run.end result run.note clear.noted run.report m)
      ]

  explain_completes : ExplainCompletes k words s out notes result
  explain_completes a text t names explain clear =
      elim (explains k words a text t names s (work out steps) notes clear run.end run.note explain run.done) [
        | inl p ↦ let r = reported _ _ (work out steps) notes run.end result run.note clear.noted run.report p in inl (record { done = r.0; wrote = r.1; note = r.2 })
        | inr m ↦ inr (memory_reported notes run.end result run.note clear.noted run.report m)
      ]

pub completes : (k : Known) (words : List Text) (s : Shelved) (out notes : Change) (steps : Clock) (result : Status) → RunTested k words s out notes steps result → Completes k words s out notes result
completes k words s out notes steps result run =
    (plain_completes k words s out notes steps result run, trial_completes k words s out notes steps result run, explain_completes k words s out notes steps result run)
