-- Which names a run fetches.
use Rattle.std.proofs.Common.{◌≡◌, ◌≢◌, ◌∙◌, refl, sym, ap, subst, List, [], ◌∷◌, ◌++◌, Bool, true, false, Option, Some, None, inl, inr, codes, append_assoc, append-nil}
use Rattle.std.specs.Prelude.{ℕ, if◌then◌else◌, not, length, option_and_then, ◌==◌}
use Rattle.std.proofs.lemmas.Option.{option_and_then_some, same_Some}
use Rattle.rm_outside.specs.Told.{GrewBy}
use Rattle.rm_outside.specs.declared.status.Status.{Status}
use Rattle.span_core.specs.Lists.{AreDistinct}
use Rattle.span_core.proofs.HasLaws.{Has-append_left}
use Rattle.command_line.specs.RequestView.{RequestView, Query, Itself, HeldBy, requested, requested_by, cursor_of, document_of, form_of, goes_with, limit_of, max_table_of, mode_of, names_input_twice, query_of}
use Rattle.command_line.specs.Command.{found as words_found, refusals}
use Rattle.command_line.specs.Given.{GivenTexts, given_by}
use Rattle.command_line.specs.declared.request.Form.{Form}
use Rattle.command_line.specs.declared.request.Mode.{Mode}
use Rattle.command_line.specs.declared.request.Mode.TheVariants as mode
use Rattle.span_core.specs.declared.kept.Kept.{Kept}
use Rattle.spanner_model.specs.Captures.{VarName}
use Rattle.spanner_model.specs.Expression.{QueryTree}
use Rattle.spanner_model.specs.Tested.{TestedTree}
use Rattle.spanner_model.specs.Passing.{Check, Known}
use Rattle.rematch_program.specs.Work.{Work}
use Rattle.rematch_program.specs.Run.{Text, Shelved, shelved, IsUntouched, FromPlace, FromCursor, FromCompiled, FromQuery, FromText, FromRequest, FromWords}
use Rattle.rematch_program.specs.Run.{out_of_memory, document_failed, document_too_long, found, no_cursor, other_variables, placed, page_asked, trial_asked}
use Rattle.rematch_program.specs.Run.{explained, too_large, compiled, query_refused, understood, given, query_failed, query_too_long, fetched, refused, accepted}
use Rattle.rematch_program.specs.Fetched.{FetchesFirst, FetchesInOrder, FetchesNothing, FetchesOnce, document_names, names_of, query_names}

-- nothing came, or one thing after the other
grew_by_none : (names : Option (List Text)) → GrewBy [] names names
grew_by_none None = tt
grew_by_none (Some names) = sym (append-nil names)

grew_by_both : (a b c : Option (List Text)) (xs ys : List Text) → GrewBy xs a b → GrewBy ys b c → GrewBy (xs ++ ys) a c
grew_by_both a b None xs ys first next = tt
grew_by_both a None (Some z) xs ys first next = absurd next
grew_by_both None (Some y) (Some z) xs ys first next = absurd first
grew_by_both (Some x) (Some y) (Some z) xs ys first next = next ∙ (ap (λ (l : List Text). l ++ ys) first ∙ append_assoc x xs ys)

untouched_first : (s : Shelved) (all : List Text) → IsUntouched s → FetchesFirst s all
untouched_first s all same =
    record { names = []; rest = all; grew = rw same (grew_by_none s.before.fetched); first = refl }

-- what is fetched once the query is at hand
module _ (a : RequestView) (w : Work) (end : Status) (note : Text) (s : Shelved) where
  module _ (q : QueryTree) (checks : List Check) where
    place_fetches : (names : List VarName) (after : Option Kept) → FromPlace a q checks w end note s names after → GrewBy (a.document ∷ []) s.before.fetched s.after.fetched
    place_fetches names after (document_failed failed is quiet) = failed.once.grew
    place_fetches names after (document_too_long long is quiet) = long.once.grew
    place_fetches names after (out_of_memory once is quiet) = once.grew
    place_fetches names after (found document gives case) = gives.once.grew

    cursor_fetches : (names : List VarName) → FromCursor a q checks w end note s names → FetchesFirst s (a.document ∷ [])
    cursor_fetches names (no_cursor text is none ends idle) = untouched_first s _ idle.0
    cursor_fetches names (other_variables text is others row kept reads differ ends idle) = untouched_first s _ idle.0
    cursor_fetches names (placed after begins case) = record { names = a.document ∷ []; rest = []; grew = place_fetches names after case; first = refl }

    compiled_fetches : FromCompiled a q checks w end note s → FetchesFirst s (document_names a.mode a.document)
    compiled_fetches (out_of_memory is idle) = untouched_first s _ idle.0
    compiled_fetches (page_asked is names are case) =
        let P : Mode → Type 0 = λ m. FetchesFirst s (document_names m a.document) in subst P (sym is) (cursor_fetches names case)
    compiled_fetches (trial_asked lines is names are same case) = untouched_first s _ same

    compiled_untouched : a.mode ≢ mode.Plain → FromCompiled a q checks w end note s → IsUntouched s
    compiled_untouched other (out_of_memory is idle) = idle.0
    compiled_untouched other (page_asked is names are case) = absurd (other is)
    compiled_untouched other (trial_asked lines is names are same case) = same

  query_fetches : (t : TestedTree) (checks : List Check) → FromQuery s w end note a t checks → FetchesFirst s (document_names a.mode a.document)
  query_fetches t checks (explained is case still same) = untouched_first s _ same
  query_fetches t checks (too_large asks why idle) = untouched_first s _ idle.0
  query_fetches t checks (out_of_memory is idle) = untouched_first s _ idle.0
  query_fetches t checks (compiled asks few case) = compiled_fetches t.query checks case

  query_untouched : a.mode ≢ mode.Plain → (t : TestedTree) (checks : List Check) → FromQuery s w end note a t checks → IsUntouched s
  query_untouched other t checks (explained is case still same) = same
  query_untouched other t checks (too_large asks why idle) = idle.0
  query_untouched other t checks (out_of_memory is idle) = idle.0
  query_untouched other t checks (compiled asks few case) = compiled_untouched t.query checks other case

  text_fetches : (k : Known) (text : Text) → FromText s w end note k a text → FetchesFirst s (document_names a.mode a.document)
  text_fetches k text (query_refused fault only is idle) = untouched_first s _ idle.0
  text_fetches k text (out_of_memory is idle) = untouched_first s _ idle.0
  text_fetches k text (understood t only case) = query_fetches t _ case

  text_untouched : a.mode ≢ mode.Plain → (k : Known) (text : Text) → FromText s w end note k a text → IsUntouched s
  text_untouched other k text (query_refused fault only is idle) = idle.0
  text_untouched other k text (out_of_memory is idle) = idle.0
  text_untouched other k text (understood t only case) = query_untouched other t _ case

-- what a run fetches
module _ (a : RequestView) (s : Shelved) (w : Work) (end : Status) (note : Text) (k : Known) where
  abbrev later : List Text
  later = document_names a.mode a.document

  -- of a query that has this form
  request_as : (query : Query) → a.query ≡ query → FetchesFirst s (query_names query ++ later) → FetchesFirst s (names_of a)
  request_as query is first = let P : Query → Type 0 = λ o. FetchesFirst s (query_names o ++ later) in subst P (sym is) first

  name_alone : (name : Text) → GrewBy (name ∷ []) s.before.fetched s.after.fetched → FetchesFirst s (name ∷ later)
  name_alone name grew = record { names = name ∷ []; rest = later; grew = grew; first = refl }

  request_fetches : FromRequest s w end note k a → FetchesFirst s (names_of a)
  request_fetches (given text is case) = request_as (Itself text) is (text_fetches a w end note s k text case)
  request_fetches (query_failed name is failed ends quiet) = request_as (HeldBy name) is (name_alone name failed.once.grew)
  request_fetches (query_too_long name is long ends quiet) = request_as (HeldBy name) is (name_alone name long.once.grew)
  request_fetches (out_of_memory name is once ends quiet) = request_as (HeldBy name) is (name_alone name once.grew)
  request_fetches (fetched name is text between gives case) =
      let next = text_fetches a w end note (shelved between s.after) k text case in
      request_as (HeldBy name) is (record {
        names = name ∷ next.names;
        rest = next.rest;
        grew = grew_by_both s.before.fetched between.fetched s.after.fetched (name ∷ []) next.names gives.once.grew next.grew;
        first = ap (λ (l : List Text). name ∷ l) next.first;
      })

in_words : (k : Known) (words : List Text) (s : Shelved) (w : Work) (end : Status) (note : Text) (a : RequestView) → requested words ≡ Some a →
    FromWords s w end note k words → FetchesFirst s (names_of a)
in_words k words s w end note a is (refused none ends idle) = untouched_first s _ idle.0
in_words k words s w end note a is (out_of_memory ends idle) = untouched_first s _ idle.0
in_words k words s w end note a is (accepted other also case) =
    let same : other ≡ a = same_Some other a (sym also ∙ is) in
    let P : RequestView → Type 0 = λ b. FetchesFirst s (names_of b) in subst P same (request_fetches other s w end note k case)

pub fetched_in_order : FetchesInOrder
fetched_in_order k words s out notes steps result run a is = in_words k words s _ run.end run.note a is run.done

-- no name is needed
no_page : (m : Mode) (document : Text) → document_names m document ≡ [] → m ≢ mode.Plain
no_page m document none plain =
    let P : Mode → Type 0 = λ o. document_names o document ≡ [] in let some : document ∷ [] ≡ [] = subst P plain none in absurd (cc)

module _ (a : RequestView) (s : Shelved) (w : Work) (end : Status) (note : Text) (k : Known) (none : names_of a ≡ []) where
  none_as : (query : Query) → a.query ≡ query → query_names query ++ document_names a.mode a.document ≡ []
  none_as query is = let P : Query → Type 0 = λ o. query_names o ++ document_names a.mode a.document ≡ [] in subst P is none

  not_held : (name : Text) → a.query ≡ HeldBy name → ⊥
  not_held name is = let some : name ∷ document_names a.mode a.document ≡ [] = none_as (HeldBy name) is in absurd (cc)

  request_untouched : FromRequest s w end note k a → IsUntouched s
  request_untouched (given text is case) = text_untouched a w end note s (no_page a.mode a.document (none_as (Itself text) is)) k text case
  request_untouched (query_failed name is failed ends quiet) = absurd (not_held name is)
  request_untouched (query_too_long name is long ends quiet) = absurd (not_held name is)
  request_untouched (out_of_memory name is once ends quiet) = absurd (not_held name is)
  request_untouched (fetched name is text between gives case) = absurd (not_held name is)

words_untouched : (k : Known) (words : List Text) (s : Shelved) (w : Work) (end : Status) (note : Text) → ((a : RequestView) → requested words ≡ Some a → names_of a ≡ []) →
    FromWords s w end note k words → IsUntouched s
words_untouched k words s w end note none (refused is ends idle) = idle.0
words_untouched k words s w end note none (out_of_memory ends idle) = idle.0
words_untouched k words s w end note none (accepted a is case) = request_untouched a s w end note k (none a is) case

pub nothing_fetched : FetchesNothing
nothing_fetched k words s out notes steps result run none = words_untouched k words s _ run.end run.note none run.done

-- words that are accepted do not take the query and the document of a page from standard input
abbrev IsFine : RequestView → Type 0
IsFine a = a.mode ≡ mode.Plain → a.query ≡ HeldBy (codes "-") → a.document ≡ codes "-" → ⊥

goes_fine : (m : Mode) (q : Query) (g : GivenTexts) → goes_with m q g ≡ true → m ≡ mode.Plain → q ≡ HeldBy (codes "-") → document_of g.document ≡ codes "-" → ⊥
goes_fine m q g goes plain held same =
    let M : Mode → Type 0 = λ o. goes_with o q g ≡ true in
    let Q : Query → Type 0 = λ o. not (names_input_twice o (document_of g.document)) ≡ true in
    let D : Text → Type 0 = λ d. not (names_input_twice (HeldBy (codes "-")) d) ≡ true in
    let fails : false ≡ true = subst D same (subst Q held (subst M plain goes)) in
    absurd (cc)

when_true : (b : Bool) (x : Option RequestView) (a : RequestView) → (if b then x else None) ≡ Some a → x ≡ Some a
when_true true x a is = is
when_true false x a is = absurd (cc)

when_false : (b : Bool) (r a : RequestView) → (if not b then None else Some r) ≡ Some a → (b ≡ true) × (r ≡ a)
when_false true r a is = (refl, same_Some r a is)
when_false false r a is = absurd (cc)

-- what is made of what was given, from the mode up
module _ (g : GivenTexts) where
  abbrev made : Query → Option ℕ → Form → ℕ → Mode → RequestView
  made query limit form weight m = record {
    query = query;
    document = document_of g.document;
    limit = limit;
    after = cursor_of g.after;
    form = form;
    texts = g.texts;
    filter = g.filter;
    max_table = weight;
    mode = m;
  }

  abbrev with_mode : Query → Option ℕ → Form → ℕ → Mode → Option RequestView
  with_mode query limit form weight m = if not (goes_with m query g) then None else Some (made query limit form weight m)

  abbrev with_weight : Query → Option ℕ → Form → ℕ → Option RequestView
  with_weight query limit form weight = option_and_then (with_mode query limit form weight) (mode_of g.explain g.trial)

  abbrev with_form : Query → Option ℕ → Form → Option RequestView
  with_form query limit form = option_and_then (with_weight query limit form) (max_table_of g.max_table)

  abbrev with_limit : Query → Option ℕ → Option RequestView
  with_limit query limit = option_and_then (with_form query limit) (form_of g.form)

  abbrev with_query : Query → Option RequestView
  with_query query = option_and_then (with_limit query) (limit_of g.limit)

  request_fine : (a : RequestView) → requested_by g ≡ Some a → IsFine a
  unfolding requested_by
  request_fine a is =
      option_and_then_some with_query (query_of g.query g.query_name) a is (λ query given in_query.
      option_and_then_some (with_limit query) (limit_of g.limit) a in_query (λ limit limited in_limit.
      option_and_then_some (with_form query limit) (form_of g.form) a in_limit (λ form formed in_form.
      option_and_then_some (with_weight query limit form) (max_table_of g.max_table) a in_form (λ weight weighed in_weight.
      option_and_then_some (with_mode query limit form weight) (mode_of g.explain g.trial) a in_weight (λ m moded in_mode.
      (λ plain held same.
      let (goes, whole) = when_false (goes_with m query g) (made query limit form weight m) a in_mode in
      goes_fine m query g goes (ap (λ (r : RequestView). r.mode) whole ∙ plain) (ap (λ (r : RequestView). r.query) whole ∙ held) (ap (λ (r : RequestView). r.document) whole ∙ same)))))))

accepted_fine : (words : List Text) (a : RequestView) → requested words ≡ Some a → IsFine a
unfolding requested
accepted_fine words a is = request_fine (given_by (words_found words)) a (when_true (length (refusals words) == 0) (requested_by (given_by (words_found words))) a is)

-- the front of a list whose elements are distinct
front_distinct : (xs ys : List Text) → AreDistinct (xs ++ ys) → AreDistinct xs
front_distinct [] ys all = tt
front_distinct (x ∷ xs) ys all = ((λ h. all.0 (Has-append_left xs ys x h)), front_distinct xs ys all.1)

-- the query's name and the document's, which differ where both are needed
names_distinct : (q : Query) (m : Mode) (document : Text) → ((name : Text) → m ≡ mode.Plain → q ≡ HeldBy name → name ≢ document) → AreDistinct (query_names q ++ document_names m document)
names_distinct (Itself text) mode.Plain document differ = ((λ h. h), tt)
names_distinct (Itself text) mode.Explain document differ = tt
names_distinct (Itself text) (mode.Trial lines) document differ = tt
names_distinct (HeldBy name) mode.Plain document differ = ((λ h. elim h [ inl same ↦ differ name refl refl (sym same) | inr none ↦ none ]), ((λ h. h), tt))
names_distinct (HeldBy name) mode.Explain document differ = ((λ h. h), tt)
names_distinct (HeldBy name) (mode.Trial lines) document differ = ((λ h. h), tt)

pub fetched_once : FetchesOnce
fetched_once words a is input names rest first =
    front_distinct names rest (rw first (names_distinct a.query a.mode a.document differ))
  where
    differ : (name : Text) → a.mode ≡ mode.Plain → a.query ≡ HeldBy name → name ≢ a.document
    differ name plain held same =
        let both : a.query ≡ HeldBy a.document = held ∙ ap HeldBy same in
        let at : a.document ≡ codes "-" = input both in
        accepted_fine words a is plain (both ∙ ap HeldBy at) at
