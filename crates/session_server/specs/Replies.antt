-- What sessions answer: the relation between lines and replies, over a finite map from numbers to sessions.
--   No automaton, table or graph is in it but in the causes of refusals by size.
use Rattle.std.specs.Prelude.{◌≡◌, ℕ, ◌+◌, ◌<◌, ◌≤◌, Bool, true, false, not, ◌==◌, nat_lt, if◌then◌else◌, List, [], ◌∷◌, ◌++◌, length, map, filter, take, drop, Option, Some, None, codes}
use Rattle.std.specs.List.{flat_map}
use Rattle.serde_json.specs.Data.{Data, boolean, number, string, array, object, unsigned, Items, no_members, member}
use Rattle.serde_json.specs.View.{items_of}
use Rattle.serde_json.specs.Written.{compact_text}
use Rattle.span_core.specs.Lists.{Has}
use Rattle.spanner_model.specs.Captures.{VarName}
use Rattle.spanner_model.specs.Expression.{QueryTree}
use Rattle.spanner_model.specs.Answers.{SpanRow, AreResultNames, AreAnswers}
use Rattle.query_parser.specs.declared.fault.QueryFault.{QueryFault}
use Rattle.spanner_model.specs.Tested.{TestedTree}
use Rattle.marked_automaton.specs.declared.fault.SizeFault.TheVariants.{States, Ways}
use Rattle.query_automaton.specs.Parts.{AtomsAreSmall, HasLargePart}
use Rattle.row_writer.specs.JsonLines.{json_members}
use Rattle.spanner_engine.specs.Begun.{counted}
use Rattle.growing_document.specs.Lengths.{weight_at}
use Rattle.spanner_model.specs.Passing.{Known, checks_of, passing}
use Rattle.query_parser.specs.Binding.{HasFaultUnder, IsOnlyTested}
use Rattle.session_server.specs.declared.TheConstants.{MOST_GROWN, MOST_SESSIONS, SESSION_TABLE}
use Rattle.note_texts.specs.Notes.{line, fault_note, states_note, ways_note, table_note}
use Rattle.session_server.specs.Requests.{SessionRequest, open_request, next_request, grow_request, close_request, session_id, IsRequest, IsNoRequest}

-- ---- sessions

-- a session: its query with its tests, its document, and how many rows it has given; the lengths that its document had when its rows were
-- asked for, the last one first, and whether it has grown since
pub record Session : Type 0 where
  pub query : TestedTree
  pub document : List ℕ
  pub given : ℕ
  pub asked : List ℕ
  pub grown : Bool

abbrev pub begun : TestedTree → List ℕ → Session
begun query document = record { query = query; document = document; given = 0; asked = length document ∷ []; grown = false }

abbrev pub giving : ℕ → Session → Session
giving rows s = record s { given = s.given + rows }

-- with a text behind its document, its rows begin anew
abbrev pub growing : List ℕ → Session → Session
growing text s = record s { document = s.document ++ text; given = 0; grown = true }

-- its rows are asked for again, where it has grown
abbrev pub asking : Session → Session
asking s = record s { asked = if s.grown then length s.document ∷ s.asked else s.asked; grown = false }

-- the sessions that are open, each with its number
abbrev pub Sessions : Type 0
Sessions = List (ℕ × Session)

-- the session of this number, where it is open
abbrev pub session_of : Sessions → ℕ → Option Session
session_of [] n = None
session_of (s ∷ all) n = if s.0 == n then Some s.1 else session_of all n

-- the others
abbrev pub sessions_without : ℕ → Sessions → Sessions
sessions_without n all = filter (λ s. not (s.0 == n)) all

-- with this one besides
abbrev pub with_session : ℕ → Session → Sessions → Sessions
with_session n s all = all ++ (n, s) ∷ []

-- with another in the place of the one of this number
abbrev pub changed : ℕ → Session → Sessions → Sessions
changed n s [] = []
changed n s (t ∷ all) = if t.0 == n then (n, s) ∷ all else t ∷ changed n s all

-- ---- replies

-- a session was opened, whose rows have these variables; its next rows, and whether more remain; its document has so many bytes now; it was
-- closed; an error of a session; an error of a line that is no request
pub data Reply : Type 0 where
  opened : ℕ → List VarName → Reply
  given_rows : ℕ → Bool → List VarName → List SpanRow → Reply
  grown_to : ℕ → ℕ → Reply
  closed : ℕ → Reply
  error_of : ℕ → List ℕ → Reply
  no_request : Reply

-- the JSON strings of names
abbrev pub json_names : List VarName → Items
json_names names = items_of (map string names)

-- the JSON object of a row
abbrev pub row_data : List VarName → SpanRow → Data
row_data names row = object (json_members [] false names row)

-- the JSON rows
abbrev pub json_rows : List VarName → List SpanRow → Items
json_rows names rows = items_of (map (row_data names) rows)

-- the JSON object of a session that was opened
abbrev pub names_object : ℕ → Items → Data
names_object id names = object (member (codes "id") (number (unsigned id)) (member (codes "variables") (array names) no_members))

-- the JSON object of rows that are given
abbrev pub rows_object : ℕ → Bool → Items → Data
rows_object id more rows =
    object
    (member (codes "id") (number (unsigned id))
    (member (codes "more") (boolean more)
    (member (codes "rows") (array rows) no_members)))

-- the JSON object of a document that has grown
abbrev pub length_object : ℕ → ℕ → Data
length_object id bytes = object (member (codes "bytes") (number (unsigned bytes)) (member (codes "id") (number (unsigned id)) no_members))

-- the JSON object of a reply, its members by their names in order
abbrev pub reply_object : Reply → Data
reply_object (opened id names) = names_object id (json_names names)
reply_object (given_rows id more names rows) = rows_object id more (json_rows names rows)
reply_object (grown_to id bytes) = length_object id bytes
reply_object (closed id) = object (member (codes "closed") (boolean true) (member (codes "id") (number (unsigned id)) no_members))
reply_object (error_of id text) = object (member (codes "error") (string text) (member (codes "id") (number (unsigned id)) no_members))
reply_object no_request = object (member (codes "error") (string (codes "request")) no_members)

-- the line of a reply
abbrev pub reply_text : Reply → List ℕ
reply_text r = line (compact_text (reply_object r))

abbrev pub replies_text : List Reply → List ℕ
replies_text replies = flat_map reply_text replies

-- ---- why a query is not opened on a document, or not read on

-- reading the document weighs too much, by the query's automaton with nothing left out: its sets, the look-ups of its bytes, and one end look-up for
-- each set that was reached at a length at which the rows were asked for
abbrev pub IsHeavy : QueryTree → List ℕ → List ℕ → Type 0
IsHeavy q document asked = SESSION_TABLE < weight_at (counted q) document asked

-- the note of a size that refuses a query: of an automaton, which must refuse it where it is an atom's, or of the table
pub data HeavyNote (q : QueryTree) (document note : List ℕ) : Type 0 where
  by_states : (count : ℕ) → HasLargePart q (States count) → note ≡ states_note → HeavyNote q document note
  by_ways : (count : ℕ) → HasLargePart q (Ways count) → note ≡ ways_note → HeavyNote q document note
  by_table : AtomsAreSmall q → IsHeavy q document (length document ∷ []) → note ≡ table_note SESSION_TABLE → HeavyNote q document note

-- the note of the first thing that refuses it: the query's text, or one of its tests; or a size
pub data IsRefused (k : Known) (text document note : List ℕ) : Type 0 where
  by_text : (fault : QueryFault) → HasFaultUnder k text fault → note ≡ fault_note fault → IsRefused k text document note
  by_size : (t : TestedTree) → IsOnlyTested k text t → HeavyNote t.query document note → IsRefused k text document note

-- ---- one reply, and the sessions behind it

-- the rows that a session has still to give: of the answers that pass its tests those behind the ones that it gave
abbrev pub to_come : Known → Session → List VarName → List SpanRow → List SpanRow
to_come k s names all = drop s.given (passing (checks_of k s.query.asked) names s.document all)

-- Want of memory may stand in place of any other reply to a request; the session of that number is closed then.
pub data Answers (k : Known) (all : Sessions) : SessionRequest → Reply → Sessions → Type 0 where
  taken : {n : ℕ} {query document : List ℕ} (s : Session) → session_of all n ≡ Some s →
      Answers k all (open_request n query document) (error_of n (codes "taken")) all
  full : {n : ℕ} {query document : List ℕ} → session_of all n ≡ None → MOST_SESSIONS ≤ length all →
      Answers k all (open_request n query document) (error_of n (codes "full")) all
  refused : {n : ℕ} {query document : List ℕ} (note : List ℕ) → session_of all n ≡ None → length all < MOST_SESSIONS →
      IsRefused k query document note → Answers k all (open_request n query document) (error_of n note) all
  opens : {n : ℕ} {query document : List ℕ} (t : TestedTree) (names : List VarName) → session_of all n ≡ None → length all < MOST_SESSIONS →
      IsOnlyTested k query t → AtomsAreSmall t.query → AreResultNames t.query names →
      Answers k all (open_request n query document) (opened n names) (with_session n (begun t document) all)
  gives : {n most : ℕ} (s : Session) (names : List VarName) (rows : List SpanRow) → session_of all n ≡ Some s →
      AreResultNames s.query.query names → AreAnswers s.query.query s.document names rows →
      Answers k all (next_request n most)
      (given_rows n (nat_lt most (length (to_come k s names rows))) names (take most (to_come k s names rows)))
      (changed n (giving (length (take most (to_come k s names rows))) (asking s)) all)
  heavy_next : {n most : ℕ} (s : Session) → session_of all n ≡ Some s → s.grown ≡ true → IsHeavy s.query.query s.document (length s.document ∷ s.asked) →
      Answers k all (next_request n most) (error_of n (table_note SESSION_TABLE)) (sessions_without n all)
  grows : {n : ℕ} {text : List ℕ} (s : Session) → session_of all n ≡ Some s → length s.document + length text ≤ MOST_GROWN →
      Answers k all (grow_request n text) (grown_to n (length s.document + length text)) (changed n (growing text s) all)
  long : {n : ℕ} {text : List ℕ} (s : Session) → session_of all n ≡ Some s → MOST_GROWN < length s.document + length text →
      Answers k all (grow_request n text) (error_of n (codes "long")) all
  heavy_grown : {n : ℕ} {text : List ℕ} (s : Session) → session_of all n ≡ Some s → length s.document + length text ≤ MOST_GROWN →
      IsHeavy s.query.query (s.document ++ text) s.asked → Answers k all (grow_request n text) (error_of n (table_note SESSION_TABLE)) (sessions_without n all)
  closes : {n : ℕ} (s : Session) → session_of all n ≡ Some s → Answers k all (close_request n) (closed n) (sessions_without n all)
  next_of_none : {n most : ℕ} → session_of all n ≡ None → Answers k all (next_request n most) (error_of n (codes "not open")) all
  grow_of_none : {n : ℕ} {text : List ℕ} → session_of all n ≡ None → Answers k all (grow_request n text) (error_of n (codes "not open")) all
  close_of_none : {n : ℕ} → session_of all n ≡ None → Answers k all (close_request n) (error_of n (codes "not open")) all
  wants_memory : {r : SessionRequest} → Answers k all r (error_of (session_id r) (codes "memory")) (sessions_without (session_id r) all)

-- the reply to a line
pub data IsReply (k : Known) (all : Sessions) (text : List ℕ) : Reply → Sessions → Type 0 where
  to_request : {r : SessionRequest} {reply : Reply} {after : Sessions} → IsRequest text r → Answers k all r reply after → IsReply k all text reply after
  to_no_request : IsNoRequest text → IsReply k all text no_request all

-- ---- the replies to lines

-- these replies to these lines, one after another, with these sessions before and behind
pub data AreReplies (k : Known) : Sessions → List (List ℕ) → List Reply → Sessions → Type 0 where
  no_line : {all : Sessions} → AreReplies k all [] [] all
  first_line : {all mid after : Sessions} {text : List ℕ} {texts : List (List ℕ)} {reply : Reply} {replies : List Reply} →
      IsReply k all text reply mid → AreReplies k mid texts replies after → AreReplies k all (text ∷ texts) (reply ∷ replies) after

-- No more than so many are ever open; so one is refused as `full` exactly where so many are.
abbrev pub FewAreOpen : Type 0
FewAreOpen = (k : Known) (texts : List (List ℕ)) (replies : List Reply) (after : Sessions) → AreReplies k [] texts replies after → length after ≤ MOST_SESSIONS

-- ---- the replies of one session

abbrev pub is_about : ℕ → Reply → Bool
is_about n (opened id names) = id == n
is_about n (given_rows id more names rows) = id == n
is_about n (grown_to id bytes) = id == n
is_about n (closed id) = id == n
is_about n (error_of id text) = id == n
is_about n no_request = false

-- the replies with this number
abbrev pub replies_of : ℕ → List Reply → List Reply
replies_of n replies = filter (is_about n) replies

-- the line is a request with this number
abbrev pub IsLineOf : ℕ → List ℕ → Type 0
IsLineOf n text = (r : SessionRequest) × IsRequest text r × (session_id r ≡ n)

-- of these lines those with this number, in order
pub data AreLinesOf (n : ℕ) : List (List ℕ) → List (List ℕ) → Type 0 where
  none_of : AreLinesOf n [] []
  one_of : {text : List ℕ} {texts own : List (List ℕ)} → IsLineOf n text → AreLinesOf n texts own → AreLinesOf n (text ∷ texts) (text ∷ own)
  other_of : {text : List ℕ} {texts own : List (List ℕ)} → ¬ IsLineOf n text → AreLinesOf n texts own → AreLinesOf n (text ∷ texts) own

-- Each session's replies are those that it would get alone, whatever others do between, as long as it was not refused because the table of
-- sessions is full.
abbrev pub SessionsAreApart : Type 0
SessionsAreApart =
    (k : Known) (texts : List (List ℕ)) (replies : List Reply) (after : Sessions) (n : ℕ) → AreReplies k [] texts replies after →
    ¬ Has replies (error_of n (codes "full")) →
    (own : List (List ℕ)) × (alone : Sessions) × AreLinesOf n texts own × AreReplies k [] own (replies_of n replies) alone
