-- The replies of a session are those that it would get alone.
use Rattle.std.proofs.Common.{arith, ◌≡◌, ◌≢◌, ◌⊎◌, ◌+◌, ℕ, ◌≤◌, Bool, true, false, List, [], ◌∷◌, length, take, Option, Some, None, inl, inr, refl, sym, ap, ◌∙◌, subst}
use Rattle.std.specs.Prelude.{codes, nat_lt, if◌then◌else◌, option_and_then}
use Rattle.std.proofs.lemmas.Bool.{cases_eq}
use Rattle.std.proofs.lemmas.Bool.Decides.{nat_tests}
use Rattle.serde_json.specs.Data.{Data}
use Rattle.serde_json.specs.Find.{get, as_number, as_u64}
use Rattle.span_core.specs.Lists.{Has}
use Rattle.spanner_model.specs.Captures.{VarName}
use Rattle.spanner_model.specs.Answers.{SpanRow, AreResultNames, AreAnswers}
use Rattle.spanner_model.specs.Tested.{TestedTree}
use Rattle.query_automaton.specs.Parts.{AtomsAreSmall}
use Rattle.spanner_model.specs.Passing.{Known}
use Rattle.query_parser.specs.Binding.{IsOnlyTested}
use Rattle.note_texts.specs.Notes.{table_note}
use Rattle.session_server.specs.declared.TheConstants.{MOST_GROWN, SESSION_TABLE}
use Rattle.session_server.specs.Requests.{SessionRequest, open_request, next_request, grow_request, close_request, session_id, request_object, IsRequest}
use Rattle.session_server.specs.Replies.{Session, Sessions, begun, giving, growing, asking, session_of, sessions_without, to_come, Reply, opened, given_rows, grown_to}
use Rattle.session_server.specs.Replies.{closed, error_of, no_request, Answers, taken, full, refused, opens, gives, heavy_next, grows, long, heavy_grown, closes}
use Rattle.session_server.specs.Replies.{next_of_none, grow_of_none, close_of_none, wants_memory, IsReply, to_request, to_no_request, AreReplies, no_line, first_line}
use Rattle.session_server.specs.Replies.{is_about, replies_of, IsLineOf, AreLinesOf, none_of, one_of, other_of, SessionsAreApart}
use Rattle.session_server.proofs.SessionLaws.{of_with, of_with_other, of_changed, of_changed_other, of_without, of_without_other, only, of_only, few_only, changed_only, without_only}

-- ---- the number of a request

-- the number that its object has
abbrev id_in : Data → Option ℕ
id_in d = option_and_then as_u64 (option_and_then as_number (get (codes "id") d))

has_id : (r : SessionRequest) → id_in (request_object r) ≡ Some (session_id r)
has_id (open_request n query document) = refl
has_id (next_request n most) = refl
has_id (grow_request n more) = refl
has_id (close_request n) = refl

-- a line has one number
one_id : (text : List ℕ) (r q : SessionRequest) → IsRequest text r → IsRequest text q → session_id r ≡ session_id q
one_id text r q is also =
    let objects : Some (request_object r) ≡ Some (request_object q) = sym is.reads ∙ also.reads in
    let same : Some (session_id r) ≡ Some (session_id q) = sym (has_id r) ∙ ap (option_and_then id_in) objects ∙ has_id q in
    cc

-- ---- a request of the session

is_own : (k : Known) (all : Sessions) (r : SessionRequest) (reply : Reply) (after : Sessions) → Answers k all r reply after → is_about (session_id r) reply ≡ true
is_own k all _ _ after (taken s e) = grind (arith, nat_tests)
is_own k all _ _ after (full e l) = grind (arith, nat_tests)
is_own k all _ _ after (refused note e l why) = grind (arith, nat_tests)
is_own k all _ _ _ (opens t names e l is small are) = grind (arith, nat_tests)
is_own k all _ _ _ (gives s names rows e are answers) = grind (arith, nat_tests)
is_own k all _ _ _ (heavy_next s e grew heavy) = grind (arith, nat_tests)
is_own k all _ _ _ (grows s e few) = grind (arith, nat_tests)
is_own k all _ _ after (long s e past) = grind (arith, nat_tests)
is_own k all _ _ _ (heavy_grown s e few heavy) = grind (arith, nat_tests)
is_own k all _ _ _ (closes s e) = grind (arith, nat_tests)
is_own k all _ _ after (next_of_none e) = grind (arith, nat_tests)
is_own k all _ _ after (grow_of_none e) = grind (arith, nat_tests)
is_own k all _ _ after (close_of_none e) = grind (arith, nat_tests)
is_own k all r _ _ wants_memory = grind (arith, nat_tests)

-- what is a step of all sessions is one of the session alone, which is o before and p behind it
module _ (k : Known) (n : ℕ) where
  alone_opens : (t : TestedTree) (names : List VarName) (query document : List ℕ) (o p : Option Session) → o ≡ None → p ≡ Some (begun t document) →
      IsOnlyTested k query t → AtomsAreSmall t.query → AreResultNames t.query names →
      Answers k (only n o) (open_request n query document) (opened n names) (only n p)
  alone_opens t names query document o p e f is small are =
      rw e
      (rw f
      (opens t names refl (few_only n None) is small are))

  alone_gives : (s : Session) (most : ℕ) (names : List VarName) (rows : List SpanRow) (o p : Option Session) → o ≡ Some s →
      p ≡ Some (giving (length (take most (to_come k s names rows))) (asking s)) → AreResultNames s.query.query names → AreAnswers s.query.query s.document names rows →
      Answers k (only n o) (next_request n most) (given_rows n (nat_lt most (length (to_come k s names rows))) names (take most (to_come k s names rows))) (only n p)
  alone_gives s most names rows o p e f are answers =
      let reply : Reply = given_rows n (nat_lt most (length (to_come k s names rows))) names (take most (to_come k s names rows)) in
      let new : Session = giving (length (take most (to_come k s names rows))) (asking s) in
      rw e
      (rw f
      (rw (← changed_only n new s)
      (gives s names rows (of_only n (Some s)) are answers)))

  alone_grows : (s : Session) (text : List ℕ) (o p : Option Session) → o ≡ Some s → p ≡ Some (growing text s) → length s.document + length text ≤ MOST_GROWN →
      Answers k (only n o) (grow_request n text) (grown_to n (length s.document + length text)) (only n p)
  alone_grows s text o p e f few =
      let reply : Reply = grown_to n (length s.document + length text) in
      rw e
      (rw f
      (rw (← changed_only n (growing text s) s)
      (grows s (of_only n (Some s)) few)))

  -- the session is open no more
  alone_ends : (s : Session) (r : SessionRequest) (reply : Reply) (o p : Option Session) → o ≡ Some s → p ≡ None →
      (session_of (only n (Some s)) n ≡ Some s → Answers k (only n (Some s)) r reply (sessions_without n (only n (Some s)))) → Answers k (only n o) r reply (only n p)
  alone_ends s r reply o p e f step =
      subst (λ (a : Option Session). Answers k (only n a) r reply (only n p)) (sym e)
      (subst (λ (b : Option Session). Answers k (only n (Some s)) r reply (only n b)) (sym f)
      (subst (λ (after : Sessions). Answers k (only n (Some s)) r reply after) (without_only n (Some s))
      (step (of_only n (Some s)))))

alone_memory : (k : Known) (r : SessionRequest) (o p : Option Session) → p ≡ None → Answers k (only (session_id r) o) r (error_of (session_id r) (codes "memory")) (only (session_id r) p)
alone_memory k r o p f =
    rw f
    (rw (← without_only (session_id r) o) wants_memory)

alone : (k : Known) (all : Sessions) (r : SessionRequest) (reply : Reply) (after : Sessions) → Answers k all r reply after → reply ≢ error_of (session_id r) (codes "full") →
    Answers k (only (session_id r) (session_of all (session_id r))) r reply (only (session_id r) (session_of after (session_id r)))
alone k all _ _ _ (taken {n} s e) room = taken s (of_only n (session_of all n) ∙ e)
alone k all _ _ _ (full e l) room = absurd (room refl)
alone k all _ _ _ (refused {n} note e l why) room = refused note (of_only n (session_of all n) ∙ e) (few_only n (session_of all n)) why
alone k all _ _ _ (opens {n} {query} {document} t names e l is small are) room =
    alone_opens k n t names query document (session_of all n) _ e (of_with all n (begun t document) e) is small are
alone k all _ _ _ (gives {n} {most} s names rows e are answers) room =
    alone_gives k n s most names rows (session_of all n) _ e (of_changed all n (giving (length (take most (to_come k s names rows))) (asking s)) s e) are answers
alone k all _ _ _ (heavy_next {n} {most} s e grew heavy) room =
    alone_ends k n s (next_request n most) (error_of n (table_note SESSION_TABLE)) (session_of all n) _ e (of_without all n) (λ there. heavy_next s there grew heavy)
alone k all _ _ _ (grows {n} {text} s e few) room = alone_grows k n s text (session_of all n) _ e (of_changed all n (growing text s) s e) few
alone k all _ _ _ (long {n} s e past) room = long s (of_only n (session_of all n) ∙ e) past
alone k all _ _ _ (heavy_grown {n} {text} s e few heavy) room =
    alone_ends k n s (grow_request n text) (error_of n (table_note SESSION_TABLE)) (session_of all n) _ e (of_without all n) (λ there. heavy_grown s there few heavy)
alone k all _ _ _ (closes {n} s e) room = alone_ends k n s (close_request n) (closed n) (session_of all n) _ e (of_without all n) (λ there. closes s there)
alone k all _ _ _ (next_of_none {n} e) room = next_of_none (of_only n (session_of all n) ∙ e)
alone k all _ _ _ (grow_of_none {n} e) room = grow_of_none (of_only n (session_of all n) ∙ e)
alone k all _ _ _ (close_of_none {n} e) room = close_of_none (of_only n (session_of all n) ∙ e)
alone k all r _ _ wants_memory room = alone_memory k r (session_of all (session_id r)) _ (of_without all (session_id r))

-- ---- a request of another session

not_own : (k : Known) (all : Sessions) (r : SessionRequest) (reply : Reply) (after : Sessions) (n : ℕ) → Answers k all r reply after → session_id r ≢ n →
    (is_about n reply ≡ false) × (session_of after n ≡ session_of all n)
not_own k all _ _ _ n (taken s e) differ = (grind (arith, nat_tests, differ), refl)
not_own k all _ _ _ n (full e l) differ = (grind (arith, nat_tests, differ), refl)
not_own k all _ _ _ n (refused note e l why) differ = (grind (arith, nat_tests, differ), refl)
not_own k all _ _ _ n (opens {n = m} {query} {document} t names e l is small are) differ = (grind (arith, nat_tests, differ), of_with_other all m n (begun t document) differ)
not_own k all _ _ _ n (gives {n = m} {most} s names rows e are answers) differ =
    (grind (arith, nat_tests, differ), of_changed_other all m n (giving (length (take most (to_come k s names rows))) (asking s)) differ)
not_own k all _ _ _ n (heavy_next {n = m} s e grew heavy) differ = (grind (arith, nat_tests, differ), of_without_other all m n differ)
not_own k all _ _ _ n (grows {n = m} {text} s e few) differ = (grind (arith, nat_tests, differ), of_changed_other all m n (growing text s) differ)
not_own k all _ _ _ n (long s e past) differ = (grind (arith, nat_tests, differ), refl)
not_own k all _ _ _ n (heavy_grown {n = m} s e few heavy) differ = (grind (arith, nat_tests, differ), of_without_other all m n differ)
not_own k all _ _ _ n (closes {n = m} s e) differ = (grind (arith, nat_tests, differ), of_without_other all m n differ)
not_own k all _ _ _ n (next_of_none e) differ = (grind (arith, nat_tests, differ), refl)
not_own k all _ _ _ n (grow_of_none e) differ = (grind (arith, nat_tests, differ), refl)
not_own k all _ _ _ n (close_of_none e) differ = (grind (arith, nat_tests, differ), refl)
not_own k all r _ _ n wants_memory differ = (grind (arith, nat_tests, differ), of_without_other all (session_id r) n differ)

-- ---- all lines

-- the lines of the session, and its own run
record Alone (k : Known) (n : ℕ) (texts : List (List ℕ)) (replies : List Reply) (o p : Option Session) : Type 0 where
  own : List (List ℕ)
  lines : AreLinesOf n texts own
  run : AreReplies k (only n o) own (replies_of n replies) (only n p)

kept : (b : Bool) (n : ℕ) (reply : Reply) (replies : List Reply) → is_about n reply ≡ b → replies_of n (reply ∷ replies) ≡ (if b then reply ∷ replies_of n replies else replies_of n replies)
kept b n reply replies e = ap (λ (c : Bool). if c then reply ∷ replies_of n replies else replies_of n replies) e

one_more : (k : Known) (n : ℕ) (text : List ℕ) (texts : List (List ℕ)) (reply : Reply) (replies : List Reply) (o m p : Option Session) →
    is_about n reply ≡ true → IsLineOf n text → IsReply k (only n o) text reply (only n m) → Alone k n texts replies m p → Alone k n (text ∷ texts) (reply ∷ replies) o p
one_more k n text texts reply replies o m p about is step rest = record {
  own = text ∷ rest.own;
  lines = one_of is rest.lines;
  run = rw (kept true n reply replies about) (first_line step rest.run);
}

no_more : (k : Known) (n : ℕ) (text : List ℕ) (texts : List (List ℕ)) (reply : Reply) (replies : List Reply) (o m p : Option Session) →
    is_about n reply ≡ false → ¬ IsLineOf n text → m ≡ o → Alone k n texts replies m p → Alone k n (text ∷ texts) (reply ∷ replies) o p
no_more k n text texts reply replies o m p about not same rest = record {
  own = rest.own;
  lines = other_of not rest.lines;
  run = rw (kept false n reply replies about)
      (rw (← same) rest.run);
}

of_request : (k : Known) (n : ℕ) (all mid : Sessions) (text : List ℕ) (texts : List (List ℕ)) (r : SessionRequest) (reply : Reply) (replies : List Reply) (p : Option Session) →
    IsRequest text r → Answers k all r reply mid → (reply ≢ error_of n (codes "full")) → Alone k n texts replies (session_of mid n) p →
    (session_id r ≡ n) ⊎ (session_id r ≢ n) → Alone k n (text ∷ texts) (reply ∷ replies) (session_of all n) p
of_request k n all mid text texts r reply replies p is step room rest (inl same) =
    let P : ℕ → Type 0 = λ m. (reply ≢ error_of m (codes "full")) → Alone k m texts replies (session_of mid m) p → Alone k m (text ∷ texts) (reply ∷ replies) (session_of all m) p in
    let here : P (session_id r) = λ fits later. one_more k (session_id r) text texts reply replies (session_of all (session_id r)) (session_of mid (session_id r)) p
    (is_own k all r reply mid step) (r, is, refl) (to_request is (alone k all r reply mid step fits)) later in
    subst P same here room rest
of_request k n all mid text texts r reply replies p is step room rest (inr differ) =
    let both = not_own k all r reply mid n step differ in
    no_more k n text texts reply replies (session_of all n) (session_of mid n) p both.0 (λ l. differ (one_id text r l.0 is l.1 ∙ l.2)) both.1 rest

apart : (k : Known) (all after : Sessions) (texts : List (List ℕ)) (replies : List Reply) (n : ℕ) → AreReplies k all texts replies after →
    ¬ Has replies (error_of n (codes "full")) → Alone k n texts replies (session_of all n) (session_of after n)
apart k all _ _ _ n no_line room = record { own = []; lines = none_of; run = no_line }
apart k all after _ _ n (first_line {mid = mid} {text = text} {texts = texts} {reply = reply} {replies = replies} (to_request {r} is step) rest) room =
    of_request k n all mid text texts r reply replies (session_of after n) is step (λ e. room (inl e)) (apart k mid after texts replies n rest (λ h. room (inr h))) (cases_eq (session_id r) n)
apart k all after _ _ n (first_line {text = text} {texts = texts} {replies = replies} (to_no_request none) rest) room =
    no_more k n text texts no_request replies (session_of all n) (session_of all n) (session_of after n) refl (λ l. none l.0 l.1) refl (apart k all after texts replies n rest (λ h. room (inr h)))

pub sessions_apart : SessionsAreApart
sessions_apart k texts replies after n run room =
    let a : Alone k n texts replies None (session_of after n) = apart k [] after texts replies n run room in
    (a.own, only n (session_of after n), a.lines, a.run)
