-- The code's open sessions and those that they stand for.
use Rattle.std.proofs.Common.{arith, ◌≡◌, ◌≢◌, ◌<◌, ◌≤◌, ◌+◌, ℕ, zero, suc, Bool, true, false, List, [], ◌∷◌, ◌++◌, length, take, get_or, filter, Some, None, refl, ap, ◌∙◌, subst}
use Rattle.std.specs.Prelude.{not, ◌==◌, if◌then◌else◌, slice_get, Vec, Option, is_none, is_some, IfNone, IfSome, Result, Ok, Err, IfOk, OnErr, OnOk, codes}
use Rattle.std.specs.Option.{IsSomeAnd}
use Rattle.std.specs.declared.alloc.Global.{Global}
use Rattle.std.specs.Str.{IsUtf8}
use Rattle.serde_json.specs.Data.{Data}
use Rattle.serde_json.specs.Read.{read}
use Rattle.session_server.specs.Requests.{IsNoRequest, IsRequest, SessionRequest, close_request, open_request, request_object, session_id}
use Rattle.session_server.specs.Asked.{IsNoObject, IsObjectOf}
use Rattle.session_server.specs.declared.TheConstants.{MOST_SESSIONS}
use Rattle.session_server.specs.declared.session.Session.{Session as CodeSession}
use Rattle.std.proofs.lemmas.Bool.Decides.{nat_tests}
use Rattle.spanner_model.specs.Passing.{Known}
use Rattle.session_server.specs.declared.answering.Opened.{Opened}
use Rattle.session_server.specs.Replies.{Answers, IsRefused, IsReply, begun, closes, closed, error_of, full, no_request, opened, opens, refused, taken, to_no_request}
use Rattle.session_server.specs.Replies.{to_request, wants_memory, Reply, reply_text, Session, Sessions, session_of, with_session, sessions_without}
use Rattle.note_texts.specs.declared.refusals.Refusal.{Refusal}
use Rattle.note_texts.specs.declared.refusals.Refusal.TheVariants.{Note}
use Rattle.session_server.specs.Standing.{IsBegun, IsRefusal, IsSession}
use Rattle.session_server.specs.Open.{AreOpen, HasNone, IsFirstPlaceOf, LosesOne, RepliesTo}

pub same_length : (k : Known) (cs : List Opened) (all : Sessions) → AreOpen k cs all → length cs ≡ length all
same_length k [] [] o = refl
same_length k [] (s ∷ all) o = absurd o
same_length k (c ∷ cs) [] o = absurd o
same_length k (c ∷ cs) (s ∷ all) o = ap suc (same_length k cs all o.2)

pub none_open : (k : Known) (cs : List Opened) (all : Sessions) (id : ℕ) → AreOpen k cs all → HasNone cs id → session_of all id ≡ None
none_open k [] [] id o none = refl
none_open k [] (s ∷ all) id o none = absurd o
none_open k (c ∷ cs) [] id o none = absurd o
none_open k (c ∷ cs) (s ∷ all) id o none =
    let later = none_open k cs all id o.2 none.1 in
    let here = o.0 in
    let other = none.0 in
    grind (arith, nat_tests, here, other, later)

pub pushed : (k : Known) (cs : List Opened) (all : Sessions) (c : Opened) (s : Session) → AreOpen k cs all → IsSession k c.session s → AreOpen k (cs ++ c ∷ []) (with_session c.id s all)
pushed k [] [] c s o new = (refl, new, tt)
pushed k [] (t ∷ all) c s o new = absurd o
pushed k (d ∷ cs) [] c s o new = absurd o
pushed k (d ∷ cs) (t ∷ all) c s o new = (o.0, o.1, pushed k cs all c s o.2 new)

pub none_more : (cs : List Opened) (k : ℕ) (c : Opened) (id : ℕ) → HasNone (take k cs) id → k < length cs → c ≡ get_or cs k c → c.id ≢ id → HasNone (take (k + 1) cs) id
none_more cs k c id none within is other =
    let e : suc k ≡ k + 1 = omega arith in
    rw (← e) (by cs k none within is)
  where
    by : (ds : List Opened) (n : ℕ) → HasNone (take n ds) id → n < length ds → c ≡ get_or ds n c → HasNone (take (suc n) ds) id
    by [] n before small at = absurd (omega (arith, small))
    by (d ∷ ds) zero before small at = (λ same. other (ap (λ (x : Opened). x.id) at ∙ same), tt)
    by (d ∷ ds) (suc n) before small at = (before.0, by ds n before.1 (omega (arith, small)) at)

pub filtered : (k : Known) (cs : List Opened) (all : Sessions) (id : ℕ) → AreOpen k cs all → AreOpen k (filter (λ c. not (c.id == id)) cs) (sessions_without id all)
filtered k [] [] id o = tt
filtered k [] (s ∷ all) id o = absurd o
filtered k (c ∷ cs) [] id o = absurd o
filtered k (c ∷ cs) (s ∷ all) id o = both (not (c.id == id)) (not (s.0 == id)) (ap (λ (n : ℕ). not (n == id)) o.0) (filtered k cs all id o.2)
  where
    both : (b d : Bool) → b ≡ d → AreOpen k (filter (λ c. not (c.id == id)) cs) (sessions_without id all) →
        AreOpen k (if b then c ∷ filter (λ c. not (c.id == id)) cs else filter (λ c. not (c.id == id)) cs) (if d then s ∷ sessions_without id all else sessions_without id all)
    both true true e rest = (o.0, o.1, rest)
    both false false e rest = rest
    both true false e rest = absurd (cc)
    both false true e rest = absurd (cc)

pub loses_same : (k : Known) (cs : List Opened) (id : ℕ) → LosesOne k cs cs id
loses_same k cs id = λ all o. filtered k cs all id o

pub none_where : (r : Option ℕ) (P : Type 0) → is_none r ≡ true → IfNone r P → P
none_where None P e h = h
none_where (Some n) P e h = absurd (cc)

pub place_where : (cs : List Opened) (id : ℕ) (r : Option ℕ) → is_none r ≡ false → IfSome r (IsFirstPlaceOf cs id) → (p : ℕ) × IsFirstPlaceOf cs id p
place_where cs id None e h = absurd (cc)
place_where cs id (Some p) e h = (p, h)

pub some_where : (cs : List Opened) (id : ℕ) (r : Option ℕ) → is_some r ≡ true → IfSome r (IsFirstPlaceOf cs id) → (p : ℕ) × IsFirstPlaceOf cs id p
some_where cs id None e h = absurd (cc)
some_where cs id (Some p) e h = (p, h)

pub not_some : (r : Option ℕ) (P : Type 0) → is_some r ≡ false → IfNone r P → P
not_some None P e h = h
not_some (Some n) P e h = absurd (cc)

-- what is found at a place
pub found_open : (k : Known) (cs : List Opened) (all : Sessions) (id p : ℕ) → AreOpen k cs all → HasNone (take p cs) id → IsSomeAnd (slice_get cs p) (λ c. c.id ≡ id) →
    (c : Opened) × (s : Session) × (slice_get cs p ≡ Some c) × (session_of all id ≡ Some s) × IsSession k c.session s
found_open k [] all id p o none here = absurd here
found_open k (c ∷ cs) [] id p o none here = absurd o
found_open k (c ∷ cs) (s ∷ all) id zero o none here =
    let at = o.0 in
    let found : session_of (s ∷ all) id ≡ Some s.1 = grind (arith, nat_tests, at, here) in
    (c, s.1, refl, found, o.1)
found_open k (c ∷ cs) (s ∷ all) id (suc p) o none here =
    let (d, t, at, is, stands) = found_open k cs all id p o.2 none.1 here in
    let number = o.0 in
    let other = none.0 in
    let found : session_of (s ∷ all) id ≡ Some t = grind (arith, nat_tests, number, other, is) in
    (d, t, at, found, stands)

-- ---- replies that leave the sessions as they are, and a close

pub replies_same : {E : Type 0} (k : Known) (r : Result (Vec ℕ Global) E) (cs : List Opened) (request : SessionRequest) (reply : Reply) →
    ((all : Sessions) → AreOpen k cs all → Answers k all request reply all) →
    IfOk r (λ s. s.items ≡ reply_text reply) → IfOk r (RepliesTo k cs cs request)
replies_same k (Ok s) cs request reply f is = λ all o. (reply, all, f all o, is, o)
replies_same k (Err e) cs request reply f is = tt

pub replies_closed : {E : Type 0} (k : Known) (r : Result (Vec ℕ Global) E) (cs new : List Opened) (id p : ℕ) → IsFirstPlaceOf cs id p → new ≡ filter (λ c. not (c.id == id)) cs →
    IfOk r (λ s. s.items ≡ reply_text (closed id)) → IfOk r (RepliesTo k cs new (close_request id))
replies_closed k (Ok s) cs new id p at is text = λ all o.
    let (c, t, there, found, stands) = found_open k cs all id p o at.none_before at.here in
    (closed id, sessions_without id all, closes t found, text, rw is (filtered k cs all id o))
replies_closed k (Err e) cs new id p at is text = tt

filter_twice : (f : Opened → Bool) (cs : List Opened) → filter f (filter f cs) ≡ filter f cs
filter_twice f [] = refl
filter_twice f (c ∷ cs) = by (f c) refl (filter_twice f cs)
  where
    by : (b : Bool) → f c ≡ b → filter f (filter f cs) ≡ filter f cs → filter f (if b then c ∷ filter f cs else filter f cs) ≡ (if b then c ∷ filter f cs else filter f cs)
    by true e later = ap (λ (x : Bool). if x then c ∷ filter f (filter f cs) else filter f (filter f cs)) e ∙ ap (λ (xs : List Opened). c ∷ xs) later
    by false e later = later

pub loses_filtered : (k : Known) (cs new : List Opened) (id : ℕ) → new ≡ filter (λ c. not (c.id == id)) cs → LosesOne k cs new id
loses_filtered k cs new id is = λ all o.
    rw (ap (filter (λ c. not (c.id == id))) is ∙ filter_twice (λ c. not (c.id == id)) cs) (filtered k cs all id o)

-- ---- a session is opened

-- one of this number is open
pub is_taken : {k : Known} {cs : List Opened} {all : Sessions} {id p : ℕ} {text document : List ℕ} → IsFirstPlaceOf cs id p → AreOpen k cs all →
    Answers k all (open_request id text document) (error_of id (codes "taken")) all
is_taken {k = k} {cs = cs} {all = all} {id = id} {p = p} at o = let (c, s, is, found, stands) = found_open k cs all id p o at.none_before at.here in taken s found

-- so many are open
pub is_full : {k : Known} (cs : List Opened) {all : Sessions} {id : ℕ} {text document : List ℕ} → HasNone cs id → MOST_SESSIONS ≤ length cs → AreOpen k cs all →
    Answers k all (open_request id text document) (error_of id (codes "full")) all
is_full {k = k} cs {all = all} {id = id} none many o = let same = same_length k cs all o in full (none_open k cs all id o none) (omega (arith, same, many))

pub is_refused : {k : Known} (cs : List Opened) {all : Sessions} {id : ℕ} {text document note t d : List ℕ} → HasNone cs id → length cs < MOST_SESSIONS → t ≡ text → d ≡ document →
    IsRefused k t d note → AreOpen k cs all → Answers k all (open_request id text document) (error_of id note) all
is_refused {k = k} cs {all = all} {id = id} {note = note} none room same held why o =
    let long = same_length k cs all o in
    refused note (none_open k cs all id o none) (omega (arith, long, room))
    (rw (← same) (rw (← held) why))

pub why_refused : (k : Known) (t d : List ℕ) (r : Refusal) (note : Vec ℕ Global) → r ≡ Note note → IsRefusal k t d r → IsRefused k t d note.items
why_refused k t d r note is why = let P : Refusal → Type 0 = IsRefusal k t d in (subst P is why).0

pub replies_opened : (k : Known) (cs new : List Opened) (id : ℕ) (text document t d : List ℕ) (c : CodeSession) (line : Vec ℕ Global) → HasNone cs id → length cs < MOST_SESSIONS → t ≡ text →
    d ≡ document →
    new ≡ cs ++ record { id = id; session = c } ∷ [] → IsBegun k t d c → line.items ≡ reply_text (opened id c.vars) → RepliesTo k cs new (open_request id text document) line
replies_opened k cs new id text document t d c line none room same held pushed_on begins told = λ all o.
    let long = same_length k cs all o in
    let here : IsBegun k text document c = rw (← same) (rw (← held) begins) in
    let (q, only, small, names, stands) = here in
    let e : Opened = record { id = id; session = c } in (
      opened id c.vars,
      with_session id (begun q document) all,
      opens q c.vars (none_open k cs all id o none) (omega (arith, long, room)) only small names,
      told,
      rw pushed_on (pushed k cs all e (begun q document) o stands),
    )

pub replies_put : {E : Type 0} (k : Known) (r : Result (Vec ℕ Global) E) (cs new : List Opened) (id : ℕ) (text document t d : List ℕ) (c : CodeSession) → HasNone cs id → length cs < MOST_SESSIONS →
    t ≡ text → d ≡ document → OnOk r (new ≡ cs ++ record { id = id; session = c } ∷ []) → IsBegun k t d c → IfOk r (λ s. s.items ≡ reply_text (opened id c.vars)) →
    IfOk r (RepliesTo k cs new (open_request id text document))
replies_put k (Ok line) cs new id text document t d c none room same held put begins told = replies_opened k cs new id text document t d c line none room same held put begins told
replies_put k (Err e) cs new id text document t d c none room same held put begins told = tt

pub loses_put : {E : Type 0} (k : Known) (r : Result (Vec ℕ Global) E) (cs new : List Opened) (id : ℕ) → OnErr r (new ≡ cs) → OnErr r (LosesOne k cs new id)
loses_put k (Ok line) cs new id same = tt
loses_put k (Err e) cs new id same = rw same (loses_same k cs id)

-- ---- a line and its reply

abbrev pub RepliesTo_line : Known → List Opened → List Opened → List ℕ → Vec ℕ Global → Type 0
RepliesTo_line k old new text line = (all : Sessions) → AreOpen k old all → (r : Reply) × (after : Sessions) × IsReply k all text r after × (line.items ≡ reply_text r) × AreOpen k new after

pub line_of_request : (k : Known) (old new : List Opened) {text : List ℕ} {request : SessionRequest} (line : Vec ℕ Global) → IsRequest text request → RepliesTo k old new request line →
    RepliesTo_line k old new text line
line_of_request k old new line is replies = λ all o. let (r, after, answers, told, stands) = replies all o in (r, after, to_request is answers, told, stands)

pub line_of_none : {E : Type 0} (k : Known) (cs : List Opened) (text : List ℕ) (r : Result (Vec ℕ Global) E) → IsNoRequest text → IfOk r (λ s. s.items ≡ reply_text no_request) →
    IfOk r (RepliesTo_line k cs cs text)
line_of_none k cs text (Err e) none told = tt
line_of_none k cs text (Ok s) none told = λ all o. (no_request, all, to_no_request none, told, o)

pub line_of_memory : {E : Type 0} (k : Known) (old mid new : List Opened) {text : List ℕ} {request : SessionRequest} {id : ℕ} (r : Result (Vec ℕ Global) E) → IsRequest text request →
    id ≡ session_id request →
    LosesOne k old mid (session_id request) → new ≡ filter (λ c. not (c.id == id)) mid → IfOk r (λ s. s.items ≡ reply_text (error_of id (codes "memory"))) → IfOk r (RepliesTo_line k old new text)
line_of_memory k old mid new (Err e) is same loses closed_now told = tt
line_of_memory k old mid new {request = request} (Ok s) is same loses closed_now told = λ all o.
    let n = session_id request in
    let now : new ≡ filter (λ c. not (c.id == n)) mid = closed_now ∙ ap (λ (m : ℕ). filter (λ (c : Opened). not (c.id == m)) mid) same in (
      error_of n (codes "memory"),
      sessions_without n all,
      to_request is wants_memory,
      told ∙ ap (λ (m : ℕ). reply_text (error_of m (codes "memory"))) same,
      rw now (loses all o),
    )

-- the line's value is this request, or none
pub is_request : (text : List ℕ) {d : Data} (r : SessionRequest) → IsUtf8 text × (read text ≡ Some d) → IsObjectOf d r → IsRequest text r
is_request text r (utf8, reads) is = record { utf8 = utf8; reads = reads ∙ ap (λ (x : Data). Some x) is.0; range = is.1 }

pub is_no_value : (text : List ℕ) → (IsUtf8 text → read text ≡ None) → IsNoRequest text
is_no_value text none r is = let a = none is.utf8 in let b = is.reads in absurd (cc)

pub is_no_object : (text : List ℕ) {d : Data} → IsUtf8 text × (read text ≡ Some d) → IsNoObject d → IsNoRequest text
is_no_object text {d = d} (utf8, reads) none r is = let b = is.reads in let same : d ≡ request_object r = cc in none r (same, is.range)
