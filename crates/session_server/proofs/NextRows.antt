-- A session that gave its next rows, among those that are open.
use Rattle.std.proofs.Common.{arith, ◌≡◌, ◌+◌, ◌<◌, ◌≤◌, ℕ, zero, suc, Bool, true, false, List, [], ◌∷◌, length, take, filter, slice_set, get_or, Some, inl, refl, sym, ap, ◌∙◌}
use Rattle.std.specs.Prelude.{not, ◌==◌, nat_lt, if◌then◌else◌, slice_get, Vec, Result, Ok, Err, IfOk, codes}
use Rattle.std.specs.Option.{IsSomeAnd}
use Rattle.std.specs.declared.alloc.Global.{Global}
use Rattle.std.proofs.lemmas.Bool.Decides.{nat_tests}
use Rattle.std.proofs.lemmas.Option.{slice_get_read}
use Rattle.serde_json.specs.Data.{Items, array}
use Rattle.serde_json.specs.Written.{compact_text}
use Rattle.spanner_model.specs.Passing.{Known}
use Rattle.session_server.specs.declared.answering.Opened.{Opened}
use Rattle.session_server.specs.declared.session.Session.{Session as CodeSession}
use Rattle.note_texts.specs.Notes.{line, table_note}
use Rattle.session_server.specs.declared.TheConstants.{MOST_GROWN, SESSION_TABLE}
use Rattle.session_server.specs.declared.session.Halt.TheVariants as halt
use Rattle.session_server.specs.Requests.{SessionRequest, grow_request, next_request}
use Rattle.session_server.specs.Replies.{Answers, asking, error_of, gives, given_rows, growing, grown_to, grows, heavy_grown, long, session_of, giving, json_rows}
use Rattle.session_server.specs.Replies.{reply_text, rows_object, Session, Sessions, changed, to_come, sessions_without}
use Rattle.session_server.specs.Standing.{GivesPage, IsGrowHalt, IsSession}
use Rattle.session_server.specs.Open.{AreOpen, HasNone, IsFirstPlaceOf, LosesOne, RepliesTo}
use Rattle.session_server.proofs.Grows.{kept_of}
use Rattle.session_server.proofs.Opens.{filtered, found_open, loses_filtered}

pub set_open : (k : Known) (cs : List Opened) (all : Sessions) (id p : ℕ) (c : Opened) (s : Session) → AreOpen k cs all → HasNone (take p cs) id → IsSomeAnd (slice_get cs p) (λ d. d.id ≡ id) →
    c.id ≡ id → IsSession k c.session s → AreOpen k (slice_set cs p c) (changed id s all)
set_open k [] all id p c s o none here same new = absurd here
set_open k (d ∷ cs) [] id p c s o none here same new = absurd o
set_open k (d ∷ cs) (t ∷ all) id zero c s o none here same new =
    let number = o.0 in
    let at : (t.0 == id) ≡ true = grind (arith, nat_tests, number, here) in
    rw at (same, new, o.2)
set_open k (d ∷ cs) (t ∷ all) id (suc p) c s o none here same new =
    let number = o.0 in
    let other = none.0 in
    let at : (t.0 == id) ≡ false = grind (arith, nat_tests, number, other) in
    rw at (o.0, o.1, set_open k cs all id p c s o.2 none.1 here same new)

pub filter_set : (cs : List Opened) (id p : ℕ) (c : Opened) → IsSomeAnd (slice_get cs p) (λ d. d.id ≡ id) → c.id ≡ id →
    filter (λ d. not (d.id == id)) (slice_set cs p c) ≡ filter (λ d. not (d.id == id)) cs
filter_set [] id p c here same = absurd here
filter_set (d ∷ cs) id zero c here same =
    let a : not (c.id == id) ≡ false = grind (arith, nat_tests, same) in
    let b : not (d.id == id) ≡ false = grind (arith, nat_tests, here) in
    ap (λ (x : Bool). if x then c ∷ filter (λ d. not (d.id == id)) cs else filter (λ d. not (d.id == id)) cs) a
    ∙ sym (ap (λ (x : Bool). if x then d ∷ filter (λ d. not (d.id == id)) cs else filter (λ d. not (d.id == id)) cs) b)
filter_set (d ∷ cs) id (suc p) c here same =
    ap (λ (xs : List Opened). if not (d.id == id) then d ∷ xs else xs) (filter_set cs id p c here same)

pub set_same : (cs : List Opened) (p : ℕ) (c : Opened) → slice_get cs p ≡ Some c → slice_set cs p c ≡ cs
set_same [] p c is = absurd (cc)
set_same (d ∷ cs) zero c is = let e : c ≡ d = cc in ap (λ (x : Opened). x ∷ cs) e
set_same (d ∷ cs) (suc p) c is = ap (λ (xs : List Opened). d ∷ xs) (set_same cs p c is)

-- ---- the session of a number

-- this is the session at the first place of the number
pub record IsFound (cs : List Opened) (id p : ℕ) (c : Opened) : Type 0 where
  pub at : IsFirstPlaceOf cs id p
  pub there : slice_get cs p ≡ Some c
  pub same : c.id ≡ id

-- what is read at the first place is that session
pub found_at : {cs seen : List Opened} {id p : ℕ} {c : Opened} → seen ≡ cs → IsFirstPlaceOf seen id p → c ≡ get_or cs p c → IsFound cs id p c
found_at {cs = cs} {id = id} {p = p} {c = c} is first read =
    let at : IsFirstPlaceOf cs id p = rw (← is) first in
    let there : slice_get cs p ≡ Some c = slice_get_read cs (length cs) p c refl at.within read in
    record { at = at; there = there; same = rw there at at.here }

module _ {cs : List Opened} {id p : ℕ} {c : Opened} (found : IsFound cs id p c) where
  pub loses_set : (k : Known) (new : CodeSession) → LosesOne k cs (slice_set cs p (record { id = c.id; session = new })) id
  loses_set k new = λ all o. rw (filter_set cs id p (record { id = c.id; session = new }) found.at.here found.same) (filtered k cs all id o)

  stands_here : (k : Known) (all : Sessions) → AreOpen k cs all → (s : Session) × (session_of all id ≡ Some s) × IsSession k c.session s
  stands_here k all o =
      let (d, s, is, finds, stands) = found_open k cs all id p o found.at.none_before found.at.here in
      let e = found.there in
      let same : d ≡ c = (let there = sym is ∙ e in cc) in
      (s, finds, rw (← same) stands)

pub stands_at : {cs : List Opened} {id p : ℕ} {c : Opened} → IsFound cs id p c → (k : Known) (all : Sessions) → AreOpen k cs all → (s : Session) × IsSession k c.session s
stands_at found k all o = let (s, finds, here) = stands_here found k all o in (s, here)

pub replies_given : {E : Type 0} {k : Known} (r : Result (Vec ℕ Global) E) {cs : List Opened} {id p most : ℕ} {c : Opened} {new : CodeSession} {written told : List ℕ} {more : Bool} →
    IsFound cs id p c → ((s : Session) → IsSession k c.session s → GivesPage k c.session new most written more s) → told ≡ written →
    IfOk r (λ s. (items : Items) → told ≡ compact_text (array items) → s.items ≡ line (compact_text (rows_object id more items))) →
    IfOk r (RepliesTo k cs (slice_set cs p (record { id = c.id; session = new })) (next_request id most))
replies_given (Err e) found given is text = tt
replies_given {k = k} (Ok s) {cs = cs} {id = id} {p = p} {most = most} {c = c} {new = new} found given is text = λ open_all o.
    let (t, finds, here) = stands_here found k open_all o in
    let (all, (names, answers), g) = given t here in
    let rows = take most (to_come k t c.session.vars all) in (
      given_rows id (nat_lt most (length (to_come k t c.session.vars all))) c.session.vars rows,
      changed id (giving (length rows) (asking t)) open_all,
      gives t c.session.vars all finds names answers,
      rw (← g.tells) (text (json_rows c.session.vars rows) (is ∙ g.rows)),
      set_open k cs open_all id p (record { id = c.id; session = new }) (giving (length rows) (asking t)) o found.at.none_before found.at.here found.same (inl (all, g.now)),
    )

-- ---- a session that is closed since it weighs too much

pub heavy_closed : {E : Type 0} (k : Known) (r : Result (Vec ℕ Global) E) {cs new : List Opened} {id p : ℕ} {c : Opened} (d : CodeSession) (request : SessionRequest) →
    IsFound cs id p c → new ≡ filter (λ c. not (c.id == id)) (slice_set cs p (record { id = c.id; session = d })) →
    ((all : Sessions) (s : Session) → session_of all id ≡ Some s → IsSession k c.session s → Answers k all request (error_of id (table_note SESSION_TABLE)) (sessions_without id all)) →
    IfOk r (λ s. s.items ≡ reply_text (error_of id (table_note SESSION_TABLE))) → IfOk r (RepliesTo k cs new request)
heavy_closed k (Err e) d request found is step text = tt
heavy_closed k (Ok s) {cs = cs} {id = id} {p = p} {c = c} d request found is step text = λ open_all o.
    let (t, finds, here) = stands_here found k open_all o in (
      error_of id (table_note SESSION_TABLE),
      sessions_without id open_all,
      step open_all t finds here,
      text,
      rw (is ∙ filter_set cs id p (record { id = c.id; session = d }) found.at.here found.same) (filtered k cs open_all id o),
    )

pub loses_closed : (k : Known) {cs new : List Opened} {id p : ℕ} {c : Opened} (d : CodeSession) → IsFound cs id p c →
    new ≡ filter (λ c. not (c.id == id)) (slice_set cs p (record { id = c.id; session = d })) → LosesOne k cs new id
loses_closed k {cs = cs} {new = new} {id = id} {p = p} {c = c} d found is =
    loses_filtered k cs new id (is ∙ filter_set cs id p (record { id = c.id; session = d }) found.at.here found.same)

-- ---- a document that grows

pub replies_grown : {E : Type 0} {k : Known} (r : Result (Vec ℕ Global) E) {cs : List Opened} {id p n : ℕ} {text bytes : List ℕ} {c : Opened} {new : CodeSession} →
    IsFound cs id p c → bytes ≡ text → n ≡ length c.session.growing.document + length bytes → n ≤ MOST_GROWN →
    ((s : Session) → IsSession k c.session s → IsSession k new (growing bytes s)) →
    IfOk r (λ s. s.items ≡ reply_text (grown_to id n)) → IfOk r (RepliesTo k cs (slice_set cs p (record { id = c.id; session = new })) (grow_request id text))
replies_grown (Err e) found is sum few grew told = tt
replies_grown {k = k} (Ok s) {cs = cs} {id = id} {p = p} {n = n} {text = text} {bytes = bytes} {c = c} {new = new} found is sum few grew told = λ open_all o.
    let (t, finds, here) = stands_here found k open_all o in
    let held : length c.session.growing.document ≡ length t.document = ap (λ (d : List ℕ). length d) (kept_of k c.session t here).growing.holds in
    let same_text : length bytes ≡ length text = ap (λ (d : List ℕ). length d) is in
    let all_bytes : n ≡ length t.document + length text = omega (arith, held, same_text, sum) in (
      grown_to id (length t.document + length text),
      changed id (growing text t) open_all,
      grows t finds (omega (arith, all_bytes, few)),
      rw (← all_bytes) told,
      set_open k cs open_all id p (record { id = c.id; session = new }) (growing text t) o found.at.none_before found.at.here found.same (rw (← is) (grew t here)),
    )

pub too_long : {k : Known} {cs : List Opened} {id p : ℕ} {text bytes : List ℕ} {c : Opened} → IsFound cs id p c → bytes ≡ text →
    MOST_GROWN < length c.session.growing.document + length bytes → (all : Sessions) → AreOpen k cs all → Answers k all (grow_request id text) (error_of id (codes "long")) all
too_long {k = k} {text = text} {bytes = bytes} {c = c} found is past all o =
    let (t, finds, here) = stands_here found k all o in
    let held : length c.session.growing.document ≡ length t.document = ap (λ (d : List ℕ). length d) (kept_of k c.session t here).growing.holds in
    let same_text : length bytes ≡ length text = ap (λ (d : List ℕ). length d) is in
    long t finds (omega (arith, held, same_text, past))

pub too_heavy : {k : Known} {id n : ℕ} {text bytes : List ℕ} (c : CodeSession) {all : Sessions} (s : Session) → bytes ≡ text → n ≡ length c.growing.document + length bytes → n ≤ MOST_GROWN →
    IsGrowHalt s bytes halt.Heavy → session_of all id ≡ Some s → IsSession k c s → Answers k all (grow_request id text) (error_of id (table_note SESSION_TABLE)) (sessions_without id all)
too_heavy {k = k} {text = text} {bytes = bytes} c s is sum few heavy finds here =
    let held : length c.growing.document ≡ length s.document = ap (λ (d : List ℕ). length d) (kept_of k c s here).growing.holds in
    let same_text : length bytes ≡ length text = ap (λ (d : List ℕ). length d) is in
    heavy_grown s finds (omega (arith, held, same_text, sum, few)) (rw (← is) heavy)
