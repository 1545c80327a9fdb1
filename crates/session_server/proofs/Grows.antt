-- What is held of reading a session's document.
use Rattle.std.proofs.Common.{arith, zero, suc, ◌≡◌, ◌+◌, ◌<◌, ◌≤◌, ◌^◌, ℕ, Bool, true, false, List, [], ◌∷◌, ◌++◌, length, take, drop, Option, None, Some, MatchOption}
use Rattle.std.proofs.Common.{inl, inr, refl, sym, ap, ◌∙◌, subst, get_or, length-append}
use Rattle.std.proofs.lemmas.Option.{get_or_from_slice_get, slice_get_within}
use Rattle.std.specs.Prelude.{if◌then◌else◌, nat_lt}
use Rattle.std.specs.Bool.{OnTrue, OnFalse}
use Rattle.serde_json.specs.Data.{array}
use Rattle.serde_json.specs.Written.{compact_text}
use Rattle.span_core.specs.Lists.{Has}
use Rattle.span_core.proofs.HasLaws.{Has-append_cases, Has-append_left, Has-append_right}
use Rattle.spanner_model.specs.Captures.{VarName}
use Rattle.spanner_model.specs.Expression.{QueryTree}
use Rattle.spanner_model.specs.Answers.{AreAnswers, AreResultNames, SpanRow}
use Rattle.spanner_model.specs.Tested.{TestedTree, tested_of}
use Rattle.marked_automaton.specs.Automaton.{Automaton, Marked}
use Rattle.automaton_reading.specs.Reading.{Question, LookUp}
use Rattle.query_automaton.specs.CompiledQuery.{IsCompiled}
use Rattle.one_pass.specs.Places.{sets_met}
use Rattle.one_pass.proofs.Sets.{weight_covers}
use Rattle.growing_document.specs.Faults.{IsAppendFault, IsRowsFault, IsWeightFault}
use Rattle.growing_document.specs.Grown.{AreBytes, AreRowsRead, Grown, IsAppended, HasAskedRows, at_start}
use Rattle.growing_document.specs.Lengths.{ends_at, weight_at}
use Rattle.growing_document.specs.Numbers.{questions_in, end_look_ups_at, first_sets, look_ups_in, sets_in}
use Rattle.growing_document.specs.declared.fault.GrowFault.{GrowFault}
use Rattle.growing_document.specs.declared.fault.GrowFault.TheVariants as fault
use Rattle.growing_document.proofs.Lengths.{lengths_law, reduct_weighs}
use Rattle.spanner_engine.specs.Begun.{counted}
use Rattle.spanner_engine.specs.Fitting.{AreLast}
use Rattle.spanner_engine.specs.Left.{AnswersLeft}
use Rattle.spanner_model.specs.Passing.{Known, checks_of, passing}
use Rattle.spanner_engine.proofs.RowLaws.{whole_rows}
use Rattle.session_server.specs.declared.TheConstants.{MOST_GROWN, SESSION_TABLE}
use Rattle.session_server.specs.declared.session.Session.{Session as CodeSession}
use Rattle.session_server.specs.declared.session.Halt.{Halt}
use Rattle.session_server.specs.Replies.{IsHeavy, Session, asking, giving, growing, json_rows, to_come}
use Rattle.session_server.specs.Standing.{GivesPage, HasGiven, IsGrowHalt, IsKeptSession, IsReadOn, IsRowsHalt, IsSession, IsSessionOver, IsStartHalt, IsWaiting, halt_of}
use Rattle.session_server.proofs.Giving.{as_option, comes_first}

-- ---- what is held

pub at_first : (q : QueryTree) (A : Marked) → IsCompiled q A → IsReadOn q [] [] A.names (at_start A SESSION_TABLE)
at_first q A made = record { compiled = made; named = refl; limit = refl; holds = refl; goes_on = refl; held = lengths_law.start A SESSION_TABLE }

module _ (q : QueryTree) (d asked : List ℕ) (names : List VarName) (g h : Grown) (r : IsReadOn q d asked names g) where
  pub read_more : (piece : List ℕ) → IsAppended g piece h → IsReadOn q (d ++ piece) asked names h
  read_more piece a = record {
    compiled = subst (IsCompiled q) (sym a.automaton) r.compiled;
    named = ap (λ (A : Marked). A.names) a.automaton ∙ r.named;
    limit = a.limit ∙ r.limit;
    holds = a.document ∙ ap (λ (x : List ℕ). x ++ piece) r.holds;
    goes_on = a.spent;
    held = lengths_law.appended g h piece asked r.held a;
  }

  pub asked_again : HasAskedRows g h → IsReadOn q d (length d ∷ asked) names h
  asked_again a = record {
    compiled = subst (IsCompiled q) (sym a.automaton) r.compiled;
    named = ap (λ (A : Marked). A.names) a.automaton ∙ r.named;
    limit = a.limit ∙ r.limit;
    holds = a.document ∙ r.holds;
    goes_on = a.spent ∙ r.goes_on;
    held = rw (← r.holds) (lengths_law.asked g h asked r.held a);
  }

  pub rows_are : (rows : List SpanRow) → AreBytes d → AreRowsRead g.automaton g.document rows → AreAnswers q d names rows
  rows_are rows bytes is =
      let here : AreRowsRead g.automaton d rows = rw (← r.holds) is in
      rw (← r.named) (whole_rows q g.automaton r.compiled d bytes here.words here.read rows here.are here.order)

  -- ---- why it is not read on

  heavier : (document lengths : List ℕ) (weight : ℕ) → (g.limit < weight) × (weight ≤ weight_at g.automaton.graph document lengths) → IsHeavy q document lengths
  heavier document lengths weight f =
      let less = reduct_weighs g.automaton.graph (counted q) r.compiled.reduces.1 document lengths in
      let limit = r.limit in
      let over = f.0 in
      let most = f.1 in
      omega (arith, less, limit, over, most)

  pub more_heavy : (piece : List ℕ) (weight : ℕ) → IsAppendFault g piece (fault.Full weight) → IsHeavy q (d ++ piece) asked
  more_heavy piece weight f = rw (← r.holds) (heavier (g.document ++ piece) asked weight (lengths_law.append_full g piece asked weight r.held f))

  pub rows_heavy : (weight : ℕ) → IsRowsFault g (fault.Full weight) → IsHeavy q d (length d ∷ asked)
  rows_heavy weight f = subst (λ (x : List ℕ). IsHeavy q x (length x ∷ asked)) r.holds (heavier g.document (length g.document ∷ asked) weight (lengths_law.rows_full g asked weight r.held f))

-- more end look-ups weigh no less
more_ends : (B : Automaton) (d asked : List ℕ) (n : ℕ) → weight_at B d asked ≤ weight_at B d (n ∷ asked)
more_ends B d asked n =
    weight_covers B (sets_in B d) (sets_in B d) (look_ups_in B d ++ ends_at B d (n ∷ asked)) (look_ups_in B d ++ ends_at B d asked) (λ set h. h) by
  where
    by : (look_up : LookUp) → Has (look_ups_in B d ++ ends_at B d asked) look_up → Has (look_ups_in B d ++ ends_at B d (n ∷ asked)) look_up
    by look_up h = elim (Has-append_cases (look_ups_in B d) (ends_at B d asked) look_up h) as (λ _. Has (look_ups_in B d ++ ends_at B d (n ∷ asked)) look_up) [
      | inl k ↦ Has-append_left (look_ups_in B d) (ends_at B d (n ∷ asked)) look_up k
      | inr k ↦ Has-append_right (look_ups_in B d) (ends_at B d (n ∷ asked)) look_up (Has-append_right (end_look_ups_at B (take n d)) (ends_at B d asked) look_up k)
    ]

first_met : (A : Automaton) (sets : List (List ℕ)) (asks : List Question) (set : List ℕ) → Has sets set → Has (sets_met A sets asks) set
first_met A sets [] set h = h
first_met A sets (a ∷ later) set h = Has-append_left sets _ set h

pub start_heavy : (q : QueryTree) (A : Marked) (d : List ℕ) (weight : ℕ) → IsCompiled q A → IsWeightFault A.graph SESSION_TABLE [] [] (fault.Full weight) → IsHeavy q d (length d ∷ [])
start_heavy q A d weight made f =
    let lengths : List ℕ = length d ∷ [] in
    let less = weight_covers A.graph (sets_in A.graph d) (sets_in A.graph []) (look_ups_in A.graph d ++ ends_at A.graph d lengths) []
    (first_met A.graph (first_sets A.graph) (questions_in d)) (λ look_up h. absurd h) in
    let reduced = reduct_weighs A.graph (counted q) made.reduces.1 d lengths in
    let over = f.0 in
    let most = f.1 in
    omega (arith, less, reduced, over, most)

-- ---- in the code's shapes

pub halt_at_start : (q : QueryTree) (A : Marked) (d : List ℕ) (e : GrowFault) → IsCompiled q A → IsWeightFault A.graph SESSION_TABLE [] [] e → IsStartHalt q d (halt_of e)
halt_at_start q A d (fault.Full weight) made f = start_heavy q A d weight made f
halt_at_start q A d (fault.TooLong seen) made f = tt
halt_at_start q A d fault.Spent made f = tt
halt_at_start q A d fault.OutOfMemory made f = tt

pub halt_at_first : (q : QueryTree) (d : List ℕ) (names : List VarName) (g : Grown) (e : GrowFault) → IsReadOn q [] [] names g → IsAppendFault g d e → IsStartHalt q d (halt_of e)
halt_at_first q d names g (fault.Full weight) r f =
    let more = more_ends (counted q) d [] (length d) in
    let heavy = more_heavy q [] [] names g g r d weight f in
    omega (arith, more, heavy)
halt_at_first q d names g (fault.TooLong seen) r f = tt
halt_at_first q d names g fault.Spent r f = tt
halt_at_first q d names g fault.OutOfMemory r f = tt

pub halt_at_rows : (q : QueryTree) (d : List ℕ) (names : List VarName) (g : Grown) (e : GrowFault) → IsReadOn q d [] names g → IsRowsFault g e → IsStartHalt q d (halt_of e)
halt_at_rows q d names g (fault.Full weight) r f = rows_heavy q d [] names g g r weight f
halt_at_rows q d names g (fault.TooLong seen) r f = tt
halt_at_rows q d names g fault.Spent r f = tt
halt_at_rows q d names g fault.OutOfMemory r f = tt

pub kept_of : (k : Known) (c : CodeSession) (s : Session) → IsSession k c s → IsKeptSession k c s
kept_of k c s (inl (all, o)) = o.kept
kept_of k c s (inr w) = w.kept

pub rows_halt : (k : Known) (c : CodeSession) (s : Session) (e : GrowFault) (h : Halt) → h ≡ halt_of e → IsRowsFault c.growing e → IsWaiting k c s → IsRowsHalt s h
rows_halt k c s e h is f w = subst (IsRowsHalt s) (sym is) (by e f)
  where
    by : (x : GrowFault) → IsRowsFault c.growing x → IsRowsHalt s (halt_of x)
    by (fault.Full weight) f = (w.grew, rows_heavy s.query.query s.document s.asked c.vars c.growing c.growing w.kept.growing weight f)
    by (fault.TooLong seen) f = tt
    by fault.Spent f = tt
    by fault.OutOfMemory f = tt

pub grow_halt : (k : Known) (c : CodeSession) (s : Session) (text : List ℕ) (e : GrowFault) (h : Halt) → h ≡ halt_of e → IsAppendFault c.growing text e → IsSession k c s → IsGrowHalt s text h
grow_halt k c s text e h is f stands = subst (IsGrowHalt s text) (sym is) (by e f)
  where
    by : (x : GrowFault) → IsAppendFault c.growing text x → IsGrowHalt s text (halt_of x)
    by (fault.Full weight) f = more_heavy s.query.query s.document s.asked c.vars c.growing c.growing (kept_of k c s stands).growing text weight f
    by (fault.TooLong seen) f = tt
    by fault.Spent f = tt
    by fault.OutOfMemory f = tt

bytes_append : (a b : List ℕ) → AreBytes a → AreBytes b → AreBytes (a ++ b)
bytes_append [] b p q i x h = q i x h
bytes_append (y ∷ a) b p q zero x h = p zero x h
bytes_append (y ∷ a) b p q (suc i) x h = bytes_append a b (λ j z k. p (suc j) z k) q i x h

-- a text is put behind the document
pub now_waits : (k : Known) (c : CodeSession) (s : Session) (text : List ℕ) (h : Grown) → length c.growing.document + length text ≤ MOST_GROWN → AreBytes text → IsAppended c.growing text h →
    IsSession k c s →
    IsSession k (record c { growing = h; grown = true }) (growing text s)
now_waits k c s text h few bytes a stands =
    let o = kept_of k c s stands in
    let same = ap (λ (d : List ℕ). length d) o.growing.holds in
    let long = length-append s.document text in
    inr (record {
      kept = record {
        query = o.query;
        growing = read_more s.query.query s.document s.asked c.vars c.growing h o.growing text a;
        few = omega (arith, few, same, long);
        bytes = bytes_append s.document text o.bytes bytes;
        names = o.names;
        tests_known = o.tests_known;
      };
      waits = refl;
      grew = refl;
      anew = refl;
    })

abbrev asked_now : Session → Bool → List ℕ
asked_now s b = if b then length s.document ∷ s.asked else s.asked

-- its rows are asked for: what is had of them is all answers
module _ (k : Known) (c : CodeSession) (s : Session) (h : Grown) (whole old : List SpanRow) (e : List ℕ) (held : e ≡ h.document) (a : HasAskedRows c.growing h)
    (are : AreRowsRead c.growing.automaton c.growing.document whole) (fresh : old ≡ whole) (w : IsWaiting k c s) where
  same : e ≡ s.document
  same = held ∙ a.document ∙ w.kept.growing.holds

  all_of_them : AreAnswers s.query.query s.document c.vars old
  all_of_them =
      rw fresh
      (rows_are s.query.query s.document s.asked c.vars c.growing c.growing w.kept.growing whole w.kept.bytes are)

  pub few_there : length e ≤ 2 ^ 28
  few_there = rw same w.kept.few

  pub last_there : AreLast (tested_of c.tested).query e c.vars old
  last_there =
      subst (λ (t : TestedTree). AreLast t.query e c.vars old) (sym w.kept.query)
      (subst (λ (x : List ℕ). AreLast s.query.query x c.vars old) (sym same) (record { all = old; answers = all_of_them; front = []; joined = refl }))

  pub now_asked : (left : AnswersLeft) (some : Bool) → AreLast (tested_of c.tested).query e c.vars left.rest → left.variables ≡ length c.vars →
      OnTrue some (passing (checks_of k (tested_of c.tested).asked) c.vars e old ≡ left.row ∷ passing (checks_of k (tested_of c.tested).asked) c.vars e left.rest) →
      OnFalse some ((passing (checks_of k (tested_of c.tested).asked) c.vars e old ≡ []) × (left.rest ≡ [])) →
      (rows : List SpanRow) × IsSessionOver k (record c { growing = h; answers = left; some = some; grown = false }) (asking s) rows
  now_asked left some last wide next_one none =
      let o = w.kept in
      let t = s.query in
      let next : Option SpanRow = if some then Some left.row else None in
      let found = as_option some left.row _ _ next_one none in
      let N : TestedTree → List ℕ → Type 0 = λ u x.
      MatchOption next ((passing (checks_of k u.asked) c.vars x old ≡ []) × (left.rest ≡ []))
      (λ r. passing (checks_of k u.asked) c.vars x old ≡ r ∷ passing (checks_of k u.asked) c.vars x left.rest) in
      let here = comes_first (checks_of k t.asked) c.vars s.document old left.rest next (subst (N t) same (rw (← o.query) found)) in
      let P : ℕ → Type 0 = λ n.
      MatchOption next (drop n (passing (checks_of k t.asked) c.vars s.document old) ≡ [])
      (λ r. drop n (passing (checks_of k t.asked) c.vars s.document old) ≡ r ∷ passing (checks_of k t.asked) c.vars s.document left.rest) in (
        old,
        record {
          kept = record {
            query = o.query;
            growing = rw w.grew (asked_again t.query s.document s.asked c.vars c.growing h o.growing a);
            few = o.few;
            bytes = o.bytes;
            names = o.names;
            tests_known = o.tests_known;
          };
          ready = refl;
          same = refl;
          answers = all_of_them;
          last = rw (← same) (rw (← o.query) last);
          wide = wide;
          next = subst P (sym w.anew) here;
        },
      )

-- rows are given of what was asked for
pub page_given : (k : Known) (old mid new : CodeSession) (most : ℕ) (written : List ℕ) (more : Bool) (s : Session) (all : List SpanRow) → mid.vars ≡ old.vars → IsSessionOver k mid (asking s) all →
    HasGiven k mid new most written more (asking s) all → GivesPage k old new most written more s
page_given k old mid new most written more s all same o h =
    let t = asking s in
    let P : List VarName → Type 0 = λ vs.
    AreResultNames s.query.query vs × AreAnswers s.query.query s.document vs all × (written ≡ compact_text (array (json_rows vs (take most (to_come k t vs all)))))
    × (more ≡ nat_lt most (length (to_come k t vs all))) × IsSessionOver k new (giving (length (take most (to_come k t vs all))) t) all in
    let here : P mid.vars = (o.kept.names, o.answers, h.rows, h.tells, h.now) in
    let (names, answers, shown, tells, now) = subst P same here in
    (all, (names, answers), record { rows = shown; tells = tells; now = now })

-- ---- a document that is read at first

pub bytes_held : (d : List ℕ) → ((i x : ℕ) → i < length d → get_or d i x < 256) → AreBytes d
bytes_held d fits i b is =
    let within = slice_get_within d i b is in
    let small = fits i 0 within in
    omega (arith, small, get_or_from_slice_get d i b 0 is)

module _ (q : QueryTree) (A : Marked) (d : List ℕ) (made : IsCompiled q A) (g : Grown) (fresh : g ≡ at_start A SESSION_TABLE) where
  fresh_read : IsReadOn q [] [] A.names g
  fresh_read = rw fresh (at_first q A made)

  pub start_append : (e : GrowFault) (h : Halt) → h ≡ halt_of e → IsAppendFault g d e → IsStartHalt q d h
  start_append e h is f = subst (IsStartHalt q d) (sym is) (halt_at_first q d A.names g e fresh_read f)

  module _ (more : Grown) (a : IsAppended g d more) where
    whole_read : IsReadOn q d [] A.names more
    whole_read = read_more q [] [] A.names g more fresh_read d a

    pub start_rows : (e : GrowFault) (h : Halt) → h ≡ halt_of e → IsRowsFault more e → IsStartHalt q d h
    start_rows e h is f = subst (IsStartHalt q d) (sym is) (halt_at_rows q d A.names more e whole_read f)

    pub start_held : (asked : Grown) → HasAskedRows more asked → IsReadOn q d (length d ∷ []) A.names asked
    start_held asked b = asked_again q d [] A.names more asked whole_read b

    pub start_answers : (whole rest : List SpanRow) → AreBytes d → AreRowsRead more.automaton more.document whole → rest ≡ whole → AreAnswers q d A.names rest
    start_answers whole rest bytes are same = rw same (rows_are q d [] A.names more more whole_read whole bytes are)

pub start_new : (q : QueryTree) (A : Marked) (d : List ℕ) (e : GrowFault) (h : Halt) → IsCompiled q A → h ≡ halt_of e → IsWeightFault A.graph SESSION_TABLE [] [] e → IsStartHalt q d h
start_new q A d e h made is f = subst (IsStartHalt q d) (sym is) (halt_at_start q A d e made f)
