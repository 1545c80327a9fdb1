-- Faults are what reading answers, both ways.
use Rattle.std.proofs.Common.{◌≡◌, inl, inr, ℕ, zero, suc, ◌+◌, Bool, true, false, List, [], ◌∷◌, length, drop, Option, Some, None, Result, Ok, Err, ap, refl, sym, subst, ◌∙◌, if◌then◌else◌}
use Rattle.spanner_model.specs.Captures.{VarName}
use Rattle.spanner_model.specs.Expression.{QueryTree, ExprTree, atom}
use Rattle.formula_parser.specs.Runs.{StandsAt}
use Rattle.query_parser.specs.declared.fault.QueryFault.{QueryFault}
use Rattle.query_parser.specs.declared.fault.QueryFault.TheVariants.{Formula, Unexpected}
use Rattle.query_parser.specs.Tokens.{Token, word_token, TokenAt, atom_at, word_at, sign_at}
use Rattle.query_parser.specs.Reads.{Reading, Refusal, unexpected, next, is_whole, ReadsQuery, start_read, blank_read, token_read}
use Rattle.query_parser.specs.Reads as reads
use Rattle.query_parser.specs.Faults.{refused, IsReadFault, bad_atom, atom_out_of_place, token_refused, no_token, not_whole, KeepsTooMany}
use Rattle.query_parser.specs.Nest.{Nest, Move, Body, Last, Frame, at_start, at_unit, unit, move, mark_of, reading_of, outermost, wants_unit, whole_query, ends_body, with_unit}
use Rattle.query_parser.specs.Step.{reads_atom, stops, moved, ends, step, EndsAfter, EndsReading}
use Rattle.query_parser.specs.Step as code
use Rattle.query_parser.proofs.MoveLaws.{seen, shape}
use Rattle.query_parser.proofs.TextLaws.{Answer, at_end}
use Rattle.query_parser.proofs.TokensSpelled.{whole_many}
use Rattle.query_parser.proofs.StepLaws.{Front, blank, slash, starts, sign, stray, front_of, slashes, blank_step, word_step, sign_step, stray_step, ends_more, at_blank, Steps, by_atom, by_move, token_steps, wanted, token_ends, Went, went_blank, went_token, went, atom_due, word_here}

wants_same : (l : Last) → wants_unit l ≡ reads.wants_unit (mark_of l)
wants_same at_start = refl
wants_same at_unit = refl
wants_same l = refl

wants_of : (n : Nest) (r : Reading) → reading_of n ≡ r → wants_unit n.last ≡ reads.wants_unit r.mark
wants_of n r e = wants_same n.last ∙ ap (λ (s : Reading). reads.wants_unit s.mark) e

-- a query that is whole by what was read is one
abbrev pub is_found : Option Body → Bool
is_found None = false
is_found (Some b) = true

whole_at : (lets : List (VarName × ExprTree)) (many : Bool) (top : Frame) (below : List Frame) (current : Option VarName) (last : Last) →
    is_found (ends_body lets many top below current last) ≡ reads.ends_body (mark_of last) (length below) current
whole_at lets many top [] None (unit e) = refl
whole_at lets many top [] None last = refl
whole_at lets many top [] (Some x) (unit e) = refl
whole_at lets many top [] (Some x) last = refl
whole_at lets many top (f ∷ below) current (unit e) = refl
whole_at lets many top (f ∷ below) current last = refl

pub whole_of : (n : Nest) (r : Reading) → reading_of n ≡ r → is_found (whole_query n) ≡ is_whole r
whole_of n r e = whole_at n.lets n.many n.top n.below n.current n.last ∙ ap is_whole e

next_of : (n : Nest) (r : Reading) (t : Token) → reading_of n ≡ r → seen (move t n) ≡ next r.mark r t
next_of n r t e = shape t n ∙ ap (λ (s : Reading). next s.mark s t) e

-- what was read leaves a nest, and the reading goes on from there
abbrev pub Reached : List ℕ → ℕ → Reading → Type 0
Reached text p r = (n : Nest) × (reading_of n ≡ r) × ((s : Answer) → EndsReading text p n s → EndsReading text 0 outermost s)

pub reached : {text : List ℕ} {p : ℕ} {r : Reading} → ReadsQuery text p r → Reached text p r
reached start_read = (outermost, refl, λ s e. e)
reached {text = text} (blank_read {p = p} d at) =
    let (n, e, go) = reached d in (n, e, λ s x. go s (ends_more text p 1 n n s (at_blank text p n at) x))
reached {text = text} (token_read {p = p} {q = q} {r = r} {s = s} {t = t} d at is) =
    let (n, e, go) = reached d in by n go (move t n) refl (next_of n r t e ∙ is)
  where
    by : (n : Nest) → ((a : Answer) → EndsReading text p n a → EndsReading text 0 outermost a) → (found : Move) → move t n ≡ found → seen found ≡ Ok s →
        (m : Nest) × (reading_of m ≡ s) × ((a : Answer) → EndsReading text q m a → EndsReading text 0 outermost a)
    by n go (Ok m) f same = let here : reading_of m ≡ s = cc in (m, here, λ a x. go a (token_ends text p q t n m a at f x))
    by n go (Err why) f same = absurd (cc)

-- the fault of a token that may not come next
refusal_step : {text : List ℕ} {p q : ℕ} {t : Token} (n : Nest) (why : Refusal) → Steps text p t q → seen (move t n) ≡ Err why → step p (drop p text) n ≡ stops (Err (refused why p))
refusal_step {text = text} {p = p} n why (by_atom {a = a} does found) e = does n ∙ by (wants_unit n.last) refl e
  where
    by : (b : Bool) → wants_unit n.last ≡ b →
        ◌≡◌ {A = Result Reading Refusal} (seen (if b then Ok (with_unit (atom a) n) else Err unexpected)) (Err why) →
        slashes p n ≡ stops (Err (refused why p))
    by true w e = absurd (cc)
    by false w e =
        let same : unexpected ≡ why = cc in
        ap (λ b. if b then reads_atom else stops (Err (Unexpected p))) w ∙ ap (λ y. stops (Err (refused y p))) same
refusal_step {text = text} {p = p} n why (by_move {t = t} len does) e = does n ∙ by (move t n) e
  where
    by : (found : Move) → seen found ≡ Err why → moved p len found ≡ stops (Err (refused why p))
    by (Ok m) e = absurd (cc)
    by (Err w) e = let same : w ≡ why = cc in ap (λ y. stops (Err (refused y p))) same

not_found : (n : Nest) → is_found (whole_query n) ≡ false → whole_query n ≡ None
not_found n e = by (whole_query n) refl e
  where
    by : (found : Option Body) → whole_query n ≡ found → is_found found ≡ false → whole_query n ≡ None
    by None f e = f
    by (Some b) f e = absurd (cc)

pub fault_ends : {text : List ℕ} {e : QueryFault} → IsReadFault text e → EndsReading text 0 outermost (Err e)
fault_ends {text = text} (bad_atom {p = p} {r = r} {e = e} d (rest, stands) w fault) =
    let (n, same, go) = reached d in
    go (Err (Formula e)) (zero, inr (ap (λ t. step p t n) stands ∙ wanted p n (wants_of n r same ∙ w), (e, fault, refl)))
fault_ends {text = text} (atom_out_of_place {p = p} {r = r} d (rest, stands) w) =
    let (n, same, go) = reached d in
    go (Err (Unexpected p)) (zero, inl (ap (λ t. step p t n) stands ∙ ap (λ b. if b then reads_atom else stops (Err (Unexpected p))) (wants_of n r same ∙ w)))
fault_ends {text = text} (token_refused {p = p} {r = r} {t = t} {why = why} d at is) =
    let (n, same, go) = reached d in
    go (Err (refused why p)) (zero, inl (refusal_step n why (token_steps at) (next_of n r t same ∙ is)))
fault_ends {text = text} (no_token {p = p} {c = c} d (rest, stands) is) =
    let (n, same, go) = reached d in go (Err (Unexpected p)) (zero, inl (ap (λ t. step p t n) stands ∙ stray_step p c rest n is))
fault_ends {text = text} (not_whole {p = p} {r = r} d here w) =
    let (n, same, go) = reached d in
    go (Err (Unexpected p)) (zero, inl (ap (λ t. step p t n) here ∙ ap (ends p) (not_found n (whole_of n r same ∙ w))))

-- the fault of a step
stop_fault : {text : List ℕ} {p : ℕ} (n : Nest) (e : QueryFault) → ReadsQuery text p (reading_of n) → step p (drop p text) n ≡ stops (Err e) → IsReadFault text e
stop_fault {text = text} {p = p} n e d is = by (drop p text) refl is
  where
    found_not : (found : Option Body) → whole_query n ≡ found → drop p text ≡ [] → ends p found ≡ stops (Err e) → IsReadFault text e
    found_not None f here is = let same : Unexpected p ≡ e = cc in subst (IsReadFault text) same (not_whole d here (sym (whole_of n (reading_of n) refl) ∙ ap is_found f))
    found_not (Some b) f here is = absurd (cc)

    not_due : (b : Bool) → wants_unit n.last ≡ b → StandsAt text p (47 ∷ []) → (if b then reads_atom else stops (Err (Unexpected p))) ≡ stops (Err e) → IsReadFault text e
    not_due true w at is = absurd (cc)
    not_due false w at is = let same : Unexpected p ≡ e = cc in subst (IsReadFault text) same (atom_out_of_place d at (sym (wants_same n.last) ∙ w))

    refusal : (len : ℕ) (t : Token) (found : Move) → move t n ≡ found → TokenAt text p t (p + len) → moved p len found ≡ stops (Err e) → IsReadFault text e
    refusal len t (Ok m) f at is = absurd (cc)
    refusal len t (Err why) f at is =
        let same : refused why p ≡ e = cc in subst (IsReadFault text) same (token_refused d at (sym (shape t n) ∙ ap seen f))

    by_front : {c : ℕ} → Front c → (s : List ℕ) → drop p text ≡ c ∷ s → step p (c ∷ s) n ≡ stops (Err e) → IsReadFault text e
    by_front (blank {c = c} b) s here is = let f = sym (blank_step p c s n b) ∙ is in absurd (cc)
    by_front slash s here is = not_due (wants_unit n.last) refl (s, here) is
    by_front (starts {c = c} w) s here is =
        let x = code.word_at (c ∷ s) in
        refusal (length x) (word_token x) (move (word_token x) n) refl (word_at x (word_here text p c s here w) refl) (sym (word_step p c s n w) ∙ is)
    by_front (sign {c = c} {t = t} g) s here is = refusal 1 t (move t n) refl (sign_at (s, here) g) (sym (sign_step p c s t n g) ∙ is)
    by_front (stray {c = c} g) s here is =
        let f = sym (stray_step p c s n g) ∙ is in
        let same : Unexpected p ≡ e = cc in subst (IsReadFault text) same (no_token d (s, here) g)

    by : (rest : List ℕ) → drop p text ≡ rest → step p rest n ≡ stops (Err e) → IsReadFault text e
    by [] here is = found_not (whole_query n) refl here is
    by (c ∷ s) here is = by_front (front_of c) s here is

next_read : {text : List ℕ} {p q : ℕ} {t : Token} (n m : Nest) → ReadsQuery text p (reading_of n) → TokenAt text p t q → move t n ≡ Ok m → ReadsQuery text q (reading_of m)
next_read {t = t} n m d at is = token_read d at (sym (shape t n) ∙ ap seen is)

went_read : {text : List ℕ} {p len : ℕ} {n m : Nest} → ReadsQuery text p (reading_of n) → Went text p n len m → ReadsQuery text (p + len) (reading_of m)
went_read d (went_blank at) = blank_read d at
went_read {n = n} {m = m} d (went_token t at is) = next_read n m d at is

pub ends_fault : (steps : ℕ) (text : List ℕ) (p : ℕ) (n : Nest) (e : QueryFault) → ReadsQuery text p (reading_of n) → EndsAfter steps text p n (Err e) → IsReadFault text e
ends_fault zero text p n e d (inl is) = stop_fault n e d is
ends_fault zero text p n e d (inr (is, (f, fault, same))) =
    let (at, w) = atom_due text p n is in
    let this : Formula f ≡ e = cc in subst (IsReadFault text) this (bad_atom d at (sym (wants_same n.last) ∙ w) fault)
ends_fault (suc steps) text p n e d (inl (len, m, is, rest)) = ends_fault steps text (p + len) m e (went_read d (went text p n m len is)) rest
ends_fault (suc steps) text p n e d (inr (is, (a, q, m, found, moves, rest))) =
    ends_fault steps text q m e (next_read n m d (atom_at (atom_due text p n is).0 found) moves) rest

-- what was read where a query ends
pub ends_whole : (steps : ℕ) (text : List ℕ) (p : ℕ) (n : Nest) (b : Body) → ReadsQuery text p (reading_of n) → EndsAfter steps text p n (Ok b) →
    (q : ℕ) × (r : Reading) × ReadsQuery text q r × (drop q text ≡ []) × (is_whole r ≡ true) × (r.many ≡ b.1)
ends_whole zero text p n b d (inl is) =
    let (here, found) = at_end text p n b is in
    (p, reading_of n, d, here, sym (whole_of n (reading_of n) refl) ∙ ap is_found found, sym (whole_many n.lets n.many n.top n.below n.current n.last b found))
ends_whole zero text p n b d (inr (is, (f, fault, same))) = absurd (cc)
ends_whole (suc steps) text p n b d (inl (len, m, is, rest)) = ends_whole steps text (p + len) m b (went_read d (went text p n m len is)) rest
ends_whole (suc steps) text p n b d (inr (is, (a, q, m, found, moves, rest))) =
    ends_whole steps text q m b (next_read n m d (atom_at (atom_due text p n is).0 found) moves) rest

-- a text whose projections keep too many names is read so, and the other way round
pub kept_ends : (text : List ℕ) → KeepsTooMany text → (q : QueryTree) × EndsReading text 0 outermost (Ok (q, true))
kept_ends text (p, r, d, here, w, many) =
    let (n, same, go) = reached d in by n go (whole_query n) refl (whole_of n r same ∙ w) (ap (λ (s : Reading). s.many) same ∙ many)
  where
    by : (n : Nest) → ((s : Answer) → EndsReading text p n s → EndsReading text 0 outermost s) → (found : Option Body) → whole_query n ≡ found → is_found found ≡ true → n.many ≡ true →
        (q : QueryTree) × EndsReading text 0 outermost (Ok (q, true))
    by n go None f e h = absurd (cc)
    by n go (Some b) f e h =
        let is : b.1 ≡ true = whole_many n.lets n.many n.top n.below n.current n.last b f ∙ h in
        (b.0, go (Ok (b.0, true)) (zero, inl (ap (λ t. step p t n) here ∙ ap (ends p) f ∙ ap (λ c. stops (Ok (b.0, c))) is)))

pub ends_kept : (text : List ℕ) (q : QueryTree) → EndsReading text 0 outermost (Ok (q, true)) → KeepsTooMany text
ends_kept text q (steps, e) = ends_whole steps text 0 outermost (q, true) start_read e
