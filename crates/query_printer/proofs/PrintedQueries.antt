-- The printed form of a query spells it: its lets, one after another, and its body.
use Rattle.std.proofs.Common.{◌≡◌, ℕ, zero, suc, ◌<◌, ◌≤◌, List, [], ◌∷◌, ◌++◌, length, Some, Result, Ok, Err, refl, sym, subst, ◌∙◌, arith, append_assoc, inl, inr}
use Rattle.std.specs.Prelude.{codes, slice_get}
use Rattle.std.specs.Result.{OnOk}
use Rattle.std.proofs.lemmas.List.{append-nil}
use Rattle.spanner_model.specs.Captures.{VarName}
use Rattle.span_core.specs.Lists.{Has, AreDistinct}
use Rattle.spanner_model.specs.Sound.{IsFreeName, IsSound}
use Rattle.spanner_model.specs.Expression.{ExprTree, QueryTree}
use Rattle.query_parser.specs.declared.TheConstants.{MOST_OPEN, MOST_TEXT_BYTES}
use Rattle.query_parser.specs.Faults.{IsQueryText}
use Rattle.query_parser.specs.Tokens.{Token, let_word, name_token, equals, semicolon, HasTokens}
use Rattle.query_parser.specs.Spells.{union_tree, SpellsExpr, names_of, SpellsLets, no_let, more_lets, Spells}
use Rattle.query_printer.specs.PrintedQuery.{shape, printed, let_text, lets_text, query_text, IsShallow, IsShallowQuery}
use Rattle.query_parser.specs.Formed.{IsFormed}
use Rattle.query_printer.specs.QueryLaws.{QueriesSpell, QueriesAreRead}
use Rattle.query_printer.proofs.SoundFormed.{query_is_formed}
use Rattle.query_printer.proofs.PrintedTokens.{LexedAlways, Lexes, lexed_both, lexed_name, lexed_let, lexed_equals, lexed_semicolon, lexed_whole}
use Rattle.query_printer.proofs.PrintedSpelled.{spelled, forms_expr}

abbrev Lets : Type 0
Lets = List (VarName × ExprTree)

-- ---- names of lets, and of more lets

told_at : (done more : Lets) (k : ℕ) → k < length done →
    (x : VarName) × (slice_get (names_of done) k ≡ Some x) × (slice_get (names_of (done ++ more)) k ≡ Some x) × Has (names_of (done ++ more)) x
told_at [] more k h = absurd (omega (arith, h))
told_at (l ∷ done) more zero h = (l.0, refl, refl, inl refl)
told_at (l ∷ done) more (suc k) h = let (x, a, b, has) = told_at done more k (omega (arith, h)) in (x, a, b, inr has)

get_there : (done : Lets) (l : VarName × ExprTree) (more : Lets) → slice_get (done ++ l ∷ more) (length done) ≡ Some l
get_there [] l more = refl
get_there (m ∷ done) l more = get_there done l more

has_there : (done : Lets) (l : VarName × ExprTree) (more : Lets) → Has (names_of (done ++ l ∷ more)) l.0
has_there [] l more = inl refl
has_there (m ∷ done) l more = inr (has_there done l more)

new_name : (done : Lets) (l : VarName × ExprTree) (more : Lets) → AreDistinct (names_of (done ++ l ∷ more)) → Has (names_of done) l.0 → ⊥
new_name [] l more distinct h = h
new_name (m ∷ done) l more distinct (inl e) = distinct.0 (subst (Has (names_of (done ++ l ∷ more))) (sym e) (has_there done l more))
new_name (m ∷ done) l more distinct (inr h) = new_name done l more distinct.1 h

-- ---- one let

-- the text of an expression, under these names
abbrev ExprText : List VarName → List ℕ → ExprTree → Type 0
ExprText names v e = (us : List Token) × (es : List ExprTree) × Lexes v us × SpellsExpr names MOST_OPEN us es × (union_tree es ≡ e)

expr_text : (done more whole : Lets) → done ++ more ≡ whole → ((x : VarName) → Has (names_of whole) x → IsFreeName x) → (e : ExprTree) → IsFormed (length done) e → IsShallow e →
    ExprText (names_of done) (printed (names_of whole) e) e
expr_text done more whole same free e formed shallow =
    forms_expr names known n told MOST_OPEN (printed names e) e (shape e) (spelled names known n told e formed shallow.1 MOST_OPEN shallow.0)
  where
    names : List VarName
    names = names_of whole

    known : List VarName
    known = names_of done

    n : ℕ
    n = length done

    told : (k : ℕ) → k < n → (x : VarName) × (slice_get known k ≡ Some x) × (slice_get names k ≡ Some x) × IsFreeName x
    told k within =
        let (x, a, b, has) = told_at done more k within in
        (x, a, rw (← same) b, free x (rw (← same) has))

let_lexed : (x : VarName) (v : List ℕ) (us : List Token) → IsFreeName x → Lexes v us →
    LexedAlways (codes "let " ++ (x ++ (codes " = " ++ (v ++ codes "; ")))) (let_word ∷ name_token x ∷ equals ∷ (us ++ semicolon ∷ []))
let_lexed x v us free lexes after =
    lexed_both (codes "let ") (x ++ (codes " = " ++ (v ++ codes "; "))) (let_word ∷ []) (name_token x ∷ equals ∷ (us ++ semicolon ∷ [])) after (lexed_let _)
    (lexed_both x (codes " = " ++ (v ++ codes "; ")) (name_token x ∷ []) (equals ∷ (us ++ semicolon ∷ [])) after (lexed_name x _ free refl)
    (lexed_both (codes " = ") (v ++ codes "; ") (equals ∷ []) (us ++ semicolon ∷ []) after (lexed_equals _)
    (lexed_both v (codes "; ") us (semicolon ∷ []) after (lexes (codes "; " ++ after) refl) (lexed_semicolon after))))

-- ---- the lets

abbrev LetsText : List ℕ → Lets → Type 0
LetsText u done = (ts : List Token) × LexedAlways u ts × SpellsLets ts done

next_let : (names : List VarName) (u : List ℕ) (done : Lets) (l : VarName × ExprTree) → LetsText u done → IsFreeName l.0 →
    (Has (names_of done) l.0 → ⊥) → ExprText (names_of done) (printed names l.1) l.1 →
    LetsText (u ++ let_text names l) (done ++ l ∷ [])
next_let names u done l (ts, lexed, s) free new (us, es, lexes, x, is) =
    let more = let_word ∷ name_token l.0 ∷ equals ∷ (us ++ semicolon ∷ []) in (
      ts ++ more,
      (λ after. lexed_both u (let_text names l) ts more after (lexed (let_text names l ++ after)) (let_lexed l.0 (printed names l.1) us free lexes after)),
      rw (← is) (more_lets s free new x),
    )

lets_spelled : (q : QueryTree) → IsSound q → IsShallowQuery q → (more done : Lets) → done ++ more ≡ q.lets → (u : List ℕ) → LetsText u done →
    LetsText (u ++ lets_text (names_of q.lets) more) q.lets
lets_spelled q sound shallow [] done same u (ts, lexed, s) =
    (ts, rw (append-nil u) lexed, subst (SpellsLets ts) (sym (append-nil done) ∙ same) s)
lets_spelled q sound shallow (l ∷ more) done same u before =
    let names = names_of q.lets in
    let at : slice_get q.lets (length done) ≡ Some l = rw (← same) (get_there done l more) in
    let free : IsFreeName l.0 = sound.free l.0 (rw (← same) (has_there done l more)) in
    let new = new_name done l more (rw same sound.distinct) in
    let here = expr_text done (l ∷ more) q.lets same sound.free l.1 ((query_is_formed q sound).0 (length done) l at) (shallow.0 (length done) l at) in
    let rest = lets_spelled q sound shallow more (done ++ l ∷ []) (append_assoc done (l ∷ []) more ∙ same) (u ++ let_text names l) (next_let names u done l before free new here) in
    (rest.0, rw (← append_assoc u (let_text names l) (lets_text names more)) rest.1, rest.2)

pub nothing_lexed : LexedAlways [] []
nothing_lexed after text p more is has = subst (λ (k : ℕ). HasTokens text k more) (omega arith) has

-- ---- a query

pub query_lexes : (q : QueryTree) → IsSound q → IsShallowQuery q → (ts : List Token) × Lexes (query_text q) ts × Spells ts q
query_lexes q sound shallow =
    let names = names_of q.lets in
    let (ts, lexed, lets) = lets_spelled q sound shallow q.lets [] refl [] ([], nothing_lexed, no_let) in
    let (us, es, lexes, body, is) = expr_text q.lets [] q.lets (append-nil q.lets) sound.free q.body (query_is_formed q sound).1 shallow.1 in (
      ts ++ us,
      (λ after stops. lexed_both (lets_text names q.lets) (printed names q.body) ts us after (lexed (printed names q.body ++ after)) (lexes after stops)),
      (ts, us, es, refl, lets, body, sym is, shallow.2),
    )

pub query_spelled : QueriesSpell
query_spelled q sound shallow = let (ts, lexes, spells) = query_lexes q sound shallow in (ts, lexed_whole (query_text q) ts lexes, spells)

pub query_read : QueriesAreRead
query_read q sound shallow short = (short, query_spelled q sound shallow, sound)

-- what was printed is a text of the query, within the limits
pub printed_again : {T E : Type 0} (r : Result T E) (q : QueryTree) → IsSound q →
    OnOk r (IsShallowQuery q → length (query_text q) ≤ MOST_TEXT_BYTES → IsQueryText (query_text q) q)
printed_again (Ok done) q sound = query_read q sound
printed_again (Err failed) q sound = tt
