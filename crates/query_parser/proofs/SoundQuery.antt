-- A query that a text of bytes spells is sound where it passes the checks.
use Rattle.std.proofs.Common.{◌≡◌, ℕ, suc, ◌≤◌, Bool, true, false, List, [], ◌∷◌, length, Some, slice_get, ap, refl, sym, subst, arith, inl, inr}
use Rattle.span_core.specs.declared.TheConstants.{MOST_VARIABLES}
use Rattle.span_core.specs.Lists.{Has, AtMost}
use Rattle.spanner_model.specs.Captures.{VarName}
use Rattle.spanner_model.specs.Expression.{ExprTree, QueryTree}
use Rattle.spanner_model.specs.Answer.{vars_of_lets}
use Rattle.spanner_model.specs.Sound.{IsSound, IsFreeName, NameOf, expr_nesting, sure_of_lets}
use Rattle.formula_parser.proofs.BuiltLaws.{IsText}
use Rattle.formula_parser.proofs.AtomLaws.{atom_built}
use Rattle.query_parser.specs.Tokens.{Token, TokenAt, atom_at, word_at, sign_at, HasTokens, text_ends, blank_first, token_first}
use Rattle.query_parser.specs.Minuses.{minuses_in}
use Rattle.query_parser.specs.Spells.{names_of, union_tree, Spells}
use Rattle.query_parser.specs.Formed.{IsFormed, IsFormedQuery, PassesQuery}
use Rattle.query_parser.proofs.StepLaws.{IsSign, is_equals, is_semicolon, is_open, is_close, is_comma, sign_is}
use Rattle.query_parser.proofs.TextLaws.{word_by}
use Rattle.query_parser.proofs.FormedLaws.{AtomsBuilt, built_split, formed_whole, formed_lets}
use Rattle.query_parser.proofs.MoveLaws.{names_len}
use Rattle.query_parser.proofs.SoundLaws.{sound_expr}
use Rattle.query_parser.proofs.SpelledMoves.{reads_lets}

-- a word, or a sign, is no atom
built_word : (a b d e f : Bool) (x : List ℕ) (ts : List Token) → AtomsBuilt ts → AtomsBuilt (word_by a b d e f x ∷ ts)
built_word true b d e f x ts h = h
built_word false true d e f x ts h = h
built_word false false true e f x ts h = h
built_word false false false true f x ts h = h
built_word false false false false true x ts h = h
built_word false false false false false x ts h = h

built_sign : {c : ℕ} {t : Token} → IsSign c t → (ts : List Token) → AtomsBuilt ts → AtomsBuilt (t ∷ ts)
built_sign is_equals ts h = h
built_sign is_semicolon ts h = h
built_sign is_open ts h = h
built_sign is_close ts h = h
built_sign is_comma ts h = h

built_token : {text : List ℕ} {p q : ℕ} {t : Token} → TokenAt text p t q → IsText text → (ts : List Token) → AtomsBuilt ts → AtomsBuilt (t ∷ ts)
built_token {text = text} {p = p} (atom_at {a = a} {q = q} at found) bytes ts h = (atom_built text p (a, q) found bytes, h)
built_token (word_at x {t = t} at is) bytes ts h = rw (← is) (built_word _ _ _ _ _ x ts h)
built_token (sign_at {c = c} {t = t} at is) bytes ts h = built_sign (sign_is c t is) ts h

pub built_tokens : {text : List ℕ} {p : ℕ} {ts : List Token} → HasTokens text p ts → IsText text → AtomsBuilt ts
built_tokens (text_ends is) bytes = tt
built_tokens (blank_first at ts) bytes = built_tokens ts bytes
built_tokens (token_first {ts = ts} at others) bytes = built_token at bytes ts (built_tokens others bytes)

names_place : (lets : List (VarName × ExprTree)) (x : VarName) → Has (names_of lets) x → (k : ℕ) × (l : VarName × ExprTree) × (slice_get lets k ≡ Some l) × (l.0 ≡ x)
names_place [] x h = absurd h
names_place (l ∷ lets) x (inl e) = (0, l, refl, e)
names_place (l ∷ lets) x (inr h) = let (k, m, at, e) = names_place lets x h in (suc k, m, at, e)

pub formed_query : (ts : List Token) (q : QueryTree) → AtomsBuilt ts → Spells ts q → IsFormedQuery q
formed_query ts q atoms (t, u, es, splits, s, e, body, small) =
    let built = built_split t u (subst AtomsBuilt splits atoms) in
    let whole = formed_whole e built.1 (omega (arith, small, ap minuses_in body)) in
    (λ k l is. (formed_lets s built.0 (omega (arith, small)) k l is).0, subst (IsFormed (length q.lets)) (sym body) (rw (← names_len q.lets) whole.0))

pub query_formed : (text : List ℕ) (ts : List Token) (q : QueryTree) → IsText text → HasTokens text 0 ts → Spells ts q → IsFormedQuery q
query_formed text ts q bytes has spells = formed_query ts q (built_tokens has bytes) spells

-- what passes the checks is sound
pub passed_query : (ts : List Token) (q : QueryTree) → AtomsBuilt ts → Spells ts q → PassesQuery q → AtMost MOST_VARIABLES (NameOf q) → IsSound q
passed_query ts q atoms (t, u, es, splits, s, e, body, small) passes few =
    let built = built_split t u (subst AtomsBuilt splits atoms) in
    let whole = formed_whole e built.1 (omega (arith, small, ap minuses_in body)) in
    let lets = formed_lets s built.0 (omega (arith, small)) in
    let n = length q.lets in
    let formed : IsFormed n q.body = subst (IsFormed n) (sym body) (rw (← names_len q.lets) whole.0) in
    record {
      sound_lets = λ k l is. let f = lets k l is in (sound_expr (vars_of_lets q.lets k) (sure_of_lets q.lets k) k l.1 f.0 (passes.0 k l is), f.1);
      sound_body = (sound_expr (vars_of_lets q.lets n) (sure_of_lets q.lets n) n q.body formed passes.1, rw body whole.1);
      distinct = (reads_lets s (omega (arith, small))).1.0;
      free = λ x h. let (k, l, at, is) = names_place q.lets x h in subst IsFreeName is (lets k l at).2;
      few = few;
    }

pub sound_query : (text : List ℕ) (ts : List Token) (q : QueryTree) → IsText text → HasTokens text 0 ts → Spells ts q → PassesQuery q → AtMost MOST_VARIABLES (NameOf q) → IsSound q
sound_query text ts q bytes has spells passes few = passed_query ts q (built_tokens has bytes) spells passes few
