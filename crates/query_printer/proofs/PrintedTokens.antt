-- The tokens of printed forms.
use Rattle.std.proofs.Common.{◌≡◌, ℕ, ◌+◌, ◌≤◌, true, false, ◌&&◌, nat_lt, List, [], ◌∷◌, ◌++◌, length, drop, IsTrue, Some, ap, refl, sym, subst, ◌∙◌, arith, append_assoc, length-append, inl, inr}
use Rattle.std.specs.Prelude.{codes, not, ◌==◌, ◌⊎◌}
use Rattle.std.specs.List.{list_all}
use Rattle.std.specs.Str.{bytes_eq}
use Rattle.std.proofs.lemmas.List.{append-nil, drop_all}
use Rattle.std.proofs.lemmas.Bool.{and_parts, true≢false}
use Rattle.std.proofs.lemmas.Bool.Decides.{eqb_tells}
use Rattle.span_core.specs.declared.TheConstants.{MOST_NAME_BYTES}
use Rattle.span_core.specs.Names.{is_name, is_name_start, is_name_byte}
use Rattle.spanner_model.specs.Captures.{VarName}
use Rattle.span_core.specs.Lists.{Has}
use Rattle.span_core.proofs.NameSetLaws.{names_differ}
use Rattle.spanner_model.specs.Sound.{words, IsFreeName}
use Rattle.spanner_model.specs.WellBuilt.{IsWellBuilt}
use Rattle.spanner_model.specs.Expression.{AtomTree}
use Rattle.formula_parser.specs.Names.{is_word}
use Rattle.formula_parser.specs.Runs.{begins}
use Rattle.formula_parser.specs.Alphabet.{of_bytes}
use Rattle.formula_parser.specs.Signs.{HasNoSign, is_sign}
use Rattle.formula_parser.specs.Spells.{over_bytes}
use Rattle.formula_parser.proofs.AtomLaws.{spelled_inside}
use Rattle.formula_parser.proofs.SignLaws.{one_inside}
use Rattle.query_printer.specs.PrintedFormula.{tied_text, atom_text}
use Rattle.query_printer.specs.PrintedFormula as formulas
use Rattle.formula_parser.proofs.ClassTexts.{drop_token}
use Rattle.query_printer.proofs.PrintLaws.{printed_spells}
use Rattle.query_parser.specs.Tokens.{Token, atom_token, let_word, union_word, join_word, project_word, none_word, name_token, equals, semicolon, open_paren, close_paren, comma, minus_word, word_token, sign_token, is_blank, atom_at, word_at, sign_at, HasTokens, text_ends, blank_first, token_first}
use Rattle.query_parser.specs.Tested.{where_word}
use Rattle.query_parser.proofs.TextLaws.{word_by}

-- wherever u stands before this text, it has these tokens
abbrev pub Lexed : List ℕ → List Token → List ℕ → Type 0
Lexed u ts after = (text : List ℕ) (p : ℕ) (more : List Token) → drop p text ≡ u ++ after → HasTokens text (p + length u) more → HasTokens text p (ts ++ more)

-- before each text
abbrev pub LexedAlways : List ℕ → List Token → Type 0
LexedAlways u ts = (after : List ℕ) → Lexed u ts after

-- before each text that does not go on with a byte of a name
abbrev pub Lexes : List ℕ → List Token → Type 0
Lexes u ts = (after : List ℕ) → begins is_name_byte after ≡ false → Lexed u ts after

-- one after the other
pub lexed_both : (u v : List ℕ) (ts us : List Token) (after : List ℕ) → Lexed u ts (v ++ after) → Lexed v us after → Lexed (u ++ v) (ts ++ us) after
lexed_both u v ts us after first second text p more is has =
    let here : drop p text ≡ u ++ (v ++ after) = is ∙ append_assoc u v after in
    let end : p + length (u ++ v) ≡ (p + length u) + length v = omega (arith, length-append u v) in
    subst (HasTokens text p) (sym (append_assoc ts us more))
    (first text p (us ++ more) here (second text (p + length u) more (drop_token text p u (v ++ after) here) (rw (← end) has)))

-- ---- one token

pub lexed_blank : (c : ℕ) (after : List ℕ) → is_blank c ≡ true → Lexed (c ∷ []) [] after
lexed_blank c after b text p more is has = blank_first (c, (after, is), b) has

pub lexed_sign : (c : ℕ) (t : Token) (after : List ℕ) → sign_token c ≡ Some t → Lexed (c ∷ []) (t ∷ []) after
lexed_sign c t after e text p more is has = token_first (sign_at (after, is) e) has

pub lexed_word : (x : List ℕ) (t : Token) (after : List ℕ) → IsTrue (is_word x) → word_token x ≡ t → begins is_name_byte after ≡ false → Lexed x (t ∷ []) after
lexed_word x t after w e stops text p more is has = token_first (word_at x (after, is, w, stops) e) has

-- what no byte of a name begins is not the sign
unsigned : (after : List ℕ) → begins is_name_byte after ≡ false → is_sign after ≡ false
unsigned [] stops = refl
unsigned (c ∷ t) stops = by (eqb_tells c 117)
  where
    by : (((c == 117) ≡ true) × (c ≡ 117)) ⊎ (((c == 117) ≡ false) × ((c ≡ 117) → ⊥)) → is_sign (c ∷ t) ≡ false
    by (inl is) = absurd (true≢false (rw is.1 at stops))
    by (inr is) = ap (λ x. x && not (begins is_name_byte t)) is.0

pub lexed_atom : (a : AtomTree) (after : List ℕ) → begins is_name_byte after ≡ false → IsWellBuilt a.formula → formulas.most_open a.formula ≤ 100 → Lexed (atom_text a) (atom_token a ∷ []) after
lexed_atom a after stops built few text p more is has =
    let u = tied_text a in
    let inner : drop (p + 1) text ≡ u ++ 47 ∷ after = drop_token text p (47 ∷ []) ((u ++ 47 ∷ []) ++ after) is ∙ append_assoc u (47 ∷ []) after in
    let long : p + length (atom_text a) ≡ p + 1 + length u + 1 = omega (arith, length-append u (47 ∷ [])) in
    let spells = printed_spells a after built few in
    let none : HasNoSign text p = λ w v closed. (let same = one_inside closed.0 (spelled_inside of_bytes u a after spells) v after (sym closed.1 ∙
    inner) in ap is_sign same.1 ∙ unsigned after stops) in
    token_first (atom_at ((u ++ 47 ∷ []) ++ after, is) (over_bytes none (u, after, inner, spells, long))) has

-- ---- names

name_word : (x : VarName) → IsTrue (is_name x) → IsTrue (is_word x)
name_word [] h = h
name_word (c ∷ x) h = (and_parts (nat_lt (length x) MOST_NAME_BYTES) (is_name_start c && list_all is_name_byte x) h).1

name_is_token : (x : VarName) → (Has words x → ⊥) → word_token x ≡ name_token x
name_is_token x free =
    let a = names_differ x (codes "let") (λ e. free (inl (sym e))) in
    let b = names_differ x (codes "union") (λ e. free (inr (inl (sym e)))) in
    let d = names_differ x (codes "join") (λ e. free (inr (inr (inl (sym e))))) in
    let e = names_differ x (codes "project") (λ e. free (inr (inr (inr (inl (sym e)))))) in
    let f = names_differ x (codes "none") (λ e. free (inr (inr (inr (inr (inl (sym e))))))) in
    ap (λ v. word_by v (bytes_eq x (codes "union")) (bytes_eq x (codes "join")) (bytes_eq x (codes "project")) (bytes_eq x (codes "none")) x) a
    ∙ ap (λ v. word_by false v (bytes_eq x (codes "join")) (bytes_eq x (codes "project")) (bytes_eq x (codes "none")) x) b
    ∙ ap (λ v. word_by false false v (bytes_eq x (codes "project")) (bytes_eq x (codes "none")) x) d
    ∙ ap (λ v. word_by false false false v (bytes_eq x (codes "none")) x) e
    ∙ ap (λ v. word_by false false false false v x) f

pub lexed_name : (x : VarName) (after : List ℕ) → IsFreeName x → begins is_name_byte after ≡ false → Lexed x (name_token x ∷ []) after
lexed_name x after free stops = lexed_word x (name_token x) after (name_word x free.0) (name_is_token x free.1) stops

-- ---- words of queries and the blanks around them

pub lexed_none : Lexes (codes "none") (none_word ∷ [])
lexed_none after stops = lexed_word (codes "none") none_word after refl refl stops

-- a word and a blank
word_blank : (x : List ℕ) (t : Token) → IsTrue (is_word x) → word_token x ≡ t → LexedAlways (x ++ 32 ∷ []) (t ∷ [])
word_blank x t w e after = lexed_both x (32 ∷ []) (t ∷ []) [] after (lexed_word x t (32 ∷ after) w e refl) (lexed_blank 32 after refl)

pub lexed_let : LexedAlways (codes "let ") (let_word ∷ [])
lexed_let = word_blank (codes "let") let_word refl refl

pub lexed_project : LexedAlways (codes "project ") (project_word ∷ [])
lexed_project = word_blank (codes "project") project_word refl refl

-- a blank before
blank_before : (u : List ℕ) (ts : List Token) → LexedAlways u ts → LexedAlways (32 ∷ u) ts
blank_before u ts lexed after = lexed_both (32 ∷ []) u [] ts after (lexed_blank 32 (u ++ after) refl) (lexed after)

pub lexed_union : LexedAlways (codes " union ") (union_word ∷ [])
lexed_union = blank_before (codes "union ") (union_word ∷ []) (word_blank (codes "union") union_word refl refl)

pub lexed_join : LexedAlways (codes " join ") (join_word ∷ [])
lexed_join = blank_before (codes "join ") (join_word ∷ []) (word_blank (codes "join") join_word refl refl)

pub lexed_where : LexedAlways (codes " where ") (name_token where_word ∷ [])
lexed_where = blank_before (codes "where ") (name_token where_word ∷ []) (word_blank where_word (name_token where_word) refl refl)

pub lexed_minus : LexedAlways (codes " minus ") (name_token minus_word ∷ [])
lexed_minus = blank_before (codes "minus ") (name_token minus_word ∷ []) (word_blank minus_word (name_token minus_word) refl refl)

-- a sign and a blank
sign_blank : (c : ℕ) (t : Token) → sign_token c ≡ Some t → LexedAlways (c ∷ 32 ∷ []) (t ∷ [])
sign_blank c t e after = lexed_both (c ∷ []) (32 ∷ []) (t ∷ []) [] after (lexed_sign c t (32 ∷ after) e) (lexed_blank 32 after refl)

pub lexed_equals : LexedAlways (codes " = ") (equals ∷ [])
lexed_equals = blank_before (codes "= ") (equals ∷ []) (sign_blank 61 equals refl)

pub lexed_semicolon : LexedAlways (codes "; ") (semicolon ∷ [])
lexed_semicolon = sign_blank 59 semicolon refl

pub lexed_comma : LexedAlways (codes ", ") (comma ∷ [])
lexed_comma = sign_blank 44 comma refl

pub lexed_open : LexedAlways (codes " (") (open_paren ∷ [])
lexed_open = blank_before (codes "(") (open_paren ∷ []) (λ after. lexed_sign 40 open_paren after refl)

-- ---- in parentheses

pub lexed_group : (u : List ℕ) (ts : List Token) → Lexes u ts → LexedAlways (40 ∷ (u ++ 41 ∷ [])) (open_paren ∷ (ts ++ close_paren ∷ []))
lexed_group u ts lexes after =
    lexed_both (40 ∷ []) (u ++ 41 ∷ []) (open_paren ∷ []) (ts ++ close_paren ∷ []) after (lexed_sign 40 open_paren ((u ++ 41 ∷ []) ++ after) refl)
    (lexed_both u (41 ∷ []) ts (close_paren ∷ []) after (lexes (41 ∷ after) refl) (lexed_sign 41 close_paren after refl))

-- ---- a whole text

pub lexed_whole : (text : List ℕ) (ts : List Token) → Lexes text ts → HasTokens text 0 ts
lexed_whole text ts lexes =
    subst (HasTokens text 0) (append-nil ts) (lexes [] refl text 0 [] (sym (append-nil text)) (text_ends (drop_all (0 + length text) text (omega arith))))
