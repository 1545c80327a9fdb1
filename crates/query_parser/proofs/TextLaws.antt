-- Texts and their tokens: what is spelled is read, and what is read is spelled.
use Rattle.std.proofs.Common.{◌≡◌, inl, inr, ℕ, zero, suc, ◌+◌, Bool, true, false, List, [], ◌∷◌, length, drop, Option, Some, None, Result, Ok, Err, ap, refl, sym, subst, ◌∙◌, if◌then◌else◌}
use Rattle.std.specs.Str.{bytes_eq}
use Rattle.std.specs.Prelude.{codes}
use Rattle.spanner_model.specs.Captures.{VarName}
use Rattle.spanner_model.specs.Expression.{QueryTree}
use Rattle.query_parser.specs.declared.fault.QueryFault.{QueryFault}
use Rattle.query_parser.specs.declared.fault.QueryFault.TheVariants.{Unexpected}
use Rattle.query_parser.specs.Tokens.{Token, atom_token, let_word, union_word, join_word, project_word, none_word, name_token, word_token, TokenAt, atom_at, word_at, sign_at, HasTokens, text_ends, blank_first, token_first}
use Rattle.query_parser.specs.Spells.{SpellsQuery}
use Rattle.query_parser.specs.Nest.{Nest, Move, Body, move, outermost, wants_unit, whole_query}
use Rattle.query_parser.specs.Step.{reads_atom, stops, moved, ends, step, EndsAfter, EndsReading}
use Rattle.query_parser.specs.Step as code
use Rattle.query_parser.proofs.Lists.{eq_true}
use Rattle.query_parser.proofs.SpelledMoves.{Runs, reads_query}
use Rattle.query_parser.proofs.TokensSpelled.{IsProper, AreProper, spelled_query}
use Rattle.query_parser.proofs.StepLaws.{IsSign, is_equals, is_semicolon, is_open, is_close, is_comma, sign_is, Front, blank, slash, starts, sign, stray, front_of, blank_step, word_step, sign_step, stray_step, ends_more, at_blank, token_ends, Went, went_blank, went_token, went, atom_due}

abbrev pub Answer : Type 0
Answer = Result Body QueryFault

-- the tokens of a text are read
pub tokens_end : {text : List ℕ} {p : ℕ} {ts : List Token} → HasTokens text p ts → (n m : Nest) (b : Body) → Runs n ts m → whole_query m ≡ Some b → EndsReading text p n (Ok b)
tokens_end {text = text} {p = p} (text_ends is) n m b e whole =
    (zero, inl (ap (λ t. step p t n) is ∙ ap (ends p) (ap whole_query e ∙ whole)))
tokens_end {text = text} {p = p} (blank_first at ts) n m b run whole = ends_more text p 1 n n (Ok b) (at_blank text p n at) (tokens_end ts n m b run whole)
tokens_end {text = text} {p = p} (token_first {q = q} {t = t} at ts) n m b (k, moves, run) whole =
    token_ends text p q t n k (Ok b) at moves (tokens_end ts k m b run whole)

-- a word that is no word of queries is proper
differs : (x w : VarName) → bytes_eq x w ≡ false → w ≡ x → ⊥
differs x w e same = let d = eq_true x w (sym same) in absurd (cc)

abbrev pub word_by : Bool → Bool → Bool → Bool → Bool → List ℕ → Token
word_by a b d e f x =
    if a then let_word else if b then union_word else if d then join_word else if e then project_word else if f then none_word else name_token x

pub word_proper : (x : List ℕ) (t : Token) → word_token x ≡ t → IsProper t
word_proper x t is =
    by (bytes_eq x (codes "let")) refl (bytes_eq x (codes "union")) refl (bytes_eq x (codes "join")) refl (bytes_eq x (codes "project")) refl (bytes_eq x (codes "none")) refl is
  where
    by : (a : Bool) → bytes_eq x (codes "let") ≡ a → (b : Bool) → bytes_eq x (codes "union") ≡ b → (d : Bool) → bytes_eq x (codes "join") ≡ d →
        (e : Bool) → bytes_eq x (codes "project") ≡ e → (f : Bool) → bytes_eq x (codes "none") ≡ f → word_by a b d e f x ≡ t → IsProper t
    by true p b q d r e u f v is = subst IsProper is tt
    by false p true q d r e u f v is = subst IsProper is tt
    by false p false q true r e u f v is = subst IsProper is tt
    by false p false q false r true u f v is = subst IsProper is tt
    by false p false q false r false u true v is = subst IsProper is tt
    by false p false q false r false u false v is = subst IsProper is (λ h. elim h [
      | inl e ↦ differs x (codes "let") p e
      | inr h ↦ elim h [
        | inl e ↦ differs x (codes "union") q e
        | inr h ↦ elim h [
          | inl e ↦ differs x (codes "join") r e
          | inr h ↦ elim h [ inl e ↦ differs x (codes "project") u e | inr h ↦ elim h [ inl e ↦ differs x (codes "none") v e | inr h ↦ h ] ]
        ]
      ]
    ])

sign_proper : {c : ℕ} {t : Token} → IsSign c t → IsProper t
sign_proper is_equals = tt
sign_proper is_semicolon = tt
sign_proper is_open = tt
sign_proper is_close = tt
sign_proper is_comma = tt

pub token_proper : {text : List ℕ} {p q : ℕ} {t : Token} → TokenAt text p t q → IsProper t
token_proper (atom_at at found) = tt
token_proper (word_at x {t = t} at is) = word_proper x t is
token_proper (sign_at {c = c} {t = t} at is) = sign_proper (sign_is c t is)

pub tokens_proper : {text : List ℕ} {p : ℕ} {ts : List Token} → HasTokens text p ts → AreProper ts
tokens_proper (text_ends is) = tt
tokens_proper (blank_first at ts) = tokens_proper ts
tokens_proper (token_first at ts) = (token_proper at, tokens_proper ts)

-- the text's end is where the reading is whole
pub at_end : (text : List ℕ) (p : ℕ) (n : Nest) (b : Body) → step p (drop p text) n ≡ stops (Ok b) → (drop p text ≡ []) × (whole_query n ≡ Some b)
at_end text p n b e = by (drop p text) refl e
  where
    no_move : (len : ℕ) (found : Move) → moved p len found ≡ stops (Ok b) → ⊥
    no_move len (Ok m) e = absurd (cc)
    no_move len (Err why) e = absurd (cc)

    is_end : (found : Option Body) → ends p found ≡ stops (Ok b) → found ≡ Some b
    is_end None e = absurd (cc)
    is_end (Some c) e = cc

    at_slash : (w : Bool) → (if w then reads_atom else stops (Err (Unexpected p))) ≡ stops (Ok b) → ⊥
    at_slash true e = absurd (cc)
    at_slash false e = absurd (cc)

    by_front : {c : ℕ} → Front c → (s : List ℕ) → step p (c ∷ s) n ≡ stops (Ok b) → ⊥
    by_front (blank {c = c} d) s e = let f = sym (blank_step p c s n d) ∙ e in absurd (cc)
    by_front slash s e = at_slash (wants_unit n.last) e
    by_front (starts {c = c} w) s e = let x = code.word_at (c ∷ s) in no_move (length x) (move (word_token x) n) (sym (word_step p c s n w) ∙ e)
    by_front (sign {c = c} {t = t} is) s e = no_move 1 (move t n) (sym (sign_step p c s t n is) ∙ e)
    by_front (stray {c = c} is) s e = let f = sym (stray_step p c s n is) ∙ e in absurd (cc)

    by : (rest : List ℕ) → drop p text ≡ rest → step p rest n ≡ stops (Ok b) → (drop p text ≡ []) × (whole_query n ≡ Some b)
    by [] here e = (here, is_end (whole_query n) e)
    by (c ∷ s) here e = absurd (by_front (front_of c) s e)

abbrev HasRun : List ℕ → ℕ → Nest → Body → Type 0
HasRun text p n b = (ts : List Token) × (m : Nest) × HasTokens text p ts × Runs n ts m × (whole_query m ≡ Some b)

pub end_tokens : (steps : ℕ) (text : List ℕ) (p : ℕ) (n : Nest) (b : Body) → EndsAfter steps text p n (Ok b) → HasRun text p n b
end_tokens zero text p n b (inl is) = let (here, whole) = at_end text p n b is in ([], n, text_ends here, refl, whole)
end_tokens zero text p n b (inr (is, (e, fault, same))) = absurd (cc)
end_tokens (suc steps) text p n b (inl (len, m, is, rest)) = by (went text p n m len is) (end_tokens steps text (p + len) m b rest)
  where
    by : {l : ℕ} {k : Nest} → Went text p n l k → HasRun text (p + l) k b → HasRun text p n b
    by (went_blank at) (ts, m, has, run, whole) = (ts, m, blank_first at has, run, whole)
    by (went_token {m = k} t at moves) (ts, m, has, run, whole) = (t ∷ ts, m, token_first at has, (k, moves, run), whole)
end_tokens (suc steps) text p n b (inr (is, (a, q, k, found, moves, rest))) =
    let (stands, w) = atom_due text p n is in
    let (ts, m, has, run, whole) = end_tokens steps text q k b rest in
    (atom_token a ∷ ts, m, token_first (atom_at stands found) has, (k, moves, run), whole)

-- what spells a query is read, and what is read spells one
pub spelled_ends : (text : List ℕ) (q : QueryTree) → SpellsQuery text q → EndsReading text 0 outermost (Ok (q, false))
spelled_ends text q (ts, has, spelled) = let (m, run, whole) = reads_query ts q spelled in tokens_end has outermost m (q, false) run whole

pub ends_spelled : (text : List ℕ) (q : QueryTree) → EndsReading text 0 outermost (Ok (q, false)) → SpellsQuery text q
ends_spelled text q (steps, e) =
    let (ts, m, has, run, whole) = end_tokens steps text 0 outermost (q, false) e in
    (ts, has, spelled_query ts m q (tokens_proper has) run whole)
