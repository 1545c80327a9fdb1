-- Steps of reading a text, by what stands there.
use Rattle.std.proofs.Common.{◌≡◌, ◌≢◌, inl, inr, ℕ, suc, ◌+◌, ◌==◌, Bool, true, false, cond, ◌&&◌, List, [], ◌∷◌, ◌++◌, length, drop, Option, Some, None, Result, Ok, Err, ap, refl, sym, subst, ◌∙◌, arith, if◌then◌else◌}
use Rattle.std.proofs.lemmas.Bool.Decides.{nat_tests}
use Rattle.std.proofs.lemmas.Bool.{and_parts}
use Rattle.std.specs.List.{take_while, list_all}
use Rattle.std.proofs.lemmas.List.Sums.{take_while-cons}
use Rattle.span_core.specs.Names.{is_name_start, is_name_byte}
use Rattle.formula_parser.specs.Runs.{StandsAt}
use Rattle.formula_parser.specs.Names.{is_word}
use Rattle.formula_parser.specs.Spells.{IsAtomAt}
use Rattle.formula_parser.proofs.RunLaws.{run_of, run_is}
use Rattle.spanner_model.specs.Expression.{AtomTree, atom}
use Rattle.formula_parser.proofs.HeadLaws.{start_continues}
use Rattle.query_parser.specs.declared.fault.QueryFault.{QueryFault}
use Rattle.query_parser.specs.declared.fault.QueryFault.TheVariants.{Unexpected}
use Rattle.query_parser.specs.Tokens.{Token, atom_token, equals, semicolon, open_paren, close_paren, comma, word_token, sign_token, is_blank, IsStray, IsWordAt, TokenAt, atom_at, word_at, sign_at, BlankAt}
use Rattle.query_parser.specs.Reads.{unexpected}
use Rattle.query_parser.specs.Nest.{Nest, Move, Body, move, wants_unit, whole_query, with_unit}
use Rattle.query_parser.specs.Step.{Next, goes, reads_atom, stops, moved, signs, ends, after_word, step, EndsReading}
use Rattle.query_parser.specs.Step as code

-- what a byte begins
pub data Front : ℕ → Type 0 where
  blank : {c : ℕ} → is_blank c ≡ true → Front c
  slash : Front 47
  starts : {c : ℕ} → is_name_start c ≡ true → Front c
  sign : {c : ℕ} {t : Token} → sign_token c ≡ Some t → Front c
  stray : {c : ℕ} → IsStray c → Front c

pub front_of : (c : ℕ) → Front c
front_of c = by_blank (is_blank c) refl
  where
    by_sign : (found : Option Token) → sign_token c ≡ found → is_blank c ≡ false → (c ≢ 47) → is_name_start c ≡ false → Front c
    by_sign (Some t) e b s w = sign e
    by_sign None e b s w = stray (b, s, w, e)

    by_word : (w : Bool) → is_name_start c ≡ w → is_blank c ≡ false → (c ≢ 47) → Front c
    by_word true e b s = starts e
    by_word false e b s = by_sign (sign_token c) refl b s e

    by_slash : (d : Bool) → (c == 47) ≡ d → is_blank c ≡ false → Front c
    by_slash true e b = let is : 47 ≡ c = grind (arith, nat_tests) in subst Front is slash
    by_slash false e b = by_word (is_name_start c) refl b (grind (arith, nat_tests))

    by_blank : (b : Bool) → is_blank c ≡ b → Front c
    by_blank true e = blank e
    by_blank false e = by_slash (c == 47) refl e

-- steps, by the byte at the front
abbrev pub slashes : ℕ → Nest → Next
slashes at n = if wants_unit n.last then reads_atom else stops (Err (Unexpected at))

pub start_no_blank : (c : ℕ) → is_name_start c ≡ true → (is_blank c ≡ false) × ((c == 47) ≡ false)
start_no_blank c e = (grind (arith, nat_tests), grind (arith, nat_tests))

abbrev by_tests : Bool → Bool → Bool → ℕ → List ℕ → ℕ → Nest → Next
by_tests b s w at t c n =
    if b then goes 1 n else if s then slashes at n else if w then after_word at (code.word_at (c ∷ t)) n else signs at (sign_token c) n

tests : (b s w : Bool) (at c : ℕ) (t : List ℕ) (n : Nest) → is_blank c ≡ b → (c == 47) ≡ s → is_name_start c ≡ w →
    step at (c ∷ t) n ≡ by_tests b s w at t c n
tests b s w at c t n e f g =
    ap (λ x. by_tests x (c == 47) (is_name_start c) at t c n) e ∙ ap (λ x. by_tests b x (is_name_start c) at t c n) f ∙ ap (λ x. by_tests b s x at t c n) g

pub blank_step : (at c : ℕ) (t : List ℕ) (n : Nest) → is_blank c ≡ true → step at (c ∷ t) n ≡ goes 1 n
blank_step at c t n e = ap (λ b. by_tests b (c == 47) (is_name_start c) at t c n) e

pub word_step : (at c : ℕ) (t : List ℕ) (n : Nest) → is_name_start c ≡ true → step at (c ∷ t) n ≡ after_word at (code.word_at (c ∷ t)) n
word_step at c t n e = let none = start_no_blank c e in tests false false true at c t n none.0 none.1 e

-- the signs
pub data IsSign : ℕ → Token → Type 0 where
  is_equals : IsSign 61 equals
  is_semicolon : IsSign 59 semicolon
  is_open : IsSign 40 open_paren
  is_close : IsSign 41 close_paren
  is_comma : IsSign 44 comma

abbrev sign_by : Bool → Bool → Bool → Bool → Bool → Option Token
sign_by a b d e f =
    if a then Some equals else if b then Some semicolon else if d then Some open_paren else if e then Some close_paren else if f then Some comma else None

pub sign_is : (c : ℕ) (t : Token) → sign_token c ≡ Some t → IsSign c t
sign_is c t is = by (c == 61) refl (c == 59) refl (c == 40) refl (c == 41) refl (c == 44) refl is
  where
    this : (k : ℕ) (s : Token) → (c == k) ≡ true → ◌≡◌ {A = Option Token} (Some s) (Some t) → IsSign k s → IsSign c t
    this k s e d here_is =
        let here : k ≡ c = grind (arith, nat_tests) in
        let same : s ≡ t = cc in
        rw (← here) (subst (IsSign k) same here_is)

    by : (a : Bool) → (c == 61) ≡ a → (b : Bool) → (c == 59) ≡ b → (d : Bool) → (c == 40) ≡ d → (e : Bool) → (c == 41) ≡ e → (f : Bool) → (c == 44) ≡ f →
        sign_by (c == 61) (c == 59) (c == 40) (c == 41) (c == 44) ≡ Some t → IsSign c t
    by true p b q d r e u f v h = this 61 equals p (sym (ap (λ x. sign_by x (c == 59) (c == 40) (c == 41) (c == 44)) p) ∙ h) is_equals
    by false p true q d r e u f v h =
        this 59 semicolon q (sym (ap (λ x. sign_by x (c == 59) (c == 40) (c == 41) (c == 44)) p ∙ ap (λ x. sign_by false x (c == 40) (c == 41) (c == 44)) q) ∙ h) is_semicolon
    by false p false q true r e u f v h =
        this 40 open_paren r (sym (ap (λ x. sign_by x (c == 59) (c == 40) (c == 41) (c == 44)) p ∙ ap (λ x. sign_by false x (c == 40) (c == 41) (c == 44)) q
        ∙ ap (λ x. sign_by false false x (c == 41) (c == 44)) r) ∙ h) is_open
    by false p false q false r true u f v h =
        this 41 close_paren u (sym (ap (λ x. sign_by x (c == 59) (c == 40) (c == 41) (c == 44)) p ∙ ap (λ x. sign_by false x (c == 40) (c == 41) (c == 44)) q
        ∙ ap (λ x. sign_by false false x (c == 41) (c == 44)) r ∙ ap (λ x. sign_by false false false x (c == 44)) u) ∙ h) is_close
    by false p false q false r false u f v h =
        this_last f v (sym (ap (λ x. sign_by x (c == 59) (c == 40) (c == 41) (c == 44)) p ∙ ap (λ x. sign_by false x (c == 40) (c == 41) (c == 44)) q
        ∙ ap (λ x. sign_by false false x (c == 41) (c == 44)) r ∙ ap (λ x. sign_by false false false x (c == 44)) u) ∙ h)
      where
        this_last : (f : Bool) → (c == 44) ≡ f → sign_by false false false false (c == 44) ≡ Some t → IsSign c t
        this_last true v h = this 44 comma v (sym (ap (sign_by false false false false) v) ∙ h) is_comma
        this_last false v h = let none = sym (ap (sign_by false false false false) v) ∙ h in absurd (cc)

pub sign_no_other : (c : ℕ) (t : Token) → IsSign c t → (is_blank c ≡ false) × ((c == 47) ≡ false) × (is_name_start c ≡ false)
sign_no_other c t is_equals = (refl, refl, refl)
sign_no_other c t is_semicolon = (refl, refl, refl)
sign_no_other c t is_open = (refl, refl, refl)
sign_no_other c t is_close = (refl, refl, refl)
sign_no_other c t is_comma = (refl, refl, refl)

pub sign_step : (at c : ℕ) (s : List ℕ) (t : Token) (n : Nest) → sign_token c ≡ Some t → step at (c ∷ s) n ≡ moved at 1 (move t n)
sign_step at c s t n e =
    let none = sign_no_other c t (sign_is c t e) in
    tests false false false at c s n none.0 none.1 none.2 ∙ ap (λ f. signs at f n) e

pub stray_step : (at c : ℕ) (s : List ℕ) (n : Nest) → IsStray c → step at (c ∷ s) n ≡ stops (Err (Unexpected at))
stray_step at c s n (b, d, w, e) =
    tests false false false at c s n b (grind (arith, nat_tests)) w ∙ ap (λ f. signs at f n) e

-- a step, and then the others
pub ends_more : (text : List ℕ) (at len : ℕ) (n m : Nest) (r : Result Body QueryFault) → step at (drop at text) n ≡ goes len m → EndsReading text (at + len) m r → EndsReading text at n r
ends_more text at len n m r is (steps, e) = (suc steps, inl (len, m, is, e))

pub ends_atom : (text : List ℕ) (at q : ℕ) (a : AtomTree) (n m : Nest) (r : Result Body QueryFault) → step at (drop at text) n ≡ reads_atom →
    IsAtomAt text at (a, q) → move (atom_token a) n ≡ Ok m → EndsReading text q m r → EndsReading text at n r
ends_atom text at q a n m r is found moves (steps, e) = (suc steps, inr (is, (a, q, m, found, moves, e)))

pub at_blank : (text : List ℕ) (at : ℕ) (n : Nest) → BlankAt text at → step at (drop at text) n ≡ goes 1 n
at_blank text at n (c, (rest, stands), b) = ap (λ t. step at t n) stands ∙ blank_step at c rest n b

-- what the token at a place does
pub data Steps (text : List ℕ) (at : ℕ) : Token → ℕ → Type 0 where
  by_atom : {a : AtomTree} {q : ℕ} → ((n : Nest) → step at (drop at text) n ≡ slashes at n) → IsAtomAt text at (a, q) → Steps text at (atom_token a) q
  by_move : {t : Token} (len : ℕ) → ((n : Nest) → step at (drop at text) n ≡ moved at len (move t n)) → Steps text at t (at + len)

word_steps : (text : List ℕ) (at : ℕ) (x : List ℕ) → IsWordAt text at x → (n : Nest) → step at (drop at text) n ≡ moved at (length x) (move (word_token x) n)
word_steps text at [] (rest, splits, word, last) n = absurd (cc)
word_steps text at (c ∷ y) (rest, splits, word, last) n =
    let parts = and_parts (is_name_start c) (list_all is_name_byte y) word in
    let all : list_all is_name_byte (c ∷ y) ≡ true = ap (λ b. b && list_all is_name_byte y) (start_continues c parts.0) ∙ parts.1 in
    ap (λ t. step at t n) splits ∙ word_step at c (y ++ rest) n parts.0
    ∙ ap (λ x. moved at (length x) (move (word_token x) n)) (run_is is_name_byte (c ∷ y) rest all last)

pub token_steps : {text : List ℕ} {at q : ℕ} {t : Token} → TokenAt text at t q → Steps text at t q
token_steps {text = text} {at = at} (atom_at (rest, stands) found) = by_atom (λ n. ap (λ t. step at t n) stands) found
token_steps {text = text} {at = at} (word_at x is same) =
    by_move (length x) (λ n. word_steps text at x is n ∙ ap (λ t. moved at (length x) (move t n)) same)
token_steps {text = text} {at = at} (sign_at {c = c} {t = t} (rest, stands) is) = by_move 1 (λ n. ap (λ s. step at s n) stands ∙ sign_step at c rest t n is)

-- a byte and its unit is due where the atom moves
pub atom_wanted : (a : AtomTree) (n m : Nest) → move (atom_token a) n ≡ Ok m → wants_unit n.last ≡ true
atom_wanted a n m e = by (wants_unit n.last) refl e
  where
    by : (b : Bool) → wants_unit n.last ≡ b → ◌≡◌ {A = Move} (if b then Ok (with_unit (atom a) n) else Err unexpected) (Ok m) → wants_unit n.last ≡ true
    by true w e = w
    by false w e = absurd (cc)

pub wanted : (at : ℕ) (n : Nest) → wants_unit n.last ≡ true → slashes at n ≡ reads_atom
wanted at n w = ap (λ b. if b then reads_atom else stops (Err (Unexpected at))) w

-- a token that may come next
pub token_ends : (text : List ℕ) (at q : ℕ) (t : Token) (n m : Nest) (r : Result Body QueryFault) → TokenAt text at t q → move t n ≡ Ok m → EndsReading text q m r → EndsReading text at n r
token_ends text at q t n m r is moves e = by (token_steps is) moves e
  where
    by : {u : Token} {p : ℕ} → Steps text at u p → move u n ≡ Ok m → EndsReading text p m r → EndsReading text at n r
    by (by_atom {a = a} {q = p} does found) moves e =
        ends_atom text at p a n m r (does n ∙ wanted at n (atom_wanted a n m moves)) found moves e
    by (by_move len does) moves e = ends_more text at len n m r (does n ∙ ap (moved at len) moves) e

-- what a step that goes on has read
pub data Went (text : List ℕ) (at : ℕ) (n : Nest) : ℕ → Nest → Type 0 where
  went_blank : BlankAt text at → Went text at n 1 n
  went_token : {len : ℕ} {m : Nest} (t : Token) → TokenAt text at t (at + len) → move t n ≡ Ok m → Went text at n len m

went_same : (text : List ℕ) (at : ℕ) (n m k : Nest) (len l : ℕ) → goes len m ≡ goes l k → Went text at n len m → Went text at n l k
went_same text at n m k len l e w =
    let same_len : len ≡ l = cc in
    let same : m ≡ k = cc in
    rw (← same_len) (subst (Went text at n len) same w)

moved_is : (text : List ℕ) (at len l : ℕ) (t : Token) (n k : Nest) (found : Move) → move t n ≡ found → TokenAt text at t (at + len) →
    moved at len found ≡ goes l k → Went text at n l k
moved_is text at len l t n k (Ok m) is token e = went_same text at n m k len l e (went_token t token is)
moved_is text at len l t n k (Err why) is token e = absurd (cc)

pub word_here : (text : List ℕ) (at c : ℕ) (s : List ℕ) → drop at text ≡ c ∷ s → is_name_start c ≡ true → IsWordAt text at (code.word_at (c ∷ s))
word_here text at c s here w =
    let r = run_of is_name_byte (c ∷ s) in
    let front : take_while is_name_byte (c ∷ s) ≡ c ∷ take_while is_name_byte s =
    take_while-cons is_name_byte c s ∙ ap (λ b. cond b (c ∷ take_while is_name_byte s) []) (start_continues c w) in
    let all = (run_of is_name_byte s).all in
    (r.rest, here ∙ r.splits, ap is_word front ∙ ap (λ b. b && list_all is_name_byte (take_while is_name_byte s)) w ∙ all, r.stops)

pub went : (text : List ℕ) (at : ℕ) (n m : Nest) (len : ℕ) → step at (drop at text) n ≡ goes len m → Went text at n len m
went text at n m len e = by (drop at text) refl e
  where
    at_end : (found : Option Body) → ends at found ≡ goes len m → Went text at n len m
    at_end None e = absurd (cc)
    at_end (Some b) e = absurd (cc)

    at_slash : (b : Bool) → (if b then reads_atom else stops (Err (Unexpected at))) ≡ goes len m → Went text at n len m
    at_slash true e = absurd (cc)
    at_slash false e = absurd (cc)

    by_front : {c : ℕ} → Front c → (s : List ℕ) → drop at text ≡ c ∷ s → step at (c ∷ s) n ≡ goes len m → Went text at n len m
    by_front (blank {c = c} b) s here e = went_same text at n n m 1 len (sym (blank_step at c s n b) ∙ e) (went_blank (c, (s, here), b))
    by_front slash s here e = at_slash (wants_unit n.last) e
    by_front (starts {c = c} w) s here e =
        let x = code.word_at (c ∷ s) in
        moved_is text at (length x) len (word_token x) n m (move (word_token x) n) refl (word_at x (word_here text at c s here w) refl) (sym (word_step at c s n w) ∙ e)
    by_front (sign {c = c} {t = t} is) s here e =
        moved_is text at 1 len t n m (move t n) refl (sign_at (s, here) is) (sym (sign_step at c s t n is) ∙ e)
    by_front (stray {c = c} is) s here e = let f = sym (stray_step at c s n is) ∙ e in absurd (cc)

    by : (rest : List ℕ) → drop at text ≡ rest → step at rest n ≡ goes len m → Went text at n len m
    by [] here e = at_end (whole_query n) e
    by (c ∷ s) here e = by_front (front_of c) s here e

-- an atom that is read stands where a unit is due
pub atom_due : (text : List ℕ) (at : ℕ) (n : Nest) → step at (drop at text) n ≡ reads_atom → StandsAt text at (47 ∷ []) × (wants_unit n.last ≡ true)
atom_due text at n e = by (drop at text) refl e
  where
    no_move : (len : ℕ) (found : Move) → moved at len found ≡ reads_atom → ⊥
    no_move len (Ok m) e = absurd (cc)
    no_move len (Err why) e = absurd (cc)

    at_end : (found : Option Body) → ends at found ≡ reads_atom → ⊥
    at_end None e = absurd (cc)
    at_end (Some b) e = absurd (cc)

    at_slash : (b : Bool) → wants_unit n.last ≡ b → (if b then reads_atom else stops (Err (Unexpected at))) ≡ reads_atom → wants_unit n.last ≡ true
    at_slash true w e = w
    at_slash false w e = absurd (cc)

    by_front : {c : ℕ} → Front c → (s : List ℕ) → drop at text ≡ c ∷ s → step at (c ∷ s) n ≡ reads_atom → StandsAt text at (47 ∷ []) × (wants_unit n.last ≡ true)
    by_front (blank {c = c} b) s here e = let f = sym (blank_step at c s n b) ∙ e in absurd (cc)
    by_front slash s here e = ((s, here), at_slash (wants_unit n.last) refl e)
    by_front (starts {c = c} w) s here e =
        let x = code.word_at (c ∷ s) in absurd (no_move (length x) (move (word_token x) n) (sym (word_step at c s n w) ∙ e))
    by_front (sign {c = c} {t = t} is) s here e = absurd (no_move 1 (move t n) (sym (sign_step at c s t n is) ∙ e))
    by_front (stray {c = c} is) s here e = let f = sym (stray_step at c s n is) ∙ e in absurd (cc)

    by : (rest : List ℕ) → drop at text ≡ rest → step at rest n ≡ reads_atom → StandsAt text at (47 ∷ []) × (wants_unit n.last ≡ true)
    by [] here e = absurd (at_end (whole_query n) e)
    by (c ∷ s) here e = by_front (front_of c) s here e
