-- A text has one token at a place, and so one reading of it goes one way.
use Rattle.std.proofs.Common.{◌≡◌, ℕ, ◌+◌, ◌&&◌, true, List, [], ◌∷◌, ◌++◌, length, drop, Option, Some, Result, Ok, ap, refl, sym, ◌∙◌}
use Rattle.std.specs.List.{list_all, take_while}
use Rattle.std.proofs.lemmas.Bool.{and_parts}
use Rattle.span_core.specs.Names.{is_name_start, is_name_byte}
use Rattle.spanner_model.specs.Expression.{AtomTree}
use Rattle.formula_parser.proofs.AtomLaws.{one_tree}
use Rattle.formula_parser.proofs.RunLaws.{run_is}
use Rattle.formula_parser.proofs.HeadLaws.{start_continues}
use Rattle.query_parser.specs.Tokens.{Token, atom_token, is_blank, sign_token, word_token, IsStray, IsWordAt, TokenAt, atom_at, word_at, sign_at, BlankAt}
use Rattle.query_parser.specs.Reads.{Refusal}
use Rattle.query_parser.specs.TokenRuns.{Run, run_ends, run_blank, run_token}
use Rattle.query_parser.proofs.StepLaws.{start_no_blank, sign_is, sign_no_other}

-- ---- one token at a place

pub same_front : (text : List ℕ) (p : ℕ) {a b : ℕ} {s t : List ℕ} → drop p text ≡ a ∷ s → drop p text ≡ b ∷ t → a ≡ b
same_front text p {a} {b} {s} {t} e f = let same : a ∷ s ≡ b ∷ t = sym e ∙ f in cc

-- a word begins as a name does
pub word_front : (text : List ℕ) (p : ℕ) (x : List ℕ) → IsWordAt text p x → (c : ℕ) × (s : List ℕ) × (drop p text ≡ c ∷ s) × (is_name_start c ≡ true)
word_front text p [] (rest, splits, word, last) = absurd (cc)
word_front text p (c ∷ y) (rest, splits, word, last) = (c, y ++ rest, splits, (and_parts (is_name_start c) (list_all is_name_byte y) word).0)

-- and is the longest run of bytes of a name
pub word_run : (text : List ℕ) (p : ℕ) (x : List ℕ) → IsWordAt text p x → take_while is_name_byte (drop p text) ≡ x
word_run text p [] (rest, splits, word, last) = absurd (cc)
word_run text p (c ∷ y) (rest, splits, word, last) =
    let parts = and_parts (is_name_start c) (list_all is_name_byte y) word in
    let all : list_all is_name_byte (c ∷ y) ≡ true = ap (λ b. b && list_all is_name_byte y) (start_continues c parts.0) ∙ parts.1 in
    ap (take_while is_name_byte) splits ∙ run_is is_name_byte (c ∷ y) rest all last

pub no_slash_starts : {c : ℕ} → c ≡ 47 → is_name_start c ≡ true → ⊥
no_slash_starts e w = let start : is_name_start 47 ≡ true = rw e at w in absurd (cc)

pub no_slash_sign : {c : ℕ} {t : Token} → c ≡ 47 → sign_token c ≡ Some t → ⊥
no_slash_sign {t = t} e is = let sign : sign_token 47 ≡ Some t = rw e at is in absurd (cc)

no_sign_starts : {a c : ℕ} {t : Token} → a ≡ c → sign_token c ≡ Some t → is_name_start a ≡ true → ⊥
no_sign_starts {c = c} {t = t} e is w =
    let starts : is_name_start c ≡ true = rw (← e) w in
    let none = (sign_no_other c t (sign_is c t is)).2 in absurd (cc)

pub one_token : {text : List ℕ} {p q r : ℕ} {t u : Token} → TokenAt text p t q → TokenAt text p u r → (t ≡ u) × (q ≡ r)
one_token {text = text} {p = p} (atom_at {a = a} {q = q} at found) (atom_at {a = b} {q = r} there same) =
    let pair : (a, q) ≡ (b, r) = one_tree text p (a, q) (b, r) found same in
    (ap (λ (z : AtomTree × ℕ). atom_token z.0) pair, ap (λ (z : AtomTree × ℕ). z.1) pair)
one_token {text = text} {p = p} (atom_at (s, at) found) (word_at x is same) = let (c, t, here, w) = word_front text p x is in absurd (no_slash_starts (same_front text p here at) w)
one_token {text = text} {p = p} (word_at x is same) (atom_at (s, at) found) = let (c, t, here, w) = word_front text p x is in absurd (no_slash_starts (same_front text p here at) w)
one_token {text = text} {p = p} (atom_at (s, at) found) (sign_at (t, there) is) = absurd (no_slash_sign (same_front text p there at) is)
one_token {text = text} {p = p} (sign_at (t, there) is) (atom_at (s, at) found) = absurd (no_slash_sign (same_front text p there at) is)
one_token {text = text} {p = p} (word_at x {t = t} at is) (word_at y {t = u} there same) =
    let one : x ≡ y = sym (word_run text p x at) ∙ word_run text p y there in
    (sym is ∙ ap word_token one ∙ same, ap (λ (z : List ℕ). p + length z) one)
one_token {text = text} {p = p} (word_at x is same) (sign_at (t, there) sign) =
    let (c, s, here, w) = word_front text p x is in absurd (no_sign_starts (same_front text p here there) sign w)
one_token {text = text} {p = p} (sign_at (t, there) sign) (word_at x is same) =
    let (c, s, here, w) = word_front text p x is in absurd (no_sign_starts (same_front text p here there) sign w)
one_token {text = text} {p = p} (sign_at {c = c} {t = t} (s, at) is) (sign_at {c = d} {t = u} (r, there) same) =
    let one : c ≡ d = same_front text p at there in
    let both : ◌≡◌ {A = Option Token} (Some t) (Some u) = sym is ∙ ap sign_token one ∙ same in
    let token : t ≡ u = cc in (token, refl)

-- and no blank beside it
pub no_blank_slash : {c : ℕ} → c ≡ 47 → is_blank c ≡ true → ⊥
no_blank_slash e b = let blank : is_blank 47 ≡ true = rw e at b in absurd (cc)

pub blank_no_token : {text : List ℕ} {p q : ℕ} {t : Token} → BlankAt text p → TokenAt text p t q → ⊥
blank_no_token {text = text} {p = p} (c, (s, at), b) (atom_at (r, there) found) = no_blank_slash (same_front text p at there) b
blank_no_token {text = text} {p = p} (c, (s, at), b) (word_at x is same) =
    let (d, r, here, w) = word_front text p x is in
    let blank : is_blank d ≡ true = rw (same_front text p at here) at b in
    let none = (start_no_blank d w).0 in absurd (cc)
blank_no_token {text = text} {p = p} (c, (s, at), b) (sign_at {c = d} {t = t} (r, there) is) =
    let blank : is_blank d ≡ true = rw (same_front text p at there) at b in
    let none = (sign_no_other d t (sign_is d t is)).0 in absurd (cc)

-- where the text ends there is neither
pub end_no_blank : (text : List ℕ) (p : ℕ) → drop p text ≡ [] → BlankAt text p → ⊥
end_no_blank text p here (c, (s, at), b) = absurd (cc)

pub end_no_token : {text : List ℕ} {p q : ℕ} {t : Token} → drop p text ≡ [] → TokenAt text p t q → ⊥
end_no_token here (atom_at (r, there) found) = absurd (cc)
end_no_token {text = text} {p = p} here (word_at x is same) = let (c, s, at, w) = word_front text p x is in absurd (cc)
end_no_token here (sign_at (r, there) is) = absurd (cc)

-- nor where a byte stands that begins none
pub stray_no_blank : (text : List ℕ) (p : ℕ) {c : ℕ} {s : List ℕ} → drop p text ≡ c ∷ s → IsStray c → BlankAt text p → ⊥
stray_no_blank text p {c} at stray (d, (r, there), b) =
    let blank : is_blank c ≡ true = rw (← same_front text p there at) b in
    let none = stray.0 in absurd (cc)

pub stray_no_token : {text : List ℕ} {p q c : ℕ} {s : List ℕ} {t : Token} → drop p text ≡ c ∷ s → IsStray c → TokenAt text p t q → ⊥
stray_no_token {text = text} {p = p} at stray (atom_at (r, there) found) = stray.1 (same_front text p at there)
stray_no_token {text = text} {p = p} {c = c} at stray (word_at x is same) =
    let (d, r, here, w) = word_front text p x is in
    let starts : is_name_start c ≡ true = rw (← same_front text p here at) w in
    let none = stray.2 in absurd (cc)
stray_no_token {text = text} {p = p} {c = c} at stray (sign_at {c = d} {t = t} (r, there) is) =
    let sign : sign_token c ≡ Some t = rw (← same_front text p there at) is in
    let none = stray.3 in absurd (cc)

-- ---- runs

module _ {S : Type 0} (step : ℕ → Token → S → Result S Refusal) (text : List ℕ) where
  pub run_on : {p e g : ℕ} {s f h : S} → Run step text p s e f → Run step text e f g h → Run step text p s g h
  run_on run_ends more = more
  run_on (run_blank at run) more = run_blank at (run_on run more)
  run_on (run_token at moves run) more = run_token at moves (run_on run more)

  -- no blank stands there, and no token that may come next
  abbrev pub Halted : ℕ → S → Type 0
  Halted p s = (BlankAt text p → ⊥) × ((t : Token) (q : ℕ) (k : S) → TokenAt text p t q → step p t s ≡ Ok k → ⊥)

  pub end_halts : (p : ℕ) (s : S) → drop p text ≡ [] → Halted p s
  end_halts p s here = (λ b. end_no_blank text p here b, λ t q k at moves. end_no_token here at)

  -- two runs from one place that go as far as they can end at one place
  pub meets : {p e g : ℕ} {s f h : S} → Run step text p s e f → Halted e f → Run step text p s g h → Halted g h → (e ≡ g) × (f ≡ h)
  meets run_ends here run_ends there = (refl, refl)
  meets run_ends here (run_blank at run) there = absurd (here.0 at)
  meets run_ends here (run_token {q = q} {k = k} {t = t} at moves run) there = absurd (here.1 t q k at moves)
  meets (run_blank at run) here run_ends there = absurd (there.0 at)
  meets (run_blank at run) here (run_blank other more) there = meets run here more there
  meets (run_blank at run) here (run_token other moves more) there = absurd (blank_no_token at other)
  meets (run_token {q = q} {k = k} {t = t} at moves run) here run_ends there = absurd (there.1 t q k at moves)
  meets (run_token at moves run) here (run_blank other more) there = absurd (blank_no_token other at)
  meets {p = p} {g = g} {s = s} {h = h} (run_token {q = q} {k = k} {t = t} at moves run) here (run_token {q = r} {k = m} {t = u} other same more) there =
      let one = one_token at other in
      let both : ◌≡◌ {A = Result S Refusal} (Ok k) (Ok m) = sym moves ∙ ap (λ z. step p z s) one.0 ∙ same in
      let next : k ≡ m = cc in
      meets run here (rw one.1 (rw next more)) there
