-- The head of a capture is read as one, and the other way round.
use Rattle.std.proofs.Common.{◌≡◌, ℕ, Bool, true, false, ◌&&◌, List, [], ◌∷◌, ◌++◌, length, drop, Option, Some, None, ap, refl, sym, ◌∙◌, subst, if◌then◌else◌, arith}
use Rattle.std.specs.List.{take_while, list_all}
use Rattle.std.proofs.lemmas.Bool.{and_parts}
use Rattle.std.proofs.lemmas.Bool.Decides.{nat_tests}
use Rattle.span_core.specs.Names.{is_name_start, is_name_byte}
use Rattle.formula_parser.specs.Runs.{begins_with}
use Rattle.formula_parser.specs.Names.{is_word, HasHead}
use Rattle.formula_parser.specs.Tokens.{head_at}
use Rattle.formula_parser.proofs.RunLaws.{run_of, run_is, run_rest, after_token}

pub start_continues : (c : ℕ) → is_name_start c ≡ true → is_name_byte c ≡ true
start_continues c h = grind (arith, nat_tests)

pub word_all : (x : List ℕ) → is_word x ≡ true → list_all is_name_byte x ≡ true
word_all [] h = refl
word_all (c ∷ x) h =
    let parts = and_parts (is_name_start c) (list_all is_name_byte x) h in
    ap (λ b. b && list_all is_name_byte x) (start_continues c parts.0) ∙ parts.1

-- the choice that `head_at` makes
abbrev head_if : List ℕ → List ℕ → Option (List ℕ)
head_if t x = if is_word x && begins_with 123 (drop (length x) t) then Some x else None

pub head_read : (t x : List ℕ) → HasHead t x → head_at t ≡ Some x
unfolding head_at
head_read t x (rest, splits, word) =
    let run : take_while is_name_byte t ≡ x =
    ap (take_while is_name_byte) splits ∙ run_is is_name_byte x (123 ∷ rest) (word_all x word) refl in
    let brace : begins_with 123 (drop (length x) t) ≡ true = ap (λ y. begins_with 123 (drop (length x) y)) splits ∙ ap (begins_with 123) (after_token x (123 ∷ rest)) in
    ap (head_if t) run ∙ ap (λ b. if b && begins_with 123 (drop (length x) t) then Some x else None) word
    ∙ ap (λ b. if b then Some x else None) brace

-- the text that follows the byte at the front
pub byte_front : (b : ℕ) (t : List ℕ) → begins_with b t ≡ true → (rest : List ℕ) × (t ≡ b ∷ rest)
byte_front b [] h = absurd (cc)
byte_front b (c ∷ t) h = let is : c ≡ b = grind (arith, nat_tests) in (t, ap (λ d. d ∷ t) is)

pub head_is : (t x : List ℕ) → head_at t ≡ Some x → HasHead t x
unfolding head_at
head_is t x e = by (is_word run && begins_with 123 (drop (length run) t)) refl e
  where
    run : List ℕ
    run = take_while is_name_byte t

    by : (b : Bool) → (is_word run && begins_with 123 (drop (length run) t)) ≡ b → (if b then Some run else None) ≡ Some x → HasHead t x
    by false f g = absurd (cc)
    by true f g =
        let parts = and_parts (is_word run) (begins_with 123 (drop (length run) t)) f in
        let r = run_of is_name_byte t in
        let front = byte_front 123 (drop (length run) t) parts.1 in
        let same : run ≡ x = cc in
        subst (HasHead t) same (front.0, r.splits ∙ ap (λ y. run ++ y) (sym (run_rest is_name_byte t run r) ∙ front.1), parts.0)
