-- The sign: with it an atom is over characters, without it over bytes.
use Rattle.std.proofs.Common.{◌≡◌, ◌≢◌, ℕ, suc, ◌+◌, ◌<◌, ◌≤◌, Bool, true, false, List, [], ◌∷◌, ◌++◌, length, drop, take, Option, Some, None, ◌==◌, if◌then◌else◌, ap, sym, refl, ◌∙◌, subst, arith, ◌⊎◌, inl, inr}
use Rattle.std.proofs.lemmas.Bool.{true≢false}
use Rattle.std.proofs.lemmas.Bool.Decides.{nat_tests}
use Rattle.formula_parser.proofs.RunLaws.{the_token}
use Rattle.std.proofs.lemmas.Str.{utf8_valid_len-IsValidUpTo}
use Rattle.std.specs.Str.{IsUtf8, IsValidUpTo}
use Rattle.bstr.proofs.lemmas.LossyLemmas.{utf8_valid_len-cases}
use Rattle.formula_parser.specs.declared.fault.FormulaFault.{FormulaFault}
use Rattle.formula_parser.specs.declared.fault.FormulaFault.TheVariants.{NotUtf8}
use Rattle.formula_parser.specs.Sets.{Bytes}
use Rattle.spanner_model.specs.Tree.{Tree}
use Rattle.spanner_model.specs.Expression.{AtomTree}
use Rattle.formula_parser.specs.Alphabet.{of_bytes, of_characters}
use Rattle.formula_parser.specs.Signs.{IsInside, nothing, lone, pair, is_sign, HasSign, HasNoSign, passed, closing_from, sign_if, sign_in}
use Rattle.formula_parser.specs.Spells.{IsAtomOver, IsAtomAt, over_bytes, over_characters}
use Rattle.formula_parser.specs.Faults as faults
use Rattle.formula_parser.specs.Faults.{HasFaultOver, HasFault}
use Rattle.formula_parser.specs.Dialect.{Dialect, plain_bytes, with_characters, AreTrees}
use Rattle.formula_parser.specs.Laws.{HasOneTree, HasNoTreeWithFault, HasOneFault, HasTreeOrFault, KeepsBytes}
use Rattle.formula_parser.proofs.GrammarLaws.{one_tree_over, no_tree_with_fault_over, one_fault_over}
use Rattle.formula_parser.proofs.EachText.{each_text_over}

same_others : (b c : ℕ) (x y : List ℕ) → b ∷ x ≡ c ∷ y → x ≡ y
same_others b c x y e = ap (drop 1) e

same_first : (b c : ℕ) (x y : List ℕ) → b ∷ x ≡ c ∷ y → b ≡ c
same_first b c x y e = cc

-- a text has one closing slash
pub one_inside : {u w : List ℕ} → IsInside u → IsInside w → (v z : List ℕ) → u ++ 47 ∷ v ≡ w ++ 47 ∷ z → (u ≡ w) × (v ≡ z)
one_inside nothing nothing v z e = (refl, same_others 47 47 v z e)
one_inside nothing (lone {c = c} {t = t} slash back is) v z e = absurd (slash (sym (same_first 47 c v (t ++ 47 ∷ z) e)))
one_inside nothing (pair {c = c} {t = t} is) v z e = (let no = same_first 47 92 v (c ∷ (t ++ 47 ∷ z)) e in absurd (omega (arith, no)))
one_inside (lone {c = c} {t = t} slash back is) nothing v z e = absurd (slash (same_first c 47 (t ++ 47 ∷ v) z e))
one_inside (lone {c = c} {t = t} slash back is) (lone {c = b} {t = s} slash' back' is') v z e =
    let rest = one_inside is is' v z (same_others c b (t ++ 47 ∷ v) (s ++ 47 ∷ z) e) in
    let first = same_first c b (t ++ 47 ∷ v) (s ++ 47 ∷ z) e in
    (ap (λ k. k ∷ t) first ∙ ap (λ x. b ∷ x) rest.0, rest.1)
one_inside (lone {c = c} {t = t} slash back is) (pair {c = b} {t = s} is') v z e = absurd (back (same_first c 92 (t ++ 47 ∷ v) (b ∷ (s ++ 47 ∷ z)) e))
one_inside (pair {c = c} {t = t} is) nothing v z e = (let no = same_first 92 47 (c ∷ (t ++ 47 ∷ v)) z e in absurd (omega (arith, no)))
one_inside (pair {c = c} {t = t} is) (lone {c = b} {t = s} slash back is') v z e = absurd (back (sym (same_first 92 b (c ∷ (t ++ 47 ∷ v)) (s ++ 47 ∷ z) e)))
one_inside (pair {c = c} {t = t} is) (pair {c = b} {t = s} is') v z e =
    let tail = same_others 92 92 (c ∷ (t ++ 47 ∷ v)) (b ∷ (s ++ 47 ∷ z)) e in
    let rest = one_inside is is' v z (same_others c b (t ++ 47 ∷ v) (s ++ 47 ∷ z) tail) in
    let first = same_first c b (t ++ 47 ∷ v) (s ++ 47 ∷ z) tail in
    (ap (λ k. 92 ∷ (k ∷ t)) first ∙ ap (λ x. 92 ∷ (b ∷ x)) rest.0, rest.1)

-- what stands before the closing slash of a text, and behind it
pub record Closed (t : List ℕ) : Type 0 where
  pub inside : List ℕ
  pub after : List ℕ
  pub is : IsInside inside
  pub splits : t ≡ inside ++ 47 ∷ after

abbrev pub IsOpenText : List ℕ → Type 0
IsOpenText t = Closed t → ⊥

abbrev lone_closed : (c : ℕ) (t : List ℕ) → c ≢ 47 → c ≢ 92 → Closed t → Closed (c ∷ t)
lone_closed c t slash back h = record { inside = c ∷ h.inside; after = h.after; is = lone slash back h.is; splits = ap (λ x. c ∷ x) h.splits }

abbrev pair_closed : (c : ℕ) (t : List ℕ) → Closed t → Closed (92 ∷ c ∷ t)
pair_closed c t h = record { inside = 92 ∷ c ∷ h.inside; after = h.after; is = pair h.is; splits = ap (λ x. 92 ∷ c ∷ x) h.splits }

-- the first byte tells
lone_opened : (c : ℕ) (t u v : List ℕ) → c ≢ 47 → c ≢ 92 → IsInside u → c ∷ t ≡ u ++ 47 ∷ v → Closed t
lone_opened c t [] v slash back nothing e = absurd (slash (same_first c 47 t v e))
lone_opened c t (b ∷ u) v slash back (lone first second is) e =
    record { inside = u; after = v; is = is; splits = same_others c b t (u ++ 47 ∷ v) e }
lone_opened c t (b ∷ k ∷ u) v slash back (pair is) e = absurd (back (same_first c 92 t (k ∷ (u ++ 47 ∷ v)) e))

pair_opened : (c : ℕ) (t u v : List ℕ) → IsInside u → 92 ∷ c ∷ t ≡ u ++ 47 ∷ v → Closed t
pair_opened c t [] v nothing e = (let no = same_first 92 47 (c ∷ t) v e in absurd (omega (arith, no)))
pair_opened c t (b ∷ u) v (lone first second is) e = absurd (second (sym (same_first 92 b (c ∷ t) (u ++ 47 ∷ v) e)))
pair_opened c t (b ∷ k ∷ u) v (pair is) e =
    record { inside = u; after = v; is = is; splits = same_others c k t (u ++ 47 ∷ v) (same_others 92 92 (c ∷ t) (k ∷ (u ++ 47 ∷ v)) e) }

alone_open : IsOpenText (92 ∷ [])
alone_open h = by h.inside h.is h.splits
  where
    by : (u : List ℕ) → IsInside u → 92 ∷ [] ≡ u ++ 47 ∷ h.after → ⊥
    by [] nothing e = (let no = same_first 92 47 [] h.after e in omega (arith, no))
    by (b ∷ u) (lone first second is) e = second (sym (same_first 92 b [] (u ++ 47 ∷ h.after) e))
    by (b ∷ k ∷ u) (pair is) e = (let no : [] ≡ k ∷ (u ++ 47 ∷ h.after) = same_others 92 92 [] (k ∷ (u ++ 47 ∷ h.after)) e in cc)

-- what the place of the closing slash tells
pub Tells : ℕ → List ℕ → Option ℕ → Type 0
Tells at t None = IsOpenText t
Tells at t (Some k) = (h : Closed t) × (k ≡ at + length h.inside)

empty_open : IsOpenText []
empty_open h = by h.inside h.splits
  where
    by : (u : List ℕ) → [] ≡ u ++ 47 ∷ h.after → ⊥
    by [] e = absurd (cc)
    by (b ∷ u) e = absurd (cc)

abbrev slash_closed : (c : ℕ) (t : List ℕ) → c ≡ 47 → Closed (c ∷ t)
slash_closed c t e = record { inside = []; after = t; is = nothing; splits = ap (λ k. k ∷ t) e }

lone_told : (at c : ℕ) (t : List ℕ) (found : Option ℕ) → c ≢ 47 → c ≢ 92 → Tells (at + 1) t found → Tells at (c ∷ t) found
unfolding Tells
lone_told at c t None slash back unclosed = λ h. unclosed (lone_opened c t h.inside h.after slash back h.is h.splits)
lone_told at c t (Some k) slash back (h, place) = (lone_closed c t slash back h, omega (arith, place))

pair_told : (at c b : ℕ) (t : List ℕ) (found : Option ℕ) → b ≡ 92 → Tells (at + 2) t found → Tells at (b ∷ c ∷ t) found
unfolding Tells
pair_told at c b t None e unclosed = rw e (λ h. unclosed (pair_opened c t h.inside h.after h.is h.splits))
pair_told at c b t (Some k) e (h, place) =
    rw e (pair_closed c t h, omega (arith, place))

pub closing_told : (at : ℕ) (t : List ℕ) → Tells at t (closing_from at t)
unfolding Tells closing_from
closing_told at [] = empty_open
closing_told at (c ∷ []) = by (c == 47) refl (c == 92) refl
  where
    by : (a : Bool) → (c == 47) ≡ a → (b : Bool) → (c == 92) ≡ b → Tells at (c ∷ []) (if a then Some at else None)
    by true e b f = (slash_closed c [] (grind (arith, nat_tests)), omega arith)
    by false e true f = rw (← (let is : 92 ≡ c = grind (arith, nat_tests) in is)) alone_open
    by false e false f = λ h. empty_open (lone_opened c [] h.inside h.after (grind (arith, nat_tests)) (grind (arith, nat_tests)) h.is h.splits)
closing_told at (c ∷ d ∷ t) = by (c == 47) refl (c == 92) refl (closing_told (at + 2) t) (closing_told (at + 1) (d ∷ t))
  where
    by : (a : Bool) → (c == 47) ≡ a → (b : Bool) → (c == 92) ≡ b → Tells (at + 2) t (closing_from (at + 2) t) → Tells (at + 1) (d ∷ t) (closing_from (at + 1) (d ∷ t)) →
        Tells at (c ∷ d ∷ t) (if a then Some at else if b then closing_from (at + 2) t else closing_from (at + 1) (d ∷ t))
    by true e b f two one = (slash_closed c (d ∷ t) (grind (arith, nat_tests)), omega arith)
    by false e true f two one = pair_told at d c t (closing_from (at + 2) t) (grind (arith, nat_tests)) two
    by false e false f two one = lone_told at c (d ∷ t) (closing_from (at + 1) (d ∷ t)) (grind (arith, nat_tests)) (grind (arith, nat_tests)) one

abbrev one_pass : Bool → Option ℕ
one_pass a = if a then Some 0 else Some 1

abbrev two_pass : Bool → Bool → Option ℕ
two_pass a b = if a then Some 0 else if b then Some 2 else Some 1

abbrev here_if : Bool → ℕ → Option ℕ → Option ℕ
here_if a at other = if a then Some at else other

pub pass_none : (at : ℕ) (t : List ℕ) → passed t ≡ None → closing_from at t ≡ None
unfolding closing_from
pass_none at [] e = refl
pass_none at (c ∷ []) e = by (c == 47) e
  where
    by : (a : Bool) → one_pass a ≡ None → here_if a at None ≡ None
    by true f = absurd (cc)
    by false f = refl
pass_none at (c ∷ d ∷ t) e = absurd (by (c == 47) (c == 92) e)
  where
    by : (a b : Bool) → two_pass a b ≡ None → ⊥
    by true b f = absurd (cc)
    by false true f = absurd (cc)
    by false false f = absurd (cc)

-- what a pass says of the closing slash
pub Passes : ℕ → List ℕ → ℕ → Type 0
Passes at t n = ((n ≡ 0) × (closing_from at t ≡ Some at) × (0 < length t)) ⊎ ((0 < n) × (n ≤ length t) × (closing_from at t ≡ closing_from (at + n) (drop n t)))

here_true : (a : Bool) (at : ℕ) (other : Option ℕ) → a ≡ true → here_if a at other ≡ Some at
here_true a at other e = ap (λ b. here_if b at other) e

pub pass_some : (at : ℕ) (t : List ℕ) (n : ℕ) → passed t ≡ Some n → Passes at t n
unfolding Passes closing_from
pass_some at [] n e = absurd (cc)
pass_some at (c ∷ []) n e = by (c == 47) refl e
  where
    by : (a : Bool) → (c == 47) ≡ a → one_pass a ≡ Some n →
        ((n ≡ 0) × (here_if (c == 47) at None ≡ Some at) × (0 < 1)) ⊎ ((0 < n) × (n ≤ 1) × (here_if (c == 47) at None ≡ closing_from (at + n) (drop n (c ∷ []))))
    by true g f = let none : 0 ≡ n = cc in inl (sym none, here_true (c == 47) at None g, omega arith)
    by false g f =
        let one : 1 ≡ n = cc in
        inr (omega arith, omega arith, ap (λ b. here_if b at None) g ∙ ap (λ k. closing_from (at + k) (drop k (c ∷ []))) one)
pass_some at (c ∷ d ∷ t) n e = by (c == 47) refl (c == 92) refl e
  where
    other : Bool → Option ℕ
    other b = if b then closing_from (at + 2) t else closing_from (at + 1) (d ∷ t)

    all : List ℕ
    all = c ∷ d ∷ t

    by : (a : Bool) → (c == 47) ≡ a → (b : Bool) → (c == 92) ≡ b → two_pass a b ≡ Some n →
        ((n ≡ 0) × (here_if (c == 47) at (other (c == 92)) ≡ Some at) × (0 < suc (suc (length t))))
        ⊎ ((0 < n) × (n ≤ suc (suc (length t))) × (here_if (c == 47) at (other (c == 92)) ≡ closing_from (at + n) (drop n all)))
    by true g b h f = let none : 0 ≡ n = cc in inl (sym none, here_true (c == 47) at (other (c == 92)) g, omega arith)
    by false g true h f =
        let two : 2 ≡ n = cc in
        inr (omega arith, omega arith, ap (λ k. here_if k at (other (c == 92))) g ∙ ap other h ∙ ap (λ k. closing_from (at + k) (drop k all)) two)
    by false g false h f =
        let one : 1 ≡ n = cc in
        inr (omega arith, omega arith, ap (λ k. here_if k at (other (c == 92))) g ∙ ap other h ∙ ap (λ k. closing_from (at + k) (drop k all)) one)

-- as the loop of the code needs them
pub pass_here : (at : ℕ) (t : List ℕ) (n : ℕ) → passed t ≡ Some n → n ≡ 0 → (closing_from at t ≡ Some at) × (0 < length t)
unfolding Passes
pass_here at t n e none = by (pass_some at t n e)
  where
    by : Passes at t n → (closing_from at t ≡ Some at) × (0 < length t)
    by (inl h) = (h.1, h.2)
    by (inr h) = absurd (omega (arith, h.0, none))

pub pass_on : (at : ℕ) (t : List ℕ) (n : ℕ) → passed t ≡ Some n → (n ≡ 0 → ⊥) → (0 < n) × (n ≤ length t) × (closing_from at t ≡ closing_from (at + n) (drop n t))
unfolding Passes
pass_on at t n e some = by (pass_some at t n e)
  where
    by : Passes at t n → (0 < n) × (n ≤ length t) × (closing_from at t ≡ closing_from (at + n) (drop n t))
    by (inl h) = absurd (some h.0)
    by (inr h) = h

after_slash : (u v : List ℕ) → drop (length u + 1) (u ++ 47 ∷ v) ≡ v
after_slash [] v = refl
after_slash (c ∷ u) v =
    let next : suc (length u) + 1 ≡ suc (length u + 1) = omega arith in
    ap (λ n. drop n (c ∷ (u ++ 47 ∷ v))) next ∙ after_slash u v

-- what the sign tells
pub SignTells : List ℕ → ℕ → Option ℕ → Type 0
SignTells text from None = HasNoSign text from
SignTells text from (Some k) = (u : List ℕ) × (v : List ℕ) × IsInside u × (drop (from + 1) text ≡ u ++ 47 ∷ v) × (is_sign v ≡ true) × (k ≡ length u)

sign_told_by : (text : List ℕ) (from : ℕ) (found : Option ℕ) → Tells 0 (drop (from + 1) text) found → SignTells text from (sign_if (drop (from + 1) text) found)
unfolding Tells SignTells
sign_told_by text from None unclosed = λ u v closed. absurd (unclosed (record { inside = u; after = v; is = closed.0; splits = closed.1 }))
sign_told_by text from (Some k) (h, place) = by (is_sign (drop (k + 1) t)) refl
  where
    t : List ℕ
    t = drop (from + 1) text

    behind : drop (k + 1) t ≡ h.after
    behind = ap (λ n. drop (n + 1) t) (let is : k ≡ length h.inside = omega (arith, place) in is) ∙ ap (drop (length h.inside + 1)) h.splits ∙ after_slash h.inside h.after

    by : (b : Bool) → is_sign (drop (k + 1) t) ≡ b → SignTells text from (if b then Some k else None)
    by true e = (h.inside, h.after, h.is, h.splits, sym (ap is_sign behind) ∙ e, omega (arith, place))
    by false e = λ u v closed.
        let same = one_inside closed.0 h.is v h.after (sym closed.1 ∙ h.splits) in
        ap is_sign same.1 ∙ sym (ap is_sign behind) ∙ e

pub sign_told : (text : List ℕ) (from : ℕ) → SignTells text from (sign_in (drop (from + 1) text))
unfolding SignTells sign_in
sign_told text from = sign_told_by text from (closing_from 0 (drop (from + 1) text)) (closing_told 0 (drop (from + 1) text))

pub signed_or_not : (text : List ℕ) (from : ℕ) → ((u : List ℕ) × HasSign text from u) ⊎ HasNoSign text from
unfolding SignTells
signed_or_not text from = by (sign_in (drop (from + 1) text)) (sign_told text from)
  where
    by : (found : Option ℕ) → SignTells text from found → ((u : List ℕ) × HasSign text from u) ⊎ HasNoSign text from
    by None never = inr never
    by (Some k) (u, v, is, splits, sign, len) = inl (u, (v, (is, splits), sign))

pub one_sign : (text : List ℕ) (from : ℕ) (u w : List ℕ) → HasSign text from u → HasSign text from w → u ≡ w
one_sign text from u w (v, a, sign) (z, b, sign') = (one_inside a.0 b.0 v z (sym a.1 ∙ b.1)).0

pub no_sign : (text : List ℕ) (from : ℕ) (u : List ℕ) → HasSign text from u → HasNoSign text from → ⊥
no_sign text from u (v, closed, sign) none = true≢false (sym sign ∙ none u v closed)

take_whole : (u : List ℕ) → take (length u) u ≡ u
take_whole [] = refl
take_whole (c ∷ u) = ap (λ x. c ∷ x) (take_whole u)

valid_not_whole : (u : List ℕ) (n : ℕ) → IsUtf8 u → IsValidUpTo u n → ⊥
valid_not_whole u n is valid = valid.longest (length u) valid.short (subst IsUtf8 (sym (take_whole u)) is)

-- as the code tells them
pub unsigned : (text : List ℕ) (from : ℕ) (r : Option ℕ) → r ≡ sign_in (drop (from + 1) text) → r ≡ None → HasNoSign text from
unfolding SignTells
unsigned text from r is none = subst (SignTells text from) (sym is ∙ none) (sign_told text from)

pub signed : (text : List ℕ) (from : ℕ) (r : Option ℕ) (len : ℕ) → r ≡ sign_in (drop (from + 1) text) → r ≡ Some len → HasSign text from (take len (drop (from + 1) text))
unfolding SignTells
signed text from r len is some =
    let (u, v, inside, splits, sign, k) = subst (SignTells text from) (sym is ∙ some) (sign_told text from) in
    let same : take len (drop (from + 1) text) ≡ u = ap (take len) splits ∙ ap (λ n. take n (u ++ 47 ∷ v)) k ∙ the_token u (47 ∷ v) in
    subst (HasSign text from) (sym same) (v, (inside, splits), sign)

-- with a tree for each set of characters
module _ (trees : Bytes → Tree) (are : AreTrees trees) where
  abbrev chars : Dialect
  chars = with_characters trees

  pub one_tree : HasOneTree
  one_tree text from x y (over_bytes none a) (over_bytes none' b) = one_tree_over plain_bytes tt text from x y a b
  one_tree text from x y (over_bytes none a) (over_characters {u = u} sign is b at) = absurd (no_sign text from u sign none)
  one_tree text from x y (over_characters {u = u} sign is a at) (over_bytes none b) = absurd (no_sign text from u sign none)
  one_tree text from x y (over_characters {p = p} sign is a at) (over_characters {p = q} sign' is' b at') =
      let same = one_tree_over chars are text from (x.0, p) (y.0, q) a b in
      let tree : x.0 ≡ y.0 = ap (λ (z : AtomTree × ℕ). z.0) same in
      let place : x.1 ≡ y.1 = at ∙ ap (λ n. n + 1) (ap (λ (z : AtomTree × ℕ). z.1) same) ∙ sym at' in
      ap (λ t. (t, x.1)) tree ∙ ap (λ n. (y.0, n)) place

  pub no_tree_with_fault : HasNoTreeWithFault
  no_tree_with_fault text from x e (over_bytes none a) (faults.over_bytes none' b) = no_tree_with_fault_over plain_bytes tt text from x e a b
  no_tree_with_fault text from x e (over_bytes none a) (faults.not_utf8 {u = u} sign valid) = no_sign text from u sign none
  no_tree_with_fault text from x e (over_bytes none a) (faults.over_characters {u = u} sign is b) = no_sign text from u sign none
  no_tree_with_fault text from x e (over_characters {u = u} sign is a at) (faults.over_bytes none b) = no_sign text from u sign none
  no_tree_with_fault text from x e (over_characters {u = u} sign is a at) (faults.not_utf8 {u = w} {n = n} sign' valid) =
      valid_not_whole w n (subst IsUtf8 (one_sign text from u w sign sign') is) valid
  no_tree_with_fault text from x e (over_characters {p = p} sign is a at) (faults.over_characters sign' is' b) =
      no_tree_with_fault_over chars are text from (x.0, p) e a b

  pub one_fault : HasOneFault
  one_fault text from e f (faults.over_bytes none a) (faults.over_bytes none' b) = one_fault_over plain_bytes tt text from e f a b
  one_fault text from e f (faults.over_bytes none a) (faults.not_utf8 {u = u} sign valid) = absurd (no_sign text from u sign none)
  one_fault text from e f (faults.over_bytes none a) (faults.over_characters {u = u} sign is b) = absurd (no_sign text from u sign none)
  one_fault text from e f (faults.not_utf8 {u = u} sign valid) (faults.over_bytes none b) = absurd (no_sign text from u sign none)
  one_fault text from e f (faults.not_utf8 {u = u} {n = n} sign valid) (faults.not_utf8 {u = w} {n = m} sign' valid') =
      let same : n ≡ m = sym (utf8_valid_len-IsValidUpTo u n valid)
      ∙ utf8_valid_len-IsValidUpTo u m (subst (λ x. IsValidUpTo x m) (one_sign text from w u sign' sign) valid') in
      ap (λ k. NotUtf8 (from + 1 + k)) same
  one_fault text from e f (faults.not_utf8 {u = u} {n = n} sign valid) (faults.over_characters {u = w} sign' is b) =
      absurd (valid_not_whole u n (subst IsUtf8 (one_sign text from w u sign' sign) is) valid)
  one_fault text from e f (faults.over_characters {u = u} sign is a) (faults.over_bytes none b) = absurd (no_sign text from u sign none)
  one_fault text from e f (faults.over_characters {u = u} sign is a) (faults.not_utf8 {u = w} {n = n} sign' valid) =
      absurd (valid_not_whole w n (subst IsUtf8 (one_sign text from u w sign sign') is) valid)
  one_fault text from e f (faults.over_characters sign is a) (faults.over_characters sign' is' b) = one_fault_over chars are text from e f a b

  pub each_text : HasTreeOrFault
  each_text text from = by (signed_or_not text from)
    where
      answer : Type 0
      answer = ((x : AtomTree × ℕ) × IsAtomAt text from x) ⊎ ((e : FormulaFault) × HasFault text from e)

      bytes : HasNoSign text from → ((x : AtomTree × ℕ) × IsAtomOver of_bytes text from x) ⊎ ((e : FormulaFault) × HasFaultOver of_bytes text from e) → answer
      bytes none (inl (x, is)) = inl (x, over_bytes none is)
      bytes none (inr (e, is)) = inr (e, faults.over_bytes none is)

      characters : (u : List ℕ) → HasSign text from u → IsUtf8 u →
          ((x : AtomTree × ℕ) × IsAtomOver of_characters text from x) ⊎ ((e : FormulaFault) × HasFaultOver of_characters text from e) → answer
      characters u sign is (inl (x, a)) = inl ((x.0, x.1 + 1), over_characters sign is a refl)
      characters u sign is (inr (e, a)) = inr (e, faults.over_characters sign is a)

      signed : (u : List ℕ) (n : ℕ) → HasSign text from u → IsUtf8 u ⊎ IsValidUpTo u n → answer
      signed u n sign (inl is) = characters u sign is (each_text_over chars are text from)
      signed u n sign (inr valid) = inr (NotUtf8 (from + 1 + n), faults.not_utf8 sign valid)

      by : ((u : List ℕ) × HasSign text from u) ⊎ HasNoSign text from → answer
      by (inl (u, sign)) = signed u _ sign (utf8_valid_len-cases u)
      by (inr none) = bytes none (each_text_over plain_bytes tt text from)

pub keeps_bytes : KeepsBytes
keeps_bytes = record { trees = λ text from x none. (trees text from x none, over_bytes none); faults = λ text from e none. (all_faults text from e none, faults.over_bytes none) }
  where
    trees : (text : List ℕ) (from : ℕ) (x : AtomTree × ℕ) → HasNoSign text from → IsAtomAt text from x → IsAtomOver of_bytes text from x
    trees text from x none (over_bytes also is) = is
    trees text from x none (over_characters {u = u} sign utf8 is at) = absurd (no_sign text from u sign none)

    all_faults : (text : List ℕ) (from : ℕ) (e : FormulaFault) → HasNoSign text from → HasFault text from e → HasFaultOver of_bytes text from e
    all_faults text from e none (faults.over_bytes also is) = is
    all_faults text from e none (faults.not_utf8 {u = u} sign valid) = absurd (no_sign text from u sign none)
    all_faults text from e none (faults.over_characters {u = u} sign utf8 is) = absurd (no_sign text from u sign none)
