-- What the code reads of a class over characters.
use Rattle.std.proofs.Common.{◌≡◌, ℕ, zero, suc, ◌+◌, ◌-◌, ◌*◌, ◌<◌, ◌≤◌, Bool, true, false, List, [], ◌∷◌, length, drop, Option, Some, None, Result, Ok, Err, ap, sym, refl, ◌∙◌, arith, if◌then◌else◌}
use Rattle.std.specs.Prelude.{◌↔◌, IfOk, slice_index_or}
use Rattle.std.specs.Char.{IsScalar}
use Rattle.std.specs.FinSet as set
use Rattle.span_core.specs.ByteSets.{bytes_between}
use Rattle.span_core.specs.Intervals.{Covers}
use Rattle.spanner_model.specs.Tree.{Tree}
use Rattle.formula_parser.specs.declared.fault.FormulaFault.{FormulaFault}
use Rattle.formula_parser.specs.declared.fault.FormulaFault.TheVariants.{BadRange, OutOfMemory}
use Rattle.formula_parser.specs.Sets.{Bytes}
use Rattle.formula_parser.specs.Alphabet.{of_characters}
use Rattle.formula_parser.specs.CharSets.{all_characters, AreAllCharacters}
use Rattle.formula_parser.specs.Escapes.{Elem, byte, elem_set, hex_value}
use Rattle.formula_parser.specs.CharEscapes.{hex_after}
use Rattle.formula_parser.specs.Classes.{Within, no_item, after_elem, after_dash, after_range}
use Rattle.formula_parser.specs.ClassStep.{ClassNext, goes_on, fails, takes_elem, takes_end, class_step, closed_class}
use Rattle.formula_parser.specs.Dialect.{with_characters, ElemToken, char_escape_at}
use Rattle.formula_parser.specs.Nest.{Nest, with_unit}
use Rattle.formula_parser.specs.Step.{goes, stops, escapes}
use Rattle.formula_parser.proofs.ElemTokens.{escape_in_is}
use Rattle.formula_parser.proofs.TheTrees.{the_trees}
use Rattle.formula_parser.specs.Signs.{is_sign, closing_from, sign_if, sign_in}
use Rattle.formula_parser.specs.CharView.{Holds, chosen_set, IsTokenStep, IsDashStep, AreItemsAfter, IsWholeSet, IsClassRead}
use Rattle.formula_parser.proofs.ClassSets.{some_counted, none_counted}
use Rattle.formula_parser.proofs.ClassRead.{are_range_true}
use Rattle.formula_parser.proofs.SetTrees.{members_in, others_in, escape_set_in}
use Rattle.formula_parser.proofs.CharSetLaws.{IsJoined, IsCharBetween, holds_range, holds_others}

-- one hexadecimal digit more
pub hex_step : (v i : ℕ) (digits : List ℕ) (next : ℕ) → i < length digits → Some next ≡ hex_value (slice_index_or digits i 0) →
    hex_after v (drop i digits) ≡ hex_after (16 * v + next) (drop (i + 1) digits)
hex_step v i [] next less is = absurd (omega (arith, less))
hex_step v zero (d ∷ t) next less is = ap (λ found. elim found [ None ↦ None | Some x ↦ hex_after (16 * v + x) t ]) (sym is)
hex_step v (suc i) (d ∷ t) next less is =
    let more : suc (i + 1) ≡ suc i + 1 = omega arith in
    hex_step v i t next (omega (arith, less)) is ∙ ap (λ k. hex_after (16 * v + next) (drop k (d ∷ t))) more

-- a range that is read
pub range_added : (new old : List (ℕ × ℕ)) (s : Bytes) (low high place at len : ℕ) (x y : Elem) → y ≡ byte low → x ≡ byte high → low ≤ high →
    Holds old s → IsJoined new old (IsCharBetween low high) →
    (r : Bytes) × (w : Within) × (Holds new r × (w ≡ after_range)) × (takes_elem at (x, len) s (after_dash y place) ≡ goes_on len r w)
range_added new old s low high place at len x y first second rises holds joined =
    let r = set.union s (bytes_between low high) in
    let range : takes_elem at (byte high, len) s (after_dash (byte low) place) ≡ goes_on len r after_range =
    ap (λ b. if b then goes_on len r after_range else fails (BadRange place)) (are_range_true (byte low) (byte high) rises) in (
      r,
      after_range,
      (holds_range new old s low high holds joined, refl),
      ap (λ z. takes_elem at (x, len) s (after_dash z place)) first ∙ ap (λ z. takes_elem at (z, len) s (after_dash (byte low) place)) second ∙ range,
    )

-- the characters of a class
pub chosen_in : (negated : Bool) (s : Bytes) → AreAllCharacters (chosen_set negated s)
chosen_in true s = others_in of_characters s
chosen_in false s = members_in of_characters s

pub negation_chosen : (old : List (ℕ × ℕ)) (E : Type 0) (r : Result (List (ℕ × ℕ)) E) → IfOk r (λ new. (c : ℕ) → Covers new c ↔ (IsScalar c × (Covers old c → ⊥))) →
    IfOk r (λ new. (s : Bytes) → Holds old s → Holds new (set.difference all_characters s))
negation_chosen old E (Ok new) h = λ s holds. holds_others new old s holds h
negation_chosen old E (Err e) h = tt

pub class_some : (trees : Bytes → Tree) (negated : Bool) (from end : ℕ) (s : Bytes) → ¬ (chosen_set negated s ≡ set.empty) →
    closed_class (with_characters trees) negated from end s ≡ Ok (chosen_set negated s, end - from)
class_some trees negated from end s some =
    ap (λ b. if b then Err (BadRange from) else Ok (chosen_set negated s, end - from)) (some_counted (chosen_set negated s) some)

pub class_none : (trees : Bytes → Tree) (negated : Bool) (from end : ℕ) (s : Bytes) → chosen_set negated s ≡ set.empty →
    closed_class (with_characters trees) negated from end s ≡ Err (BadRange from)
class_none trees negated from end s none =
    ap (λ b. if b then Err (BadRange from) else Ok (chosen_set negated s, end - from)) (none_counted (chosen_set negated s) none)

-- the sign, by the closing slash
pub sign_none : (t u : List ℕ) → u ≡ t → closing_from 0 u ≡ None → ◌≡◌ {A = Option ℕ} None (sign_in t)
unfolding sign_in
sign_none t u e none = sym (ap (λ x. sign_if t (closing_from 0 x)) (sym e) ∙ ap (sign_if t) none)

pub sign_found : (t u after : List ℕ) (k : ℕ) (b : Bool) → u ≡ t → closing_from 0 u ≡ Some k → after ≡ drop (k + 1) u → b ≡ is_sign after →
    (if b then Some k else None) ≡ sign_in t
unfolding sign_in
sign_found t u after k b e found behind is =
    sym (ap (λ x. sign_if t (closing_from 0 x)) (sym e) ∙ ap (sign_if t) found
    ∙ ap (λ v. if v then Some k else None) (ap is_sign (ap (drop (k + 1)) (sym e) ∙ sym behind) ∙ sym is))

-- an escape outside of classes, by whether a character is in its set
pub escape_full : (trees : Bytes → Tree) (at len : ℕ) (token : ElemToken) (x : Elem) (f : Tree) (n : Nest) → token ≡ Ok (x, len) → ¬ (elem_set x ≡ set.empty) →
    f ≡ trees (elem_set x) → goes len (with_unit f n) ≡ escapes (with_characters trees) at token n
escape_full trees at len token x f n is some tree =
    sym (ap (λ t. escapes (with_characters trees) at t n) is
    ∙ ap (λ b. if b then stops (Err (BadRange at)) else goes len (with_unit (trees (elem_set x)) n)) (some_counted (elem_set x) some)
    ∙ ap (λ t. goes len (with_unit t n)) (sym tree))

pub escape_hollow : (trees : Bytes → Tree) (at len : ℕ) (token : ElemToken) (x : Elem) (n : Nest) → token ≡ Ok (x, len) → elem_set x ≡ set.empty →
    escapes (with_characters trees) at token n ≡ stops (Err (BadRange at))
escape_hollow trees at len token x n is none =
    ap (λ t. escapes (with_characters trees) at t n) is
    ∙ ap (λ b. if b then stops (Err (BadRange at)) else goes len (with_unit (trees (elem_set x)) n)) (none_counted (elem_set x) none)

-- an escape's set has characters alone
pub escape_all : (t : List ℕ) (at : ℕ) (x : Elem) (len : ℕ) → char_escape_at at t ≡ Ok (x, len) → AreAllCharacters (elem_set x)
escape_all t at x len is =
    let g = escape_in_is (with_characters the_trees) t at (x, len) is in
    escape_set_in of_characters g.text x g.is

-- a fault that ends the reading of a class
pub token_fails : (trees : Bytes → Tree) (e : FormulaFault) (p : ℕ) (s : Bytes) (w : Within) (next : ClassNext) (r : Result (Bytes × ℕ) FormulaFault) →
    IsTokenStep (Err e) p s w next → (next ≡ fails e → r ≡ Err e) → IsClassRead trees (Err e) r
token_fails trees OutOfMemory p s w next r h then_is = tt
token_fails trees e p s w next r h then_is = then_is h

pub items_fail : (trees : Bytes → Tree) (e : FormulaFault) (len : ℕ) (next : ClassNext) (r : Result (Bytes × ℕ) FormulaFault) →
    AreItemsAfter (Err e) len next → (next ≡ fails e → r ≡ Err e) → IsClassRead trees (Err e) r
items_fail trees OutOfMemory len next r h then_is = tt
items_fail trees e len next r h then_is = then_is h

pub whole_fails : (trees : Bytes → Tree) (e : FormulaFault) (next : ClassNext) (r : Result (Bytes × ℕ) FormulaFault) →
    IsWholeSet (Err e) next → (next ≡ fails e → r ≡ Err e) → IsClassRead trees (Err e) r
whole_fails trees OutOfMemory next r h then_is = tt
whole_fails trees e next r h then_is = then_is h

-- the dash of a range
pub dash_goes : (w : Within) (s : Bytes) (next : ClassNext) → IsDashStep w s next →
    (x : Elem) × (q : ℕ) × (w ≡ after_elem x q) × (next ≡ goes_on 1 s (after_dash x q))
dash_goes no_item s next h = absurd h
dash_goes (after_elem x q) s next h = (x, q, refl, h)
dash_goes (after_dash x q) s next h = absurd h
dash_goes after_range s next h = absurd h

-- the end of a class is a byte
pub end_some : (trees : Bytes → Tree) (from p : ℕ) (rest : List ℕ) (s : Bytes) (w : Within) → class_step (with_characters trees) from p rest s w ≡ takes_end p s w →
    0 < length rest
end_some trees from p (c ∷ t) s w e = omega arith
end_some trees from p [] s no_item e = absurd (cc)
end_some trees from p [] s (after_elem x q) e = absurd (cc)
end_some trees from p [] s (after_dash x q) e = absurd (cc)
end_some trees from p [] s after_range e = absurd (cc)
