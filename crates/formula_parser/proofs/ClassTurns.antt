-- What the code reads of a class, token by token.
use Rattle.std.proofs.Common.{◌≡◌, ℕ, zero, suc, ◌+◌, ◌<◌, ◌≤◌, Bool, true, false, List, [], ◌∷◌, length, drop, drop-drop, Result, Ok, Err, IfOk, ap, sym, refl, ◌∙◌, subst, arith, length-append, if◌then◌else◌}
use Rattle.std.specs.FinSet as set
use Rattle.std.proofs.lemmas.Bool.Decides.{nat_tests}
use Rattle.formula_parser.specs.declared.fault.FormulaFault.{FormulaFault}
use Rattle.formula_parser.specs.declared.fault.FormulaFault.TheVariants.{Unclosed, BadRange}
use Rattle.formula_parser.specs.Sets.{Bytes}
use Rattle.formula_parser.specs.Runs.{begins_with}
use Rattle.formula_parser.specs.Escapes.{Elem, byte}
use Rattle.formula_parser.specs.Classes.{plain, Within, no_item, after_elem, after_dash, after_range, range_set}
use Rattle.formula_parser.specs.ClassStep.{ClassNext, goes_on, closes, fails, are_range, takes_elem, takes_token, takes_dash, takes_end, class_step, closed_class, items_at, class_at}
use Rattle.std.specs.Char.{encode_utf8}
use Rattle.formula_parser.proofs.ElemTokens.{is_wide_begins, escape_in_is, wide_in_is}
use Rattle.formula_parser.proofs.ClassBytes.{ClassByte, is_end, is_bracket, is_slash, is_backslash, is_dash, is_wide, is_plain, class_byte}
use Rattle.formula_parser.proofs.ClassRead.{elem_step, wide_step, after_step, items_step, class_of}
use Rattle.formula_parser.proofs.ClassTexts.{plain_may}
use Rattle.formula_parser.proofs.ClassLaws.{class_is}
use Rattle.formula_parser.specs.Dialect.{Dialect, alphabet_of, Speaks, ElemToken, escape_in, wide_in}

-- a step takes a byte at least, and no more than there are
abbrev pub Fits : List ℕ → ClassNext → Type 0
Fits t (goes_on len s w) = (0 < len) × (len ≤ length t)
Fits t (closes s) = 0 < length t
Fits t (fails e) = Unit {0}

fits_either : (b : Bool) (t : List ℕ) (x y : ClassNext) → Fits t x → Fits t y → Fits t (if b then x else y)
fits_either true t x y first second = first
fits_either false t x y first second = second

elem_fits : (p len : ℕ) (t : List ℕ) (x : Elem) (s : Bytes) (w : Within) → 0 < len → len ≤ length t → Fits t (takes_elem p (x, len) s w)
elem_fits p len t x s no_item some few = (some, few)
elem_fits p len t x s (after_elem y q) some few = (some, few)
elem_fits p len t x s (after_dash y q) some few = fits_either (are_range y x) t (goes_on len (set.union s (range_set y x)) after_range) (fails (BadRange q)) (some, few) tt
elem_fits p len t x s after_range some few = (some, few)

dash_fits : (p : ℕ) (t : List ℕ) (s : Bytes) (w : Within) → Fits (45 ∷ t) (takes_dash p t s w)
dash_fits p t s no_item = (omega arith, omega arith)
dash_fits p t s (after_elem x q) =
    fits_either (begins_with 93 t) (45 ∷ t) (takes_elem p (byte 45, 1) s (after_elem x q)) (goes_on 1 s (after_dash x q)) (omega arith, omega arith) (omega arith, omega arith)
dash_fits p t s (after_dash x q) = elem_fits p 1 (45 ∷ t) (byte 45) s (after_dash x q) (omega arith) (omega arith)
dash_fits p t s after_range = (omega arith, omega arith)

end_fits : (p : ℕ) (t : List ℕ) (s : Bytes) (w : Within) → Fits (93 ∷ t) (takes_end p s w)
end_fits p t s no_item = tt
end_fits p t s (after_elem x q) = omega arith
end_fits p t s (after_dash x q) = tt
end_fits p t s after_range = omega arith

module _ (lang : Dialect) (speaks : Speaks lang) where
  escape_fits : (p : ℕ) (t : List ℕ) (s : Bytes) (w : Within) (found : ElemToken) → escape_in lang p t ≡ found → Fits (92 ∷ t) (takes_token p found s w)
  escape_fits p t s w (Err f) e = tt
  escape_fits p t s w (Ok x) e =
      let g = escape_in_is lang t p x e in
      elem_fits p x.1 (92 ∷ t) x.0 s w (omega (arith, g.takes)) (omega (arith, g.takes, ap length g.splits, length-append g.text g.rest))

  wide_fits : (p b : ℕ) (t : List ℕ) (s : Bytes) (w : Within) (found : ElemToken) → 128 ≤ b → wide_in lang p (b ∷ t) ≡ found → Fits (b ∷ t) (takes_token p found s w)
  wide_fits p b t s w (Err f) big e = tt
  wide_fits p b t s w (Ok x) big e =
      let (c, rest, known, same, takes) = wide_in_is lang (b ∷ t) p x (grind (arith, nat_tests)) e in
      let h = is_wide_begins (alphabet_of lang) c known in
      rw takes
      (elem_fits p (length (encode_utf8 c)) (b ∷ t) (byte c) s w (omega (arith, ap length h.text)) (omega (arith, ap length same, length-append (encode_utf8 c) rest)))

  byte_fits : {c : ℕ} → ClassByte c → (from p : ℕ) (t : List ℕ) (s : Bytes) (w : Within) → Fits (c ∷ t) (class_step lang from p (c ∷ t) s w)
  byte_fits is_end from p t s w = end_fits p t s w
  byte_fits is_bracket from p t s w = tt
  byte_fits is_slash from p t s w = tt
  byte_fits is_backslash from p t s w = escape_fits p t s w (escape_in lang p t) refl
  byte_fits is_dash from p t s w = dash_fits p t s w
  byte_fits (is_wide {b = b} n1 n2 n3 big) from p t s w =
      subst (Fits (b ∷ t)) (sym (wide_step lang speaks from p b t s w n1 n2 n3 big)) (wide_fits p b t s w (wide_in lang p (b ∷ t)) big refl)
  byte_fits (is_plain {b = b} small n1 n2 n3 n4 n5) from p t s w =
      subst (Fits (b ∷ t)) (sym (elem_step lang speaks (plain small n1 n2 n3 n4) from p t s w (plain_may w b t n5)))
      (elem_fits p 1 (b ∷ t) (byte b) s w (omega arith) (omega arith))

  pub step_fits : (from p : ℕ) (t : List ℕ) (s : Bytes) (w : Within) → Fits t (class_step lang from p t s w)
  step_fits from p [] s w = tt
  step_fits from p (c ∷ t) s w = byte_fits (class_byte c) from p t s w

  past : (negated : Bool) (from n p : ℕ) (t : List ℕ) (s : Bytes) (w : Within) → n ≤ length t → items_at lang negated from n p t s w ≡ items_at lang negated from 0 (p + n) (drop n t) s w
  unfolding items_at
  past negated from zero p t s w few = ap (λ q. items_at lang negated from 0 q t s w) (omega arith)
  past negated from (suc n) p [] s w few = absurd (omega (arith, few))
  past negated from (suc n) p (c ∷ t) s w few =
      past negated from n (p + 1) t s w (omega (arith, few)) ∙ ap (λ q. items_at lang negated from 0 q (drop n t) s w) (omega arith)

  goes_past : (negated : Bool) (from p : ℕ) (t : List ℕ) (s r : Bytes) (w v : Within) (len : ℕ) → class_step lang from p t s w ≡ goes_on len r v → Fits t (goes_on len r v) →
      items_at lang negated from 0 p t s w ≡ items_at lang negated from 0 (p + len) (drop len t) r v
  goes_past negated from p [] s r w v len is fits = absurd (omega (arith, fits.0, fits.1))
  goes_past negated from p (c ∷ t) s r w v zero is fits = absurd (omega (arith, fits.0))
  goes_past negated from p (c ∷ t) s r w v (suc len) is fits =
      items_step lang speaks negated from p c t s w ∙ ap (after_step lang speaks negated from p t) is
      ∙ ap (λ n. items_at lang negated from n (p + 1) t r v) (omega arith)
      ∙ past negated from len (p + 1) t r v (omega (arith, fits.1)) ∙ ap (λ q. items_at lang negated from 0 q (drop len t) r v) (omega arith)

  -- a token was read of the text from the place `first` on, of which `read` bytes were read before
  pub goes_read : (negated : Bool) (from first read : ℕ) (text rest : List ℕ) (s r : Bytes) (w v : Within) (len : ℕ) → rest ≡ drop read text →
      goes_on len r v ≡ class_step lang from (first + read) rest s w →
      items_at lang negated from 0 (first + read) (drop read text) s w ≡ items_at lang negated from 0 (first + (read + len)) (drop (read + len) text) r v
  goes_read negated from first read text rest s r w v len stands is =
      ap (λ t. items_at lang negated from 0 (first + read) t s w) (sym stands)
      ∙ goes_past negated from (first + read) rest s r w v len (sym is) (subst (Fits rest) (sym is) (step_fits from (first + read) rest s w))
      ∙ ap (λ t. items_at lang negated from 0 (first + read + len) (drop len t) r v) stands
      ∙ ap (λ t. items_at lang negated from 0 (first + read + len) t r v) (drop-drop len read text)
      ∙ ap (λ q. items_at lang negated from 0 q (drop (read + len) text) r v) (omega arith)

  pub token_fits : (from p : ℕ) (rest : List ℕ) (s r : Bytes) (w v : Within) (len : ℕ) → goes_on len r v ≡ class_step lang from p rest s w → (0 < len) × (len ≤ length rest)
  token_fits from p rest s r w v len is = subst (Fits rest) (sym is) (step_fits from p rest s w)

  pub fails_read : (negated : Bool) (from p : ℕ) (here rest : List ℕ) (s : Bytes) (w : Within) (e : FormulaFault) → rest ≡ here →
      fails e ≡ class_step lang from p rest s w → Err e ≡ items_at lang negated from 0 p here s w
  unfolding items_at
  fails_read negated from p here rest s w e stands is = rw (← stands) (by rest is)
    where
      by : (t : List ℕ) → fails e ≡ class_step lang from p t s w → Err e ≡ items_at lang negated from 0 p t s w
      by [] f = let same : e ≡ Unclosed from = cc in ap Err same
      by (c ∷ t) f = ap (after_step lang speaks negated from p t) f ∙ sym (items_step lang speaks negated from p c t s w)

  pub closes_read : (negated : Bool) (from p : ℕ) (here rest : List ℕ) (s r : Bytes) (w : Within) → rest ≡ here →
      closes r ≡ class_step lang from p rest s w → closed_class lang negated from (p + 1) r ≡ items_at lang negated from 0 p here s w
  closes_read negated from p here rest s r w stands is = rw (← stands) (by rest is)
    where
      by : (t : List ℕ) → closes r ≡ class_step lang from p t s w → closed_class lang negated from (p + 1) r ≡ items_at lang negated from 0 p t s w
      by [] f = absurd (cc)
      by (c ∷ t) f = ap (after_step lang speaks negated from p t) f ∙ sym (items_step lang speaks negated from p c t s w)

  pub negated_class : (at : ℕ) (t : List ℕ) → begins_with 94 t ≡ true → class_at lang at t ≡ items_at lang true at 0 (at + 2) (drop 1 t) set.empty no_item
  unfolding class_at
  negated_class at t e = ap (class_of lang speaks at t) e

  pub plain_class : (at : ℕ) (t : List ℕ) → begins_with 94 t ≡ false → class_at lang at t ≡ items_at lang false at 0 (at + 1) t set.empty no_item
  unfolding class_at
  plain_class at t e = ap (class_of lang speaks at t) e

  -- what a class takes lies in the text
  pub class_within : (at : ℕ) (t : List ℕ) (r : Result (Bytes × ℕ) FormulaFault) → r ≡ class_at lang at t → IfOk r (λ x. (0 < x.1) × (x.1 ≤ length t + 1))
  class_within at t (Ok x) is =
      let g = class_is lang speaks at t x (sym is) in
      let n : length t ≡ length g.text + length g.rest = ap length g.splits ∙ length-append g.text g.rest in
      (omega (arith, g.takes), omega (arith, g.takes, n))
  class_within at t (Err e) is = tt
