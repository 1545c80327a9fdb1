-- What spells a class is read as one.
use Rattle.std.proofs.Common.{◌≡◌, ◌≢◌, ℕ, suc, ◌+◌, ◌-◌, ◌<◌, ◌≤◌, Bool, true, false, not, ◌==◌, List, [], ◌∷◌, ◌++◌, length, drop, Result, Ok, Err, ap, sym, refl, ◌∙◌, subst, arith, if◌then◌else◌, append_assoc, length-append, ◌⊎◌, inl, inr}
use Rattle.std.specs.FinSet as set
use Rattle.std.proofs.lemmas.Bool.Decides.{nat_tests}
use Rattle.formula_parser.specs.declared.fault.FormulaFault.{FormulaFault}
use Rattle.formula_parser.specs.declared.fault.FormulaFault.TheVariants.{BadRange}
use Rattle.formula_parser.specs.Sets.{Bytes}
use Rattle.std.specs.Char.{encode_utf8}
use Rattle.formula_parser.specs.Alphabet.{members, others_of}
use Rattle.formula_parser.specs.Runs.{begins_with}
use Rattle.formula_parser.specs.Escapes.{Elem, byte, kind}
use Rattle.formula_parser.specs.Classes.{IsElem, plain, wide, escaped, AreRange, range_set, begins_range, SpellsItem, lone, range, SpellsItems, one_item, more_items, SpellsClass, of_items, of_others, Within, no_item, after_elem, after_dash, after_range, BeginsItem}
use Rattle.formula_parser.specs.ClassStep.{ClassNext, goes_on, closes, fails, held_set, are_range, takes_elem, takes_token, takes_end, class_step, closed_class, items_at, class_at}
use Rattle.formula_parser.proofs.ElemTokens.{BeginsWide, is_wide_begins, escape_in_read, wide_in_read}
use Rattle.formula_parser.proofs.ClassBytes.{same_or_not}
use Rattle.formula_parser.proofs.ClassSets.{union_empty}
use Rattle.formula_parser.specs.Dialect.{Dialect, alphabet_of, Speaks, wide_in}

-- an element may stand here: one that begins an item, or the second one of a range
abbrev pub MayTake : Within → List ℕ → Type 0
MayTake no_item t = Unit {0}
MayTake (after_elem x q) t = begins_range t ≡ false
MayTake (after_dash x q) t = Unit {0}
MayTake after_range t = Unit {0}

pub may_begin : (w : Within) (t : List ℕ) → BeginsItem w t → MayTake w t
may_begin no_item t h = tt
may_begin (after_elem x q) t h = h
may_begin (after_dash x q) t h = tt
may_begin after_range t h = tt

pub are_range_true : (x y : Elem) → AreRange x y → are_range x y ≡ true
are_range_true (byte a) (byte b) le = grind (arith, nat_tests)
are_range_true (byte a) (kind s) le = absurd le
are_range_true (kind s) y le = absurd le

pub begins_takes : (p len : ℕ) (x : Elem) (s : Bytes) (w : Within) (t : List ℕ) → BeginsItem w t →
    takes_elem p (x, len) s w ≡ goes_on len (held_set s w) (after_elem x p)
begins_takes p len x s no_item t h = refl
begins_takes p len x s (after_elem y q) t h = refl
begins_takes p len x s (after_dash y q) t h = absurd h
begins_takes p len x s after_range t h = refl

-- what was read ends with a whole item, one at least, before this text
abbrev pub IsWhole : Within → List ℕ → Type 0
IsWhole no_item t = ⊥
IsWhole (after_elem x q) t = begins_range t ≡ false
IsWhole (after_dash x q) t = ⊥
IsWhole after_range t = Unit {0}

pub whole_begins : (w : Within) (t : List ℕ) → IsWhole w t → BeginsItem w t
whole_begins no_item t h = tt
whole_begins (after_elem x q) t h = h
whole_begins (after_dash x q) t h = h
whole_begins after_range t h = tt

whole_closes : (p : ℕ) (s : Bytes) (w : Within) (t : List ℕ) → IsWhole w t → takes_end p s w ≡ closes (held_set s w)
whole_closes p s no_item t h = absurd h
whole_closes p s (after_elem x q) t h = refl
whole_closes p s (after_dash x q) t h = absurd h
whole_closes p s after_range t h = refl

-- the class with this set, which takes so many bytes
abbrev pub class_if : ℕ → Bytes → ℕ → Result (Bytes × ℕ) FormulaFault
class_if from s len = if set.len s == 0 then Err (BadRange from) else Ok (s, len)

no_caret : (t rest : List ℕ) → begins_with 94 t ≡ false → begins_with 94 (t ++ 93 ∷ rest) ≡ false
no_caret [] rest h = refl
no_caret (c ∷ t) rest h = h

module _ (lang : Dialect) (speaks : Speaks lang) where
  dash_step : (from p : ℕ) (after : List ℕ) (s : Bytes) (w : Within) → MayTake w (45 ∷ after) →
      class_step lang from p (45 ∷ after) s w ≡ takes_elem p (byte 45, 1) s w
  dash_step from p after s no_item h = refl
  dash_step from p after s (after_elem x q) h = by (begins_with 93 after) refl
    where
      by : (b : Bool) → begins_with 93 after ≡ b → class_step lang from p (45 ∷ after) s (after_elem x q) ≡ takes_elem p (byte 45, 1) s (after_elem x q)
      by true e = ap (λ b. if b then takes_elem p (byte 45, 1) s (after_elem x q) else goes_on 1 s (after_dash x q)) e
      by false e = let no : true ≡ false = sym (ap not e) ∙ h in absurd (cc)
  dash_step from p after s (after_dash x q) h = refl
  dash_step from p after s after_range h = refl

  -- a byte that is an element and no dash
  byte_step : (from p b : ℕ) (after : List ℕ) (s : Bytes) (w : Within) → b < 128 → b ≢ 93 → b ≢ 91 → b ≢ 92 → b ≢ 47 → b ≢ 45 →
      class_step lang from p (b ∷ after) s w ≡ takes_elem p (byte b, 1) s w
  byte_step from p b after s w small n1 n2 n3 n4 n5 = grind (arith, nat_tests)

  -- a byte of 80 or more
  pub wide_step : (from p b : ℕ) (t : List ℕ) (s : Bytes) (w : Within) → b ≢ 93 → b ≢ 91 → b ≢ 47 → 128 ≤ b →
      class_step lang from p (b ∷ t) s w ≡ takes_token p (wide_in lang p (b ∷ t)) s w
  wide_step from p b t s w n1 n2 n3 big = grind (arith, nat_tests)

  wide_text_step : (u : List ℕ) → BeginsWide u → (from p : ℕ) (after : List ℕ) (s : Bytes) (w : Within) →
      class_step lang from p (u ++ after) s w ≡ takes_token p (wide_in lang p (u ++ after)) s w
  wide_text_step u h from p after s w =
      let big = h.big in
      rw h.text
      (wide_step from p h.first (h.others ++ after) s w (λ e. omega (arith, e, big)) (λ e. omega (arith, e, big)) (λ e. omega (arith, e, big)) big)

  -- an element
  pub elem_step : {u : List ℕ} {x : Elem} → IsElem (alphabet_of lang) u x → (from p : ℕ) (after : List ℕ) (s : Bytes) (w : Within) → MayTake w (u ++ after) →
      class_step lang from p (u ++ after) s w ≡ takes_elem p (x, length u) s w
  elem_step (plain {b = b} small n1 n2 n3 n4) from p after s w may = by (same_or_not b 45)
    where
      by : (b ≡ 45) ⊎ (b ≢ 45) → class_step lang from p (b ∷ after) s w ≡ takes_elem p (byte b, 1) s w
      by (inl e) = rw e
          (dash_step from p after s w (rw (← e) may))
      by (inr n5) = byte_step from p b after s w small n1 n2 n3 n4 n5
  elem_step (wide {c = c} is) from p after s w may =
      wide_text_step (encode_utf8 c) (is_wide_begins (alphabet_of lang) c is) from p after s w ∙ ap (λ x. takes_token p x s w) (wide_in_read lang c is after p)
  elem_step (escaped {e = e} {x = x} is) from p after s w may = ap (λ y. takes_token p y s w) (escape_in_read lang e x is after p)

  -- the first byte of an element
  pub record Front (u : List ℕ) : Type 0 where
    pub first : ℕ
    pub others : List ℕ
    pub text : u ≡ first ∷ others
    pub no_end : (first == 93) ≡ false

  pub elem_front : {u : List ℕ} {x : Elem} → IsElem (alphabet_of lang) u x → Front u
  elem_front (plain {b = b} small n1 n2 n3 n4) = record { first = b; others = []; text = refl; no_end = grind (arith, nat_tests) }
  elem_front (wide {c = c} is) =
      let h = is_wide_begins (alphabet_of lang) c is in
      let big = h.big in
      record { first = h.first; others = h.others; text = h.text; no_end = grind (arith, nat_tests) }
  elem_front (escaped {e = e} is) = record { first = 92; others = e; text = refl; no_end = refl }

  pub elem_long : {u : List ℕ} {x : Elem} → IsElem (alphabet_of lang) u x → 0 < length u
  elem_long {u = u} is = let f = elem_front is in omega (arith, ap length f.text)

  -- what follows a step
  abbrev pub after_step : Bool → ℕ → ℕ → List ℕ → ClassNext → Result (Bytes × ℕ) FormulaFault
  after_step negated from p t (goes_on len r w) = items_at lang negated from (len - 1) (p + 1) t r w
  after_step negated from p t (closes r) = closed_class lang negated from (p + 1) r
  after_step negated from p t (fails e) = Err e

  pub items_step : (negated : Bool) (from p c : ℕ) (t : List ℕ) (s : Bytes) (w : Within) →
      items_at lang negated from 0 p (c ∷ t) s w ≡ after_step negated from p t (class_step lang from p (c ∷ t) s w)
  unfolding items_at
  items_step negated from p c t s w = refl

  -- past a token
  past_token : (negated : Bool) (from p : ℕ) (u rest : List ℕ) (s : Bytes) (w : Within) →
      items_at lang negated from (length u) p (u ++ rest) s w ≡ items_at lang negated from 0 (p + length u) rest s w
  unfolding items_at
  past_token negated from p [] rest s w = ap (λ q. items_at lang negated from 0 q rest s w) (omega arith)
  past_token negated from p (c ∷ u) rest s w =
      past_token negated from (p + 1) u rest s w ∙ ap (λ q. items_at lang negated from 0 q rest s w) (omega arith)

  -- a token that goes on
  pub token_goes : (negated : Bool) (from p c : ℕ) (u rest : List ℕ) (s r : Bytes) (w v : Within) →
      class_step lang from p (c ∷ (u ++ rest)) s w ≡ goes_on (suc (length u)) r v →
      items_at lang negated from 0 p (c ∷ (u ++ rest)) s w ≡ items_at lang negated from 0 (p + suc (length u)) rest r v
  token_goes negated from p c u rest s r w v is =
      items_step negated from p c (u ++ rest) s w ∙ ap (after_step negated from p (u ++ rest)) is
      ∙ ap (λ n. items_at lang negated from n (p + 1) (u ++ rest) r v) (omega arith)
      ∙ past_token negated from (p + 1) u rest r v ∙ ap (λ q. items_at lang negated from 0 q rest r v) (omega arith)

  pub elem_goes : {u : List ℕ} {x : Elem} → IsElem (alphabet_of lang) u x → (negated : Bool) (from p : ℕ) (rest : List ℕ) (s r : Bytes) (w v : Within) →
      MayTake w (u ++ rest) → takes_elem p (x, length u) s w ≡ goes_on (length u) r v →
      items_at lang negated from 0 p (u ++ rest) s w ≡ items_at lang negated from 0 (p + length u) rest r v
  elem_goes {u = u} {x = x} is negated from p rest s r w v may takes =
      let f = elem_front is in
      subst (λ y. class_step lang from p (y ++ rest) s w ≡ goes_on (length y) r v →
      items_at lang negated from 0 p (y ++ rest) s w ≡ items_at lang negated from 0 (p + length y) rest r v) (sym f.text)
      (token_goes negated from p f.first f.others rest s r w v) (elem_step is from p rest s w may ∙ takes)

  -- an element is not the end
  pub elem_no_end : {u : List ℕ} {x : Elem} → IsElem (alphabet_of lang) u x → (rest : List ℕ) → begins_with 93 (u ++ rest) ≡ false
  elem_no_end is rest = let f = elem_front is in ap (λ y. begins_with 93 (y ++ rest)) f.text ∙ f.no_end

  -- reading from the place p goes on to the place q, and the items stand for this set then
  pub record Reaches (negated : Bool) (from p q : ℕ) (here after : List ℕ) (s : Bytes) (w : Within) (all : Bytes) : Type 0 where
    pub kept : Bytes
    pub within : Within
    pub holds : held_set kept within ≡ all
    pub whole : IsWhole within after
    pub reads : items_at lang negated from 0 p here s w ≡ items_at lang negated from 0 q after kept within

  pub reaches_item : {u after : List ℕ} {r : Bytes} → SpellsItem (alphabet_of lang) u r after → (negated : Bool) (from p : ℕ) (s : Bytes) (w : Within) → BeginsItem w (u ++ after) →
      Reaches negated from p (p + length u) (u ++ after) after s w (set.union (held_set s w) r)
  reaches_item (lone {t = t} {after = after} {x = x} is stops) negated from p s w begins = record {
    kept = held_set s w;
    within = after_elem x p;
    holds = refl;
    whole = stops;
    reads = elem_goes is negated from p after s (held_set s w) w (after_elem x p) (may_begin w (t ++ after) begins)
        (begins_takes p (length t) x s w (t ++ after) begins);
  }
  reaches_item (range {t = t} {u = u} {after = after} {x = x} {y = y} is are le) negated from p s w begins =
      let rest = 45 ∷ (u ++ after) in
      let same : (t ++ 45 ∷ u) ++ after ≡ t ++ rest = append_assoc t (45 ∷ u) after in
      let begins' : BeginsItem w (t ++ rest) = subst (BeginsItem w) same begins in
      let k = held_set s w in
      let first : items_at lang negated from 0 p (t ++ rest) s w ≡ items_at lang negated from 0 (p + length t) rest k (after_elem x p) =
      elem_goes is negated from p rest s k w (after_elem x p) (may_begin w (t ++ rest) begins') (begins_takes p (length t) x s w (t ++ rest) begins') in
      let dash : items_at lang negated from 0 (p + length t) rest k (after_elem x p) ≡ items_at lang negated from 0 (p + length t + 1) (u ++ after) k (after_dash x p) =
      token_goes negated from (p + length t) 45 [] (u ++ after) k k (after_elem x p) (after_dash x p)
      (ap (λ b. if b then takes_elem (p + length t) (byte 45, 1) k (after_elem x p) else goes_on 1 k (after_dash x p)) (elem_no_end are after)) in
      let second : items_at lang negated from 0 (p + length t + 1) (u ++ after) k (after_dash x p)
      ≡ items_at lang negated from 0 (p + length t + 1 + length u) after (set.union k (range_set x y)) after_range =
      elem_goes are negated from (p + length t + 1) after k (set.union k (range_set x y)) (after_dash x p) after_range tt
      (ap (λ b. if b then goes_on (length u) (set.union k (range_set x y)) after_range else fails (BadRange p)) (are_range_true x y le)) in
      record {
        kept = set.union k (range_set x y);
        within = after_range;
        holds = refl;
        whole = tt;
        reads = ap (λ z. items_at lang negated from 0 p z s w) same ∙ first ∙ dash ∙ second
            ∙ ap (λ q. items_at lang negated from 0 q after (set.union k (range_set x y)) after_range) (omega (arith, length-append t (45 ∷ u)));
      }

  pub reaches_items : {t after : List ℕ} {s : Bytes} → SpellsItems (alphabet_of lang) t s after → (negated : Bool) (from p : ℕ) →
      Reaches negated from p (p + length t) (t ++ after) after set.empty no_item s
  reaches_items (one_item {s = s} is) negated from p =
      let h = reaches_item is negated from p set.empty no_item tt in record {
        kept = h.kept;
        within = h.within;
        holds = h.holds ∙ union_empty s;
        whole = h.whole;
        reads = h.reads;
      }
  reaches_items (more_items {t = t} {u = u} {after = after} {s = s} {r = r} are is) negated from p =
      let g = reaches_items are negated from p in
      let h = reaches_item is negated from (p + length t) g.kept g.within (whole_begins g.within (u ++ after) g.whole) in record {
        kept = h.kept;
        within = h.within;
        holds = h.holds ∙ ap (λ x. set.union x r) g.holds;
        whole = h.whole;
        reads = ap (λ z. items_at lang negated from 0 p z set.empty no_item) (append_assoc t u after) ∙ g.reads ∙ h.reads
            ∙ ap (λ q. items_at lang negated from 0 q after h.kept h.within) (omega (arith, length-append t u));
      }

  pub items_close : {t after : List ℕ} {s : Bytes} → SpellsItems (alphabet_of lang) t s (93 ∷ after) → (negated : Bool) (from p : ℕ) →
      items_at lang negated from 0 p (t ++ 93 ∷ after) set.empty no_item ≡ closed_class lang negated from (p + length t + 1) s
  items_close {t = t} {after = after} {s = s} are negated from p =
      let h = reaches_items are negated from p in
      h.reads ∙ items_step negated from (p + length t) 93 after h.kept h.within
      ∙ ap (after_step negated from (p + length t) after) (whole_closes (p + length t) h.kept h.within (93 ∷ after) h.whole)
      ∙ ap (closed_class lang negated from (p + length t + 1)) h.holds

  -- the choice that `class_at` makes
  abbrev pub class_of : ℕ → List ℕ → Bool → Result (Bytes × ℕ) FormulaFault
  class_of from t negated =
      if negated then items_at lang true from 0 (from + 2) (drop 1 t) set.empty no_item else items_at lang false from 0 (from + 1) t set.empty no_item

  pub class_closes : {u after : List ℕ} {s : Bytes} → SpellsClass (alphabet_of lang) u s after → (from : ℕ) → class_at lang from (u ++ after) ≡ class_if from s (suc (length u))
  unfolding class_at
  class_closes (of_items {t = t} {after = after} {s = s} first are) from =
      let same : (t ++ 93 ∷ []) ++ after ≡ t ++ 93 ∷ after = append_assoc t (93 ∷ []) after in
      ap (λ x. class_of from x (begins_with 94 x)) same
      ∙ ap (class_of from (t ++ 93 ∷ after)) (no_caret t after first)
      ∙ items_close are false from (from + 1)
      ∙ ap (class_if from (members (alphabet_of lang) s)) (omega (arith, length-append t (93 ∷ [])))
  class_closes (of_others {t = t} {after = after} {s = s} are) from =
      let same : (t ++ 93 ∷ []) ++ after ≡ t ++ 93 ∷ after = append_assoc t (93 ∷ []) after in
      ap (λ x. items_at lang true from 0 (from + 2) x set.empty no_item) same
      ∙ items_close are true from (from + 2)
      ∙ ap (class_if from (others_of (alphabet_of lang) s)) (omega (arith, length-append t (93 ∷ [])))
