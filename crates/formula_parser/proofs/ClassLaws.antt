-- What spells a class is read as one, and the other way round; its faults likewise.
use Rattle.std.proofs.Common.{◌≡◌, ℕ, zero, suc, ◌+◌, ◌-◌, ◌≤◌, Bool, true, false, List, [], ◌∷◌, ◌++◌, length, drop, drop-drop, Result, Ok, Err, ap, sym, refl, ◌∙◌, subst, arith, append_assoc, length-append, if◌then◌else◌, ◌==◌}
use Rattle.std.specs.FinSet as set
use Rattle.spanner_model.specs.WellBuilt.{IsByteClass}
use Rattle.formula_parser.specs.declared.fault.FormulaFault.{FormulaFault}
use Rattle.formula_parser.specs.declared.fault.FormulaFault.TheVariants.{BadRange}
use Rattle.formula_parser.specs.Sets.{Bytes}
use Rattle.formula_parser.specs.Alphabet.{of_bytes, members, others_of}
use Rattle.formula_parser.specs.Runs.{begins_with}
use Rattle.formula_parser.specs.Classes.{SpellsClass, of_items, of_others, IsClass, Within, no_item, bracket_read, negation_read, ReadsClass, HasClassFault, text_ends_in_class, empty_class}
use Rattle.formula_parser.specs.ClassStep.{ClassNext, goes_on, closes, fails, class_step, closed_class, items_at, class_at}
use Rattle.formula_parser.proofs.HeadLaws.{byte_front}
use Rattle.formula_parser.proofs.ClassBytes.{class_byte}
use Rattle.formula_parser.proofs.ClassSets.{counts_none, none_counted, some_counted, class_bytes}
use Rattle.formula_parser.proofs.ClassRead.{after_step, items_step, class_if, class_of, class_closes}
use Rattle.formula_parser.proofs.ClassTexts.{Stands, start_of, IsNegated, Holds, Ends, Meets, meets}
use Rattle.formula_parser.proofs.ClassFaults.{fault_read}
use Rattle.formula_parser.specs.Dialect.{Dialect, alphabet_of, Speaks}

no_caret : (items rest : List ℕ) → begins_with 94 (items ++ rest) ≡ false → begins_with 94 items ≡ false
no_caret [] rest h = refl
no_caret (c ∷ items) rest h = h

-- a text with this at the place n
padded : ℕ → List ℕ → List ℕ
padded zero t = 91 ∷ t
padded (suc n) t = 0 ∷ padded n t

drop_padded : (n : ℕ) (t : List ℕ) → drop (n + 1) (padded n t) ≡ t
unfolding padded
drop_padded zero t = refl
drop_padded (suc n) t =
    let next : suc n + 1 ≡ suc (n + 1) = omega arith in
    ap (λ k. drop k (0 ∷ padded n t)) next ∙ drop_padded n t

past_bracket : (text : List ℕ) (from : ℕ) (t : List ℕ) → drop from text ≡ 91 ∷ t → drop (from + 1) text ≡ t
past_bracket text from t stands = sym (drop-drop 1 from text) ∙ ap (drop 1) stands

-- a class is of bytes, and not empty
pub class_built : {u after : List ℕ} {s : Bytes} → IsClass of_bytes u s after → IsByteClass s
class_built (spells, some) = (some, class_bytes spells)

module _ (lang : Dialect) (speaks : Speaks lang) where
  -- what stands at the front is the text of a class after its `[`
  pub record ClassText (t : List ℕ) (s : Bytes) (len : ℕ) : Type 0 where
    pub text : List ℕ
    pub rest : List ℕ
    pub splits : t ≡ text ++ rest
    pub is : IsClass (alphabet_of lang) text s rest
    pub takes : len ≡ suc (length text)

  pub class_read : {u after : List ℕ} {s : Bytes} → IsClass (alphabet_of lang) u s after → (at : ℕ) → class_at lang at (u ++ after) ≡ Ok (s, suc (length u))
  class_read {u = u} {s = s} (spells, some) at =
      class_closes lang speaks spells at ∙ ap (λ b. if b then Err (BadRange at) else Ok (s, suc (length u))) (some_counted s some)

  -- what an answer says of the class whose `[` stands at `from`
  pub Tells : List ℕ → ℕ → Result (Bytes × ℕ) FormulaFault → Type 0
  Tells text from (Ok x) = ClassText (drop (from + 1) text) x.0 x.1
  Tells text from (Err e) = HasClassFault (alphabet_of lang) text from e

  -- its set
  end_set : Bool → Bytes → Bytes
  end_set true s = others_of (alphabet_of lang) s
  end_set false s = members (alphabet_of lang) s

  record Closed (negated : Bool) (text : List ℕ) (from p : ℕ) (s : Bytes) : Type 0 where
    inside : List ℕ
    after : List ℕ
    splits : drop (from + 1) text ≡ inside ++ after
    spells : SpellsClass (alphabet_of lang) inside s after
    takes : p + 1 - from ≡ suc (length inside)

  closed : (negated : Bool) (text : List ℕ) (from p : ℕ) (s : Bytes) → IsNegated lang speaks negated text from → Ends lang speaks negated text from p s →
      Closed negated text from p (end_set negated s)
  unfolding IsNegated end_set
  closed true text from p s caret e = record {
    inside = 94 ∷ (e.items ++ 93 ∷ []);
    after = e.after;
    splits = caret ∙ ap (λ z. 94 ∷ z) (e.splits ∙ sym (append_assoc e.items (93 ∷ []) e.after));
    spells = of_others e.spells;
    takes = (let n = e.place in omega (arith, length-append e.items (93 ∷ [])));
  }
  closed false text from p s caret e = record {
    inside = e.items ++ 93 ∷ [];
    after = e.after;
    splits = e.splits ∙ sym (append_assoc e.items (93 ∷ []) e.after);
    spells = of_items (no_caret e.items (93 ∷ e.after) (ap (begins_with 94) (sym e.splits) ∙ caret)) e.spells;
    takes = (let n = e.place in omega (arith, length-append e.items (93 ∷ [])));
  }

  class_told : (negated : Bool) (text : List ℕ) (from p : ℕ) (s : Bytes) → Closed negated text from p s → Tells text from (class_if from s (p + 1 - from))
  unfolding Tells
  class_told negated text from p s c = by (set.len s == 0) refl
    where
      by : (b : Bool) → (set.len s == 0) ≡ b → Tells text from (if b then Err (BadRange from) else Ok (s, p + 1 - from))
      by true e = empty_class c.splits (rw (counts_none s e) at c.spells)
      by false e = record {
        text = c.inside;
        rest = c.after;
        splits = c.splits;
        is = (c.spells, λ none. let no : true ≡ false = sym (none_counted s none) ∙ e in absurd (cc));
        takes = c.takes;
      }

  close_told : (negated : Bool) (text : List ℕ) (from p : ℕ) (s : Bytes) → IsNegated lang speaks negated text from → Ends lang speaks negated text from p s →
      Tells text from (closed_class lang negated from (p + 1) s)
  unfolding end_set
  close_told true text from p s caret e = class_told true text from p (others_of (alphabet_of lang) s) (closed true text from p s caret e)
  close_told false text from p s caret e = class_told false text from p (members (alphabet_of lang) s) (closed false text from p s caret e)

  -- the answers to the rest are told
  abbrev pub TellsRest : Bool → List ℕ → ℕ → ℕ → List ℕ → Type 0
  TellsRest negated text from p t =
      (skip q : ℕ) (s : Bytes) (w : Within) → q ≡ p + skip → skip ≤ length t → Holds lang speaks negated text from q s w → Tells text from (items_at lang negated from skip p t s w)

  step_told : (negated : Bool) (text : List ℕ) (from p c : ℕ) (t : List ℕ) → IsNegated lang speaks negated text from → drop p text ≡ c ∷ t →
      TellsRest negated text from (p + 1) t → (n : ClassNext) → Meets lang speaks negated text from p n → Tells text from (after_step lang speaks negated from p t n)
  unfolding Meets Tells
  step_told negated text from p c t caret stands rest (goes_on len s w) (some, few, h) =
      let n : length (drop p text) ≡ suc (length t) = ap length stands in
      rest (len - 1) (p + len) s w (omega arith) (omega arith) h
  step_told negated text from p c t caret stands rest (closes s) ends = close_told negated text from p s caret ends
  step_told negated text from p c t caret stands rest (fails e) fault = fault

  rest_told : (negated : Bool) (text : List ℕ) (from p : ℕ) (t : List ℕ) → IsNegated lang speaks negated text from → drop p text ≡ t → TellsRest negated text from p t
  unfolding Tells items_at
  rest_told negated text from p [] caret stands zero q s w same few h =
      let here : p ≡ q = omega arith in
      text_ends_in_class h.reads (ap (λ n. drop n text) (sym here) ∙ stands)
  rest_told negated text from p [] caret stands (suc skip) q s w same few h = absurd (omega (arith, few))
  rest_told negated text from p (c ∷ t) caret stands zero q s w same few h =
      let here : q ≡ p = omega arith in
      let next : drop (p + 1) text ≡ t = sym (drop-drop 1 p text) ∙ ap (drop 1) stands in
      subst (Tells text from) (sym (items_step lang speaks negated from p c t s w))
      (step_told negated text from p c t caret stands (rest_told negated text from (p + 1) t caret next) (class_step lang from p (c ∷ t) s w)
      (meets lang speaks (class_byte c) negated text from p t s w (rw here at h) stands))
  rest_told negated text from p (c ∷ t) caret stands (suc skip) q s w same few h =
      let next : drop (p + 1) text ≡ t = sym (drop-drop 1 p text) ∙ ap (drop 1) stands in
      rest_told negated text from (p + 1) t caret next skip q s w (omega arith) (omega (arith, few)) h

  starts : (negated : Bool) (text : List ℕ) (from : ℕ) → ReadsClass (alphabet_of lang) text from (start_of negated from) no_item →
      Holds lang speaks negated text from (start_of negated from) set.empty no_item
  unfolding Stands
  starts negated text from reads = record {
    items = [];
    reads = reads;
    stands = (refl, refl);
    splits = refl;
    place = omega arith;
  }

  pub class_told_at : (text : List ℕ) (from : ℕ) → Tells text from (class_at lang from (drop (from + 1) text))
  unfolding class_at IsNegated
  class_told_at text from = by (begins_with 94 (drop (from + 1) text)) refl
    where
      t : List ℕ
      t = drop (from + 1) text

      by : (b : Bool) → begins_with 94 t ≡ b → Tells text from (class_of lang speaks from t b)
      by true e =
          let front = byte_front 94 t e in
          let others : drop 1 t ≡ drop (from + 2) text = drop-drop 1 (from + 1) text ∙ ap (λ n. drop n text) (omega arith) in
          let caret : t ≡ 94 ∷ drop (from + 2) text = front.1 ∙ ap (λ z. 94 ∷ z) (ap (drop 1) (sym front.1) ∙ others) in
          rw others
          (rest_told true text from (from + 2) (drop (from + 2) text) caret refl 0 (from + 2) set.empty no_item (omega arith) (omega arith)
          (starts true text from (negation_read (front.0, front.1))))
      by false e =
          rest_told false text from (from + 1) t e refl 0 (from + 1) set.empty no_item (omega arith) (omega arith)
          (starts false text from (bracket_read e))

  pub class_is : (at : ℕ) (t : List ℕ) (x : Bytes × ℕ) → class_at lang at t ≡ Ok x → ClassText t x.0 x.1
  unfolding Tells
  class_is at t x e =
      let same = drop_padded at t in
      rw (← same) (subst (Tells (padded at t) at) (ap (class_at lang at) same ∙ e) (class_told_at (padded at t) at))

  pub class_fault_read : (text : List ℕ) (from : ℕ) {e : FormulaFault} → HasClassFault (alphabet_of lang) text from e → (t : List ℕ) → drop from text ≡ 91 ∷ t →
      class_at lang from t ≡ Err e
  class_fault_read text from fault t stands = ap (class_at lang from) (sym (past_bracket text from t stands)) ∙ fault_read lang speaks text from fault

  pub class_fault_is : (text : List ℕ) (from : ℕ) (e : FormulaFault) (t : List ℕ) → drop from text ≡ 91 ∷ t → class_at lang from t ≡ Err e →
      HasClassFault (alphabet_of lang) text from e
  unfolding Tells
  class_fault_is text from e t stands is =
      subst (Tells text from) (ap (class_at lang from) (past_bracket text from t stands) ∙ is) (class_told_at text from)
