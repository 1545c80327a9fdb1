-- The text of a class that was read, and the fault that is met in it.
use Rattle.std.proofs.Common.{◌≡◌, ◌≢◌, ℕ, ◌+◌, ◌<◌, ◌≤◌, Bool, true, false, not, List, [], ◌∷◌, ◌++◌, length, drop, drop-drop, Ok, Err, ap, sym, refl, ◌∙◌, subst, arith, if◌then◌else◌, append_assoc, length-append, ◌⊎◌, inl, inr}
use Rattle.std.specs.FinSet as set
use Rattle.std.proofs.lemmas.Bool.Decides.{nat_tests}
use Rattle.formula_parser.specs.declared.fault.FormulaFault.TheVariants.{BadRange}
use Rattle.formula_parser.specs.Sets.{Bytes}
use Rattle.formula_parser.specs.Runs.{begins_with}
use Rattle.formula_parser.specs.Escapes.{Elem, byte, kind, elem_set}
use Rattle.std.specs.Char.{encode_utf8}
use Rattle.formula_parser.specs.Classes.{IsElem, plain, wide, escaped, BeginsNoElem, AreRange, range_set, begins_range, SpellsItem, lone, range, SpellsItems, one_item, more_items, Within, no_item, after_elem, after_dash, after_range, BeginsItem, ReadsClass, elem_read, dash_read, range_read, HasClassFault, nothing_in_class, bracket_in_class, wide_in_class, slash_in_class, escape_in_class, bad_range}
use Rattle.formula_parser.specs.ClassStep.{ClassNext, goes_on, closes, fails, held_set, are_range, takes_elem, takes_token, takes_dash, takes_end, class_step}
use Rattle.formula_parser.proofs.ElemTokens.{escape_in_is, escape_fault_is, wide_in_is, wide_fault_is}
use Rattle.formula_parser.proofs.RunLaws.{after_token}
use Rattle.formula_parser.proofs.ClassBytes.{ClassByte, is_end, is_bracket, is_slash, is_backslash, is_dash, is_wide, is_plain}
use Rattle.formula_parser.proofs.ClassSets.{union_empty}
use Rattle.formula_parser.proofs.ClassRead.{MayTake, elem_step, elem_long, wide_step, IsWhole}
use Rattle.formula_parser.specs.Dialect.{Dialect, alphabet_of, Speaks, ElemToken, escape_in, wide_in}

-- where the items begin
abbrev pub start_of : Bool → ℕ → ℕ
start_of true from = from + 2
start_of false from = from + 1

if_meets : (b : Bool) (x y : ClassNext) (P : ClassNext → Type 0) → (b ≡ true → P x) → (b ≡ false → P y) → P (if b then x else y)
if_meets true x y P first second = first refl
if_meets false x y P first second = second refl

pub drop_token : (text : List ℕ) (p : ℕ) (u rest : List ℕ) → drop p text ≡ u ++ rest → drop (p + length u) text ≡ rest
drop_token text p u rest e = sym (drop-drop (length u) p text) ∙ ap (drop (length u)) e ∙ after_token u rest

pub range_or_not : (x y : Elem) → are_range x y ≡ true → AreRange x y
range_or_not (byte a) (byte b) h = grind (arith, nat_tests)
range_or_not (byte a) (kind s) h = absurd (cc)
range_or_not (kind s) y h = absurd (cc)

pub no_range : (x y : Elem) → are_range x y ≡ false → AreRange x y → ⊥
no_range (byte a) (byte b) h le = grind (arith, nat_tests)
no_range (byte a) (kind s) h le = le
no_range (kind s) y h le = le

pub plain_may : (w : Within) (b : ℕ) (t : List ℕ) → b ≢ 45 → MayTake w (b ∷ t)
plain_may no_item b t h = tt
plain_may (after_elem y q) b t h = grind (arith, nat_tests)
plain_may (after_dash y q) b t h = tt
plain_may after_range b t h = tt

module _ (lang : Dialect) (speaks : Speaks lang) where
  -- the items before the last element
  pub Before : List ℕ → Bytes → List ℕ → Type 0
  Before t s after = ((t ≡ []) × (s ≡ set.empty)) ⊎ SpellsItems (alphabet_of lang) t s after

  items_at_text : {s : Bytes} {after : List ℕ} (t u : List ℕ) → t ≡ u → SpellsItems (alphabet_of lang) t s after → SpellsItems (alphabet_of lang) u s after
  items_at_text {s = s} {after = after} t u e = subst (λ x. SpellsItems (alphabet_of lang) x s after) e

  -- one item more
  item_more : (a u after : List ℕ) (s r : Bytes) → Before a s (u ++ after) → SpellsItem (alphabet_of lang) u r after → SpellsItems (alphabet_of lang) (a ++ u) (set.union s r) after
  unfolding Before
  item_more a u after s r (inl none) is =
      rw none.0
      (rw (← (sym (union_empty r) ∙ ap (λ x. set.union x r) (sym none.1))) (one_item is))
  item_more a u after s r (inr are) is = more_items are is

  before_at : (a : List ℕ) (s : Bytes) (b c : List ℕ) → b ≡ c → Before a s b → Before a s c
  before_at a s b c e = subst (Before a s) e

  -- the text of the items that were read, by the last thing read
  unfoldable pub Stands : List ℕ → Bytes → Within → List ℕ → Type 0
  Stands t s no_item after = (t ≡ []) × (s ≡ set.empty)
  Stands t s (after_elem x q) after = (a : List ℕ) × (u : List ℕ) × (t ≡ a ++ u) × Before a s (u ++ after) × IsElem (alphabet_of lang) u x
  Stands t s (after_dash x q) after =
      (a : List ℕ) × (u : List ℕ) × (t ≡ a ++ (u ++ 45 ∷ [])) × Before a s (u ++ 45 ∷ after) × IsElem (alphabet_of lang) u x × (begins_with 93 after ≡ false)
  Stands t s after_range after = SpellsItems (alphabet_of lang) t s after

  -- whole items, one at least
  whole_items : (t : List ℕ) (s : Bytes) (w : Within) (after : List ℕ) → Stands t s w after → IsWhole w after → SpellsItems (alphabet_of lang) t (held_set s w) after
  unfolding Stands
  whole_items t s no_item after h w = absurd w
  whole_items t s (after_elem x q) after (a, u, text, before, is) w =
      items_at_text (a ++ u) t (sym text) (item_more a u after s (elem_set x) before (lone is w))
  whole_items t s (after_dash x q) after h w = absurd w
  whole_items t s after_range after h w = h

  begun_items : (t : List ℕ) (s : Bytes) (w : Within) (after : List ℕ) → Stands t s w after → BeginsItem w after → Before t (held_set s w) after
  unfolding Stands Before
  begun_items t s no_item after h w = inl h
  begun_items t s (after_elem x q) after h w = inr (whole_items t s (after_elem x q) after h w)
  begun_items t s (after_dash x q) after h w = absurd w
  begun_items t s after_range after h w = inr h

  -- an element that begins an item
  stands_elem : (t u after : List ℕ) (s : Bytes) (w : Within) (x : Elem) (p : ℕ) → Stands t s w (u ++ after) → BeginsItem w (u ++ after) → IsElem (alphabet_of lang) u x →
      Stands (t ++ u) (held_set s w) (after_elem x p) after
  unfolding Stands
  stands_elem t u after s w x p h begins is = (t, u, refl, begun_items t s w (u ++ after) h begins, is)

  stands_dash : (t after : List ℕ) (s : Bytes) (x : Elem) (q : ℕ) → Stands t s (after_elem x q) (45 ∷ after) → begins_with 93 after ≡ false →
      Stands (t ++ 45 ∷ []) s (after_dash x q) after
  unfolding Stands
  stands_dash t after s x q (a, u, text, before, is) stops =
      (a, u, ap (λ y. y ++ 45 ∷ []) text ∙ append_assoc a u (45 ∷ []), before, is, stops)

  stands_range : (t v after : List ℕ) (s : Bytes) (x y : Elem) (q : ℕ) → Stands t s (after_dash x q) (v ++ after) → IsElem (alphabet_of lang) v y → AreRange x y →
      Stands (t ++ v) (set.union s (range_set x y)) after_range after
  unfolding Stands
  stands_range t v after s x y q (a, u, text, before, is, stops) are le =
      let same : u ++ 45 ∷ (v ++ after) ≡ (u ++ 45 ∷ v) ++ after = sym (append_assoc u (45 ∷ v) after) in
      let whole : a ++ (u ++ 45 ∷ v) ≡ (a ++ (u ++ 45 ∷ [])) ++ v = simp append_assoc in
      items_at_text (a ++ (u ++ 45 ∷ v)) (t ++ v) (whole ∙ ap (λ z. z ++ v) (sym text))
      (item_more a (u ++ 45 ∷ v) after s (range_set x y) (before_at a s (u ++ 45 ∷ (v ++ after)) ((u ++ 45 ∷ v) ++ after) same before) (range is are le))

  -- a `^` follows the `[`, or not
  unfoldable pub IsNegated : Bool → List ℕ → ℕ → Type 0
  IsNegated true text from = drop (from + 1) text ≡ 94 ∷ drop (from + 2) text
  IsNegated false text from = begins_with 94 (drop (from + 1) text) ≡ false

  -- the class was read to before the place p
  pub record Holds (negated : Bool) (text : List ℕ) (from p : ℕ) (s : Bytes) (w : Within) : Type 0 where
    pub items : List ℕ
    pub reads : ReadsClass (alphabet_of lang) text from p w
    pub stands : Stands items s w (drop p text)
    pub splits : drop (start_of negated from) text ≡ items ++ drop p text
    pub place : p ≡ start_of negated from + length items

  -- the class ends at the place p, and these are its items
  pub record Ends (negated : Bool) (text : List ℕ) (from p : ℕ) (s : Bytes) : Type 0 where
    pub items : List ℕ
    pub after : List ℕ
    pub spells : SpellsItems (alphabet_of lang) items s (93 ∷ after)
    pub splits : drop (start_of negated from) text ≡ items ++ 93 ∷ after
    pub place : p ≡ start_of negated from + length items

  -- what a step makes of the class
  unfoldable pub Meets : Bool → List ℕ → ℕ → ℕ → ClassNext → Type 0
  Meets negated text from p (goes_on len s w) = (0 < len) × (p + len ≤ p + length (drop p text)) × Holds negated text from (p + len) s w
  Meets negated text from p (closes s) = Ends negated text from p s
  Meets negated text from p (fails e) = HasClassFault (alphabet_of lang) text from e

  -- a token more
  holds_more : {negated : Bool} {text : List ℕ} {from p : ℕ} {s : Bytes} {w : Within} (h : Holds negated text from p s w) (u rest : List ℕ) (r : Bytes) (v : Within) →
      drop p text ≡ u ++ rest → 0 < length u → ReadsClass (alphabet_of lang) text from (p + length u) v → Stands (h.items ++ u) r v rest →
      Meets negated text from p (goes_on (length u) r v)
  unfolding Meets
  holds_more {negated = negated} {text = text} {from = from} {p = p} h u rest r v e some reads stands =
      let others : drop (p + length u) text ≡ rest = drop_token text p u rest e in (
        some,
        (let n : length (drop p text) ≡ length u + length rest = ap length e ∙ length-append u rest in omega arith),
        record {
          items = h.items ++ u;
          reads = reads;
          stands = subst (Stands (h.items ++ u) r v) (sym others) stands;
          splits = h.splits ∙ ap (λ z. h.items ++ z) (e ∙ ap (λ z. u ++ z) (sym others)) ∙ sym (append_assoc h.items u (drop (p + length u) text));
          place = (let n = h.place in omega (arith, length-append h.items u));
        },
      )

  -- an element that begins an item
  begun_meets : (negated : Bool) (text : List ℕ) (from p : ℕ) (u rest : List ℕ) (s : Bytes) (w : Within) (x : Elem) → Holds negated text from p s w →
      drop p text ≡ u ++ rest → BeginsItem w (u ++ rest) → IsElem (alphabet_of lang) u x → Meets negated text from p (goes_on (length u) (held_set s w) (after_elem x p))
  begun_meets negated text from p u rest s w x h e begins is =
      holds_more h u rest (held_set s w) (after_elem x p) e (elem_long lang speaks is)
      (elem_read h.reads (subst (BeginsItem w) (sym e) begins) is (rest, e))
      (stands_elem h.items u rest s w x p (subst (Stands h.items s w) e h.stands) begins is)

  elem_meets : (negated : Bool) (text : List ℕ) (from p : ℕ) (u rest : List ℕ) (s : Bytes) (w : Within) (x : Elem) → Holds negated text from p s w →
      drop p text ≡ u ++ rest → MayTake w (u ++ rest) → IsElem (alphabet_of lang) u x → Meets negated text from p (takes_elem p (x, length u) s w)
  unfolding Meets
  elem_meets negated text from p u rest s no_item x h e may is = begun_meets negated text from p u rest s no_item x h e tt is
  elem_meets negated text from p u rest s (after_elem y q) x h e may is = begun_meets negated text from p u rest s (after_elem y q) x h e may is
  elem_meets negated text from p u rest s (after_dash y q) x h e may is =
      if_meets (are_range y x) (goes_on (length u) (set.union s (range_set y x)) after_range) (fails (BadRange q)) (Meets negated text from p)
      (λ b. holds_more h u rest (set.union s (range_set y x)) after_range e (elem_long lang speaks is)
      (range_read h.reads is (rest, e) (range_or_not y x b))
      (stands_range h.items u rest s y x q (subst (Stands h.items s (after_dash y q)) e h.stands) is (range_or_not y x b)))
      (λ b. fault b)
    where
      fault : are_range y x ≡ false → Meets negated text from p (fails (BadRange q))
      fault b = bad_range h.reads is (rest, e) (no_range y x b)
  elem_meets negated text from p u rest s after_range x h e may is = begun_meets negated text from p u rest s after_range x h e tt is

  escape_meets : (negated : Bool) (text : List ℕ) (from p : ℕ) (t : List ℕ) (s : Bytes) (w : Within) → Holds negated text from p s w → drop p text ≡ 92 ∷ t →
      (found : ElemToken) → escape_in lang p t ≡ found → Meets negated text from p (takes_token p found s w)
  unfolding Meets
  escape_meets negated text from p t s w h e (Err f) none = escape_in_class h.reads (escape_fault_is lang text p t f e none)
  escape_meets negated text from p t s w h e (Ok x) found =
      let g = escape_in_is lang t p x found in
      rw g.takes
      (elem_meets negated text from p (92 ∷ g.text) g.rest s w x.0 h (e ∙ ap (λ z. 92 ∷ z) g.splits) (not_dash w g.text g.rest) (escaped g.is))
    where
      not_dash : (w : Within) (a b : List ℕ) → MayTake w (92 ∷ (a ++ b))
      not_dash no_item a b = tt
      not_dash (after_elem y q) a b = refl
      not_dash (after_dash y q) a b = tt
      not_dash after_range a b = tt

  wide_meets : (negated : Bool) (text : List ℕ) (from p b : ℕ) (t : List ℕ) (s : Bytes) (w : Within) → Holds negated text from p s w → drop p text ≡ b ∷ t → 128 ≤ b →
      (found : ElemToken) → wide_in lang p (b ∷ t) ≡ found → Meets negated text from p (takes_token p found s w)
  unfolding Meets
  wide_meets negated text from p b t s w h e big (Err f) is =
      let fault = wide_fault_is lang (b ∷ t) p f (grind (arith, nat_tests)) is in
      rw fault.0
      (wide_in_class h.reads (t, e) big (subst (BeginsNoElem (alphabet_of lang)) (sym e) fault.1))
  wide_meets negated text from p b t s w h e big (Ok x) is =
      let (c, rest, known, same, takes) = wide_in_is lang (b ∷ t) p x (grind (arith, nat_tests)) is in
      rw takes
      (elem_meets negated text from p (encode_utf8 c) rest s w (byte c) h (e ∙ same)
      (subst (MayTake w) same (plain_may w b t (λ n. omega (arith, n, big)))) (wide known))

  dash_elem : IsElem (alphabet_of lang) (45 ∷ []) (byte 45)
  dash_elem = plain (omega arith) (λ e. omega (arith, e)) (λ e. omega (arith, e)) (λ e. omega (arith, e)) (λ e. omega (arith, e))

  dash_meets : (negated : Bool) (text : List ℕ) (from p : ℕ) (t : List ℕ) (s : Bytes) (w : Within) → Holds negated text from p s w → drop p text ≡ 45 ∷ t →
      Meets negated text from p (takes_dash p t s w)
  dash_meets negated text from p t s no_item h e = elem_meets negated text from p (45 ∷ []) t s no_item (byte 45) h e tt dash_elem
  dash_meets negated text from p t s (after_elem x q) h e =
      if_meets (begins_with 93 t) (takes_elem p (byte 45, 1) s (after_elem x q)) (goes_on 1 s (after_dash x q)) (Meets negated text from p)
      (λ b. elem_meets negated text from p (45 ∷ []) t s (after_elem x q) (byte 45) h e (ap not b) dash_elem)
      (λ b. holds_more h (45 ∷ []) t s (after_dash x q) e (omega arith)
      (dash_read h.reads (ap begins_range e ∙ ap not b))
      (stands_dash h.items t s x q (subst (Stands h.items s (after_elem x q)) e h.stands) b))
  dash_meets negated text from p t s (after_dash x q) h e = elem_meets negated text from p (45 ∷ []) t s (after_dash x q) (byte 45) h e tt dash_elem
  dash_meets negated text from p t s after_range h e = elem_meets negated text from p (45 ∷ []) t s after_range (byte 45) h e tt dash_elem

  end_meets : (negated : Bool) (text : List ℕ) (from p : ℕ) (t : List ℕ) (s : Bytes) (w : Within) → Holds negated text from p s w → drop p text ≡ 93 ∷ t →
      Meets negated text from p (takes_end p s w)
  unfolding Meets Stands
  end_meets negated text from p t s no_item h e = nothing_in_class h.reads (t, e)
  end_meets negated text from p t s (after_elem x q) h e = record {
    items = h.items;
    after = t;
    spells = whole_items h.items s (after_elem x q) (93 ∷ t) (subst (Stands h.items s (after_elem x q)) e h.stands) refl;
    splits = h.splits ∙ ap (λ z. h.items ++ z) e;
    place = h.place;
  }
  end_meets negated text from p t s (after_dash x q) h e =
      let (a, u, text, before, is, stops) = subst (Stands h.items s (after_dash x q)) e h.stands in absurd (cc)
  end_meets negated text from p t s after_range h e = record {
    items = h.items;
    after = t;
    spells = whole_items h.items s after_range (93 ∷ t) (subst (Stands h.items s after_range) e h.stands) tt;
    splits = h.splits ∙ ap (λ z. h.items ++ z) e;
    place = h.place;
  }

  pub meets : {c : ℕ} → ClassByte c → (negated : Bool) (text : List ℕ) (from p : ℕ) (t : List ℕ) (s : Bytes) (w : Within) → Holds negated text from p s w →
      drop p text ≡ c ∷ t → Meets negated text from p (class_step lang from p (c ∷ t) s w)
  unfolding Meets
  meets is_end negated text from p t s w h e = end_meets negated text from p t s w h e
  meets is_bracket negated text from p t s w h e = bracket_in_class h.reads (t, e)
  meets is_slash negated text from p t s w h e = slash_in_class h.reads (t, e)
  meets is_backslash negated text from p t s w h e = escape_meets negated text from p t s w h e (escape_in lang p t) refl
  meets is_dash negated text from p t s w h e = dash_meets negated text from p t s w h e
  meets (is_wide {b = b} n1 n2 n3 big) negated text from p t s w h e =
      subst (Meets negated text from p) (sym (wide_step lang speaks from p b t s w n1 n2 n3 big))
      (wide_meets negated text from p b t s w h e big (wide_in lang p (b ∷ t)) refl)
  meets (is_plain {b = b} small n1 n2 n3 n4 n5) negated text from p t s w h e =
      let is : IsElem (alphabet_of lang) (b ∷ []) (byte b) = plain small n1 n2 n3 n4 in
      subst (Meets negated text from p) (sym (elem_step lang speaks is from p t s w (plain_may w b t n5)))
      (elem_meets negated text from p (b ∷ []) t s w (byte b) h e (plain_may w b t n5) is)
