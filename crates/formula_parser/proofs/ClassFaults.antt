-- A fault of a class is what reading it answers.
use Rattle.std.proofs.Common.{◌≡◌, ℕ, suc, ◌+◌, Bool, true, false, not, ◌==◌, List, [], ◌∷◌, ◌++◌, length, drop, drop-drop, Ok, Err, ap, sym, refl, ◌∙◌, subst, arith, if◌then◌else◌}
use Rattle.std.specs.FinSet as set
use Rattle.std.proofs.lemmas.Bool.Decides.{nat_tests}
use Rattle.formula_parser.specs.declared.fault.FormulaFault.{FormulaFault}
use Rattle.formula_parser.specs.declared.fault.FormulaFault.TheVariants.{Unexpected, Unclosed, BadRange}
use Rattle.formula_parser.specs.Sets.{Bytes}
use Rattle.formula_parser.specs.Runs.{begins_with}
use Rattle.formula_parser.specs.Escapes.{Elem, byte}
use Rattle.formula_parser.specs.Classes.{IsElem, BeginsNoElem, AreRange, range_set, begins_range, Within, no_item, after_elem, after_dash, after_range, BeginsItem, ReadsClass, bracket_read, negation_read, elem_read, dash_read, range_read, HasClassFault, nothing_in_class, bracket_in_class, wide_in_class, slash_in_class, text_ends_in_class, escape_in_class, bad_range, empty_class}
use Rattle.formula_parser.specs.ClassStep.{goes_on, fails, held_set, are_range, takes_elem, takes_token, class_step, items_at, class_at}
use Rattle.formula_parser.proofs.ElemTokens.{escape_fault_read, wide_fault_read}
use Rattle.formula_parser.proofs.ClassSets.{none_counted}
use Rattle.formula_parser.proofs.ClassRead.{may_begin, elem_step, elem_front, wide_step, begins_takes, after_step, items_step, token_goes, elem_goes, are_range_true, class_of, class_closes}
use Rattle.formula_parser.proofs.ClassTexts.{drop_token, range_or_not}
use Rattle.formula_parser.specs.Dialect.{Dialect, alphabet_of, Speaks}

-- a `-` that begins a range
dash_front : (t : List ℕ) → begins_range t ≡ true → (rest : List ℕ) × (t ≡ 45 ∷ rest) × (begins_with 93 rest ≡ false)
dash_front [] h = absurd (cc)
dash_front (c ∷ t) h = by (c == 45) refl (begins_with 93 t) refl
  where
    by : (b : Bool) → (c == 45) ≡ b → (d : Bool) → begins_with 93 t ≡ d → (rest : List ℕ) × (c ∷ t ≡ 45 ∷ rest) × (begins_with 93 rest ≡ false)
    by true e false d = let is : c ≡ 45 = grind (arith, nat_tests) in (t, ap (λ z. z ∷ t) is, d)
    by true e true d = let no : false ≡ true = sym (ap not d) ∙ sym (ap (λ b. if b then not (begins_with 93 t) else false) e) ∙ h in absurd (cc)
    by false e v d = let no : false ≡ true = sym (ap (λ b. if b then not (begins_with 93 t) else false) e) ∙ h in absurd (cc)

no_range_false : (x y : Elem) → (AreRange x y → ⊥) → are_range x y ≡ false
no_range_false x y never = by (are_range x y) refl
  where
    by : (b : Bool) → are_range x y ≡ b → are_range x y ≡ false
    by true e = absurd (never (range_or_not x y e))
    by false e = e

module _ (lang : Dialect) (speaks : Speaks lang) where
  -- reading comes to the place p
  record Reached (text : List ℕ) (from p : ℕ) (w : Within) : Type 0 where
    negated : Bool
    kept : Bytes
    reads : class_at lang from (drop (from + 1) text) ≡ items_at lang negated from 0 p (drop p text) kept w

  reached : {text : List ℕ} {from p : ℕ} {w : Within} → ReadsClass (alphabet_of lang) text from p w → Reached text from p w
  unfolding class_at
  reached {text = text} {from = from} (bracket_read plain) = record {
    negated = false;
    kept = set.empty;
    reads = ap (class_of lang speaks from (drop (from + 1) text)) plain;
  }
  reached {text = text} {from = from} (negation_read (rest, e)) =
      let t = drop (from + 1) text in
      let same : drop 1 t ≡ drop (from + 2) text = drop-drop 1 (from + 1) text ∙ ap (λ n. drop n text) (omega arith) in record {
        negated = true;
        kept = set.empty;
        reads = ap (class_of lang speaks from t) (ap (begins_with 94) e) ∙ ap (λ z. items_at lang true from 0 (from + 2) z set.empty no_item) same;
      }
  reached {text = text} {from = from} (elem_read {p = p} {w = w} {u = u} {x = x} reads begins is (rest, e)) =
      let g = reached reads in
      let begins' : BeginsItem w (u ++ rest) = subst (BeginsItem w) e begins in record {
        negated = g.negated;
        kept = held_set g.kept w;
        reads = g.reads ∙ ap (λ z. items_at lang g.negated from 0 p z g.kept w) e
            ∙ elem_goes lang speaks is g.negated from p rest g.kept (held_set g.kept w) w (after_elem x p) (may_begin w (u ++ rest) begins')
            (begins_takes p (length u) x g.kept w (u ++ rest) begins')
            ∙ ap (λ z. items_at lang g.negated from 0 (p + length u) z (held_set g.kept w) (after_elem x p)) (sym (drop_token text p u rest e));
      }
  reached {text = text} {from = from} (dash_read {p = p} {q = q} {x = x} reads begins) =
      let g = reached reads in
      let (rest, e, stops) = dash_front (drop p text) begins in record {
        negated = g.negated;
        kept = g.kept;
        reads = g.reads ∙ ap (λ z. items_at lang g.negated from 0 p z g.kept (after_elem x q)) e
            ∙ token_goes lang speaks g.negated from p 45 [] rest g.kept g.kept (after_elem x q) (after_dash x q)
            (ap (λ b. if b then takes_elem p (byte 45, 1) g.kept (after_elem x q) else goes_on 1 g.kept (after_dash x q)) stops)
            ∙ ap (λ z. items_at lang g.negated from 0 (p + 1) z g.kept (after_dash x q)) (sym (drop_token text p (45 ∷ []) rest e));
      }
  reached {text = text} {from = from} (range_read {p = p} {q = q} {u = u} {x = x} {y = y} reads is (rest, e) le) =
      let g = reached reads in
      let k = set.union g.kept (range_set x y) in record {
        negated = g.negated;
        kept = k;
        reads = g.reads ∙ ap (λ z. items_at lang g.negated from 0 p z g.kept (after_dash x q)) e
            ∙ elem_goes lang speaks is g.negated from p rest g.kept k (after_dash x q) after_range tt
            (ap (λ b. if b then goes_on (length u) k after_range else fails (BadRange q)) (are_range_true x y le))
            ∙ ap (λ z. items_at lang g.negated from 0 (p + length u) z k after_range) (sym (drop_token text p u rest e));
      }

  -- the step from a place that is reached fails
  fails_there : {text : List ℕ} {from p : ℕ} {w : Within} (g : Reached text from p w) (c : ℕ) (t : List ℕ) (e : FormulaFault) → drop p text ≡ c ∷ t →
      class_step lang from p (c ∷ t) g.kept w ≡ fails e → class_at lang from (drop (from + 1) text) ≡ Err e
  fails_there {text = text} {from = from} {p = p} {w = w} g c t e stands is =
      g.reads ∙ ap (λ z. items_at lang g.negated from 0 p z g.kept w) stands ∙ items_step lang speaks g.negated from p c t g.kept w ∙ ap (after_step lang speaks g.negated from p t) is

  elem_fails : {text : List ℕ} {from p : ℕ} {w : Within} (g : Reached text from p w) (u rest : List ℕ) (x : Elem) (e : FormulaFault) → IsElem (alphabet_of lang) u x → drop p text ≡ u ++ rest →
      class_step lang from p (u ++ rest) g.kept w ≡ fails e → class_at lang from (drop (from + 1) text) ≡ Err e
  elem_fails g [] rest x e is stands step = let f = elem_front lang speaks is in absurd (empty f.first f.others f.text)
    where
      empty : (b : ℕ) (t : List ℕ) → [] ≡ b ∷ t → ⊥
      empty b t e = absurd (cc)
  elem_fails g (c ∷ u) rest x e is stands step = fails_there g c (u ++ rest) e stands step

  pub fault_read : (text : List ℕ) (from : ℕ) {e : FormulaFault} → HasClassFault (alphabet_of lang) text from e → class_at lang from (drop (from + 1) text) ≡ Err e
  unfolding items_at
  fault_read text from (nothing_in_class {p = p} reads (t, e)) = fails_there (reached reads) 93 t (Unexpected p) e refl
  fault_read text from (bracket_in_class {p = p} reads (t, e)) = fails_there (reached reads) 91 t (Unexpected p) e refl
  fault_read text from (wide_in_class {p = p} {b = b} {w = w} reads (t, e) big none) =
      let g = reached reads in
      fails_there g b t (Unexpected p) e
      (wide_step lang speaks from p b t g.kept w (λ n. omega (arith, n, big)) (λ n. omega (arith, n, big)) (λ n. omega (arith, n, big)) big
      ∙ ap (λ z. takes_token p z g.kept w) (wide_fault_read lang (b ∷ t) p (grind (arith, nat_tests)) (subst (BeginsNoElem (alphabet_of lang)) e none)))
  fault_read text from (slash_in_class {p = p} reads (t, e)) = fails_there (reached reads) 47 t (Unclosed from) e refl
  fault_read text from (text_ends_in_class {p = p} {w = w} reads e) =
      let g = reached reads in g.reads ∙ ap (λ z. items_at lang g.negated from 0 p z g.kept w) e
  fault_read text from (escape_in_class {p = p} {w = w} {e = f} reads fault) =
      let g = reached reads in
      let (t, stands, is) = escape_fault_read lang text p fault in
      fails_there g 92 t f stands (ap (λ z. takes_token p z g.kept w) is)
  fault_read text from (bad_range {p = p} {q = q} {u = u} {x = x} {y = y} reads is (rest, e) never) =
      let g = reached reads in
      elem_fails g u rest y (BadRange q) is e
      (elem_step lang speaks is from p rest g.kept (after_dash x q) tt
      ∙ ap (λ b. if b then goes_on (length u) (set.union g.kept (range_set x y)) after_range else fails (BadRange q)) (no_range_false x y never))
  fault_read text from (empty_class {t = t} {after = after} e spells) =
      ap (class_at lang from) e ∙ class_closes lang speaks spells from
      ∙ ap (λ b. if b then Err (BadRange from) else Ok (set.empty, suc (length t))) (none_counted set.empty refl)
