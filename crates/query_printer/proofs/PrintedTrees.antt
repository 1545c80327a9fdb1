-- The printed forms of the code's formulas, and of their parts in turn.
use Rattle.std.proofs.Common.{◌≡◌, ℕ, ◌+◌, ◌<◌, Bool, true, false, ◌==◌, List, [], ◌∷◌, ◌++◌, drop, Some, ap, sym, refl, ◌∙◌, arith, append_assoc, if◌then◌else◌}
use Rattle.std.specs.Prelude.{slice_get, nat_lt}
use Rattle.std.proofs.lemmas.Bool.Decides.{nat_tests}
use Rattle.std.proofs.lemmas.List.{append-nil}
use Rattle.spanner_model.specs.Tree.{Tree, cat_all, alt_all}
use Rattle.spanner_model.specs.View.{tree_of, trees_of}
use Rattle.spanner_model.specs.declared.formula.Formula.{Formula}
use Rattle.spanner_model.specs.declared.formula.Parts.{Parts}
use Rattle.spanner_model.specs.declared.formula.Formula.TheVariants.{Cat, Alt}
use Rattle.spanner_model.proofs.Trees.{tree_of-Cat, tree_of-Alt}
use Rattle.spanner_model.proofs.Nodes.{nodes}
use Rattle.span_core.proofs.HasLaws.{Has-slice_get}
use Rattle.span_core.proofs.ListLaws.{at_drop}
use Rattle.spanner_model.proofs.TreeLaws.{part_nodes, arms_nodes}
use Rattle.formula_parser.specs.Spells.{given}
use Rattle.query_printer.specs.PrintedFormula.{a_cat, an_alt, shape, wraps_arm, wraps_part, wrapped, printed, more_arms}

-- ---- what was appended

-- the text u after the text t
pub grown : (a t u n m : List ℕ) → n ≡ a ++ t → m ≡ n ++ u → m ≡ a ++ (t ++ u)
grown a t u n m e f = f ∙ ap (λ (xs : List ℕ). xs ++ u) e ∙ append_assoc a t u

pub ended : (a t whole : List ℕ) → t ≡ [] → a ++ t ≡ whole → a ≡ whole
ended a t whole e h = sym (append-nil a) ∙ ap (λ (xs : List ℕ). a ++ xs) (sym e) ∙ h

-- ---- shapes

shape_cat : (ts : List Tree) → shape (cat_all ts) ≡ a_cat
shape_cat [] = refl
shape_cat (t ∷ ts) = refl

shape_alt : (ts : List Tree) → shape (alt_all ts) ≡ an_alt
shape_alt [] = refl
shape_alt (t ∷ ts) = refl

pub shape-Cat : (f : Formula) (parts : Parts) → f ≡ Cat parts → a_cat ≡ shape (tree_of f)
shape-Cat f parts e = sym (ap (λ g. shape (tree_of g)) e ∙ ap shape (tree_of-Cat parts) ∙ shape_cat (trees_of parts))

pub shape-Alt : (f : Formula) (arms : Parts) → f ≡ Alt arms → an_alt ≡ shape (tree_of f)
shape-Alt f arms e = sym (ap (λ g. shape (tree_of g)) e ∙ ap shape (tree_of-Alt arms) ∙ shape_alt (trees_of arms))

-- ---- parts and arms

pub part_less : (ts : List Tree) (k : ℕ) (t : Tree) → slice_get ts k ≡ Some t → nodes t < nodes (cat_all ts)
part_less ts k t e = part_nodes ts t (Has-slice_get ts k t e)

pub arm_less : (ts : List Tree) (k : ℕ) (t : Tree) → slice_get ts k ≡ Some t → nodes t < nodes (alt_all ts)
arm_less ts k t e = omega (arith, part_less ts k t e, arms_nodes ts)

pub parts_step : (ts : List Tree) (k : ℕ) (t : Tree) (w : Bool) → slice_get ts k ≡ Some t → w ≡ wraps_part (shape t) →
    printed (cat_all (drop k ts)) ≡ wrapped w (printed t) ++ printed (cat_all (drop (k + 1) ts))
parts_step ts k t w e is =
    ap (λ us. printed (cat_all us)) (at_drop ts k t e) ∙ ap (λ v. wrapped v (printed t) ++ printed (cat_all (drop (k + 1) ts))) (sym is)

-- the arms from k on, with a bar before each but the first
abbrev pub arms_from : ℕ → List Tree → List ℕ
arms_from k ts = if k == 0 then printed (alt_all ts) else more_arms (alt_all (drop k ts))

arms_first : (ts : List Tree) (k : ℕ) → (k == 0) ≡ true → arms_from k ts ≡ printed (alt_all ts)
arms_first ts k h = ap (λ b. if b then printed (alt_all ts) else more_arms (alt_all (drop k ts))) h

arms_later : (ts : List Tree) (k : ℕ) → (k == 0) ≡ false → arms_from k ts ≡ more_arms (alt_all (drop k ts))
arms_later ts k h = ap (λ b. if b then printed (alt_all ts) else more_arms (alt_all (drop k ts))) h

pub arms_step : (ts : List Tree) (k : ℕ) (t : Tree) (w : Bool) → slice_get ts k ≡ Some t → w ≡ wraps_arm (shape t) →
    arms_from k ts ≡ given (nat_lt 0 k) 124 ++ (wrapped w (printed t) ++ arms_from (k + 1) ts)
arms_step ts k t w e is = by (k == 0) refl
  where
    next : (k + 1 == 0) ≡ false
    next = grind (arith, nat_tests)

    rest : wrapped (wraps_arm (shape t)) (printed t) ++ more_arms (alt_all (drop (k + 1) ts)) ≡ wrapped w (printed t) ++ arms_from (k + 1) ts
    rest =
        ap (λ v. wrapped v (printed t) ++ more_arms (alt_all (drop (k + 1) ts))) (sym is)
        ∙ ap (λ u. wrapped w (printed t) ++ u) (sym (arms_later ts (k + 1) next))

    by : (v : Bool) → (k == 0) ≡ v → arms_from k ts ≡ given (nat_lt 0 k) 124 ++ (wrapped w (printed t) ++ arms_from (k + 1) ts)
    by true h =
        let none : k ≡ 0 = grind (arith, nat_tests) in
        let lone : nat_lt 0 k ≡ false = grind (arith, nat_tests) in
        let whole : ts ≡ t ∷ drop (k + 1) ts = ap (λ n. drop n ts) (sym none) ∙ at_drop ts k t e in
        arms_first ts k h ∙ ap (λ us. printed (alt_all us)) whole ∙ rest
        ∙ ap (λ v. given v 124 ++ (wrapped w (printed t) ++ arms_from (k + 1) ts)) (sym lone)
    by false h =
        let later : nat_lt 0 k ≡ true = grind (arith, nat_tests) in
        arms_later ts k h ∙ ap (λ us. more_arms (alt_all us)) (at_drop ts k t e) ∙ ap (λ u. 124 ∷ u) rest
        ∙ ap (λ v. given v 124 ++ (wrapped w (printed t) ++ arms_from (k + 1) ts)) (sym later)
