-- What callers ask of atoms and their faults.
use Rattle.std.proofs.Common.{◌≡◌, ℕ, ◌+◌, ◌≤◌, Bool, true, false, List, [], ◌∷◌, ◌++◌, length, length-drop, length-append, ap, sym, ◌∙◌, subst, arith}
use Rattle.spanner_model.specs.WellBuilt.{IsWellBuilt}
use Rattle.spanner_model.specs.Expression.{AtomTree}
use Rattle.formula_parser.specs.declared.fault.FormulaFault.{FormulaFault}
use Rattle.formula_parser.specs.declared.fault.FormulaFault.TheVariants.{OutOfMemory}
use Rattle.formula_parser.specs.Alphabet.{Alphabet, of_characters}
use Rattle.formula_parser.specs.CharEscapes as escapes
use Rattle.formula_parser.specs.Classes as classes
use Rattle.formula_parser.specs.Faults as faults
use Rattle.formula_parser.specs.Signs.{IsInside, nothing, lone, is_sign}
use Rattle.formula_parser.specs.Spells.{given, Spells, IsAtomOver, IsAtomAt, over_bytes, over_characters}
use Rattle.formula_parser.specs.Laws.{HasOneTree, HasNoTreeWithFault, HasOneFault, HasTreeOrFault}
use Rattle.formula_parser.proofs.InsideLaws.{inside_append, alt_inside}
use Rattle.formula_parser.proofs.SignLaws as signed
use Rattle.formula_parser.proofs.SignLaws.{one_inside}
use Rattle.formula_parser.proofs.TheTrees.{the_trees, the_trees_are, plain_class_trees}
use Rattle.formula_parser.proofs.BuiltLaws.{IsText, built_at}

pub each_text : HasTreeOrFault
each_text = signed.each_text the_trees the_trees_are

pub one_tree : HasOneTree
one_tree = signed.one_tree the_trees the_trees_are

pub no_tree_with_fault : HasNoTreeWithFault
no_tree_with_fault = signed.no_tree_with_fault the_trees the_trees_are

pub one_fault : HasOneFault
one_fault = signed.one_fault the_trees the_trees_are

pub atom_built : (text : List ℕ) (from : ℕ) (x : AtomTree × ℕ) → IsAtomAt text from x → IsText text → IsWellBuilt x.0.formula
atom_built text from x is bytes = built_at plain_class_trees text from x is bytes

-- what spells an atom has no slash but in pairs
pub spelled_inside : (alphabet : Alphabet) (u : List ℕ) (a : AtomTree) (v : List ℕ) → Spells alphabet u a v → IsInside u
spelled_inside alphabet u a v (t, fs, text_is, alt, tree) =
    subst IsInside (sym text_is) (before a.from_start (t ++ given a.to_end 36) (inside_append (alt_inside alt) (given a.to_end 36) (after a.to_end)))
  where
    before : (b : Bool) (t : List ℕ) → IsInside t → IsInside (given b 94 ++ t)
    before true t is = lone (λ e. omega (arith, e)) (λ e. omega (arith, e)) is
    before false t is = is

    after : (b : Bool) → IsInside (given b 36)
    after true = lone (λ e. omega (arith, e)) (λ e. omega (arith, e)) nothing
    after false = nothing

-- an atom ends in the text, two bytes on or more
pub record Ends (text : List ℕ) (from : ℕ) (p : ℕ) : Type 0 where
  pub moves : from + 2 ≤ p
  pub within : p ≤ length text

over_ends : (alphabet : Alphabet) (text : List ℕ) (from : ℕ) (x : AtomTree × ℕ) → IsAtomOver alphabet text from x → Ends text from x.1
over_ends alphabet text from x (u, v, splits, spelled, place) = record {
  moves = omega (arith, place);
  within = omega (arith, place, length-drop (from + 1) text, ap length splits, length-append u (47 ∷ v));
}

signed_text : (v : List ℕ) → is_sign v ≡ true → 1 ≤ length v
signed_text [] h = absurd (cc)
signed_text (c ∷ v) h = omega arith

pub atom_ends : (text : List ℕ) (from : ℕ) (x : AtomTree × ℕ) → IsAtomAt text from x → Ends text from x.1
atom_ends text from x (over_bytes none is) = over_ends _ text from x is
atom_ends text from x (over_characters {u = w} {p = p} (z, closed, sign) utf8 (u, v, splits, spelled, place) at) =
    let same = one_inside (spelled_inside of_characters u x.0 v spelled) closed.0 v z (sym splits ∙ closed.1) in
    let some = signed_text z sign in record {
      moves = omega (arith, place, at);
      within = omega (arith, place, at, some, ap length same.1, length-drop (from + 1) text, ap length splits, length-append u (47 ∷ v));
    }

-- no fault of a text is want of memory
escape_memory : {alphabet : Alphabet} {text : List ℕ} {p : ℕ} {e : FormulaFault} → escapes.HasEscapeFault alphabet text p e → e ≡ OutOfMemory → ⊥
escape_memory (escapes.no_escape a b c) e = absurd (cc)
escape_memory (escapes.no_property name a b) e = absurd (cc)

class_memory : {alphabet : Alphabet} {text : List ℕ} {p : ℕ} {e : FormulaFault} → classes.HasClassFault alphabet text p e → e ≡ OutOfMemory → ⊥
class_memory (classes.nothing_in_class a b) e = absurd (cc)
class_memory (classes.bracket_in_class a b) e = absurd (cc)
class_memory (classes.wide_in_class a b c d) e = absurd (cc)
class_memory (classes.slash_in_class a b) e = absurd (cc)
class_memory (classes.text_ends_in_class a b) e = absurd (cc)
class_memory (classes.escape_in_class a f) e = escape_memory f e
class_memory (classes.bad_range a b c d) e = absurd (cc)
class_memory (classes.empty_class a b) e = absurd (cc)

over_memory : {alphabet : Alphabet} {text : List ℕ} {p : ℕ} {e : FormulaFault} → faults.HasFaultOver alphabet text p e → e ≡ OutOfMemory → ⊥
over_memory (faults.nothing_to_repeat a b c) e = absurd (cc)
over_memory (faults.nothing_to_close a b) e = absurd (cc)
over_memory (faults.no_capture_to_close a b) e = absurd (cc)
over_memory (faults.no_class_to_close a b) e = absurd (cc)
over_memory (faults.capture_for_group a b) e = absurd (cc)
over_memory (faults.group_for_capture a b) e = absurd (cc)
over_memory (faults.slash_inside a b) e = absurd (cc)
over_memory (faults.text_ends a b) e = absurd (cc)
over_memory (faults.at_escape a f) e = escape_memory f e
over_memory (faults.empty_kind u x a b c d) e = absurd (cc)
over_memory (faults.in_class a b f) e = class_memory f e
over_memory (faults.no_repeat a b c) e = absurd (cc)
over_memory (faults.repeat_twice a b c) e = absurd (cc)
over_memory (faults.tie_late a b) e = absurd (cc)
over_memory (faults.tie_inside a b) e = absurd (cc)
over_memory (faults.tie_early a b c) e = absurd (cc)
over_memory (faults.name_too_long a b x c d) e = absurd (cc)
over_memory (faults.reserved_name a b) e = absurd (cc)
over_memory (faults.group_too_deep a b c) e = absurd (cc)
over_memory (faults.capture_too_deep a b x c d) e = absurd (cc)

pub fault_memory : {text : List ℕ} {p : ℕ} {e : FormulaFault} → faults.HasFault text p e → e ≡ OutOfMemory → ⊥
fault_memory (faults.over_bytes none f) e = over_memory f e
fault_memory (faults.not_utf8 sign valid) e = absurd (cc)
fault_memory (faults.over_characters sign is f) e = over_memory f e
