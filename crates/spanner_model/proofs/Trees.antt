-- The equations of `tree_of`, one for each variant, and of `trees_of`.
use Rattle.std.proofs.Common.{◌≡◌, ℕ, ◌<◌, List, map, length, get_or, Option, Some, Box, Global, sym, ap, ◌∙◌, subst, arith}
use Rattle.std.specs.Prelude.{slice_get}
use Rattle.std.proofs.lemmas.List.{length-map}
use Rattle.std.proofs.lemmas.Option.{slice_get-get_or, slice_get-map}
use Rattle.std.specs.Option.{option_map}
use Rattle.std.specs.Ordering.{nat_cmp}
use Rattle.std.specs.FinSet.{FinSet}
use Rattle.spanner_model.specs.Tree.{Tree, empty, one, rep, cap, cat_all, alt_all}
use Rattle.spanner_model.specs.View.{node_tree, part_trees, tree_of, trees_of}
use Rattle.spanner_model.specs.declared.formula.Formula.{Formula, Formula-F, fold-roll-Formula}
use Rattle.spanner_model.specs.declared.formula.Parts.{Parts, out-Parts, fold_out-Parts}
use Rattle.spanner_model.specs.declared.formula.Formula.TheVariants.{Empty, One, Cat, Alt, Rep, Cap, rolls-Empty, rolls-One, rolls-Cat, rolls-Alt, rolls-Rep, rolls-Cap}

pub tree_of-Empty : tree_of Empty ≡ empty
tree_of-Empty = ap tree_of (sym rolls-Empty) ∙ fold-roll-Formula Tree (List Tree) node_tree part_trees Formula-F.Empty

pub tree_of-One : (set : FinSet nat_cmp) → tree_of (One set) ≡ one set
tree_of-One set = ap tree_of (sym (rolls-One set)) ∙ fold-roll-Formula Tree (List Tree) node_tree part_trees (Formula-F.One set)

pub tree_of-Cat : (parts : Parts) → tree_of (Cat parts) ≡ cat_all (trees_of parts)
tree_of-Cat parts = ap tree_of (sym (rolls-Cat parts)) ∙ fold-roll-Formula Tree (List Tree) node_tree part_trees (Formula-F.Cat parts)

pub tree_of-Alt : (parts : Parts) → tree_of (Alt parts) ≡ alt_all (trees_of parts)
tree_of-Alt parts = ap tree_of (sym (rolls-Alt parts)) ∙ fold-roll-Formula Tree (List Tree) node_tree part_trees (Formula-F.Alt parts)

pub tree_of-Rep : (sub : Box Formula Global) (least : ℕ) (most : Option ℕ) →
    tree_of (Rep sub least most) ≡ rep (tree_of sub.value) least most
tree_of-Rep sub least most =
    ap tree_of (sym (rolls-Rep sub least most)) ∙ fold-roll-Formula Tree (List Tree) node_tree part_trees (Formula-F.Rep sub least most)

pub tree_of-Cap : (name : List ℕ) (sub : Box Formula Global) → tree_of (Cap name sub) ≡ cap name (tree_of sub.value)
tree_of-Cap name sub =
    ap tree_of (sym (rolls-Cap name sub)) ∙ fold-roll-Formula Tree (List Tree) node_tree part_trees (Formula-F.Cap name sub)

pub trees_of-out : (parts : Parts) → trees_of parts ≡ map tree_of (out-Parts parts).list.items
trees_of-out parts = fold_out-Parts Tree (List Tree) node_tree part_trees parts

-- the part at a place
pub part_at : (parts : Parts) (k : ℕ) (f : Formula) → k < length (trees_of parts) → f ≡ get_or (out-Parts parts).list.items k f →
    slice_get (trees_of parts) k ≡ Some (tree_of f)
part_at parts k f within is =
    let items = (out-Parts parts).list.items in
    let there : k < length (map tree_of items) = subst (λ ts. k < length ts) (trees_of-out parts) within in
    let within' : k < length items = omega (arith, length-map items tree_of) in
    ap (λ ts. slice_get ts k) (trees_of-out parts) ∙ slice_get-map tree_of items k
    ∙ ap (option_map tree_of) (slice_get-get_or items k f within') ∙ ap (λ x. Some (tree_of x)) (sym is)
