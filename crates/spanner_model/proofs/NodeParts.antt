-- A concatenation and an alternation of the code, and their parts.
use Rattle.std.proofs.Common.{◌≡◌, ◌⊎◌, ◌↔◌, List, inl, inr, refl, sym, ap, ◌∙◌, subst}
use Rattle.span_core.specs.Lists.{Has}
use Rattle.spanner_model.specs.Tree.{Tree, cat_all, alt_all}
use Rattle.spanner_model.specs.Captures.{VarName}
use Rattle.spanner_model.specs.View.{tree_of, trees_of}
use Rattle.spanner_model.specs.Sequential.{HasVar}
use Rattle.spanner_model.specs.WellBuilt.{IsWellBuilt}
use Rattle.spanner_model.specs.declared.formula.Formula.{Formula}
use Rattle.spanner_model.specs.declared.formula.Parts.{Parts}
use Rattle.spanner_model.specs.declared.formula.Formula.TheVariants.{Cat, Alt}
use Rattle.spanner_model.proofs.Nodes.{nodes}
use Rattle.spanner_model.proofs.TreeLaws.{arms_have, arms_nodes, parts_well_built, arms_well_built}
use Rattle.spanner_model.proofs.Trees.{tree_of-Cat, tree_of-Alt}

-- what the parts of a formula have of it
pub record HasParts (f : Tree) (ts : List Tree) : Type 0 where
  pub size : nodes f ≡ nodes (cat_all ts)
  pub built : IsWellBuilt f → (t : Tree) → Has ts t → IsWellBuilt t
  pub vars : (x : VarName) → HasVar (cat_all ts) x ↔ HasVar f x

cat_parts : (ts : List Tree) → HasParts (cat_all ts) ts
cat_parts ts = record { size = refl; built = parts_well_built ts; vars = λ x. (λ h. h, λ h. h) }

alt_parts : (ts : List Tree) → HasParts (alt_all ts) ts
alt_parts ts = record { size = arms_nodes ts; built = arms_well_built ts; vars = λ x. ((arms_have ts x).1, (arms_have ts x).0) }

pub has_parts : (f : Formula) (parts : Parts) → (f ≡ Cat parts) ⊎ (f ≡ Alt parts) → HasParts (tree_of f) (trees_of parts)
has_parts f parts (inl e) = subst (λ (t : Tree). HasParts t (trees_of parts)) (sym (ap tree_of e ∙ tree_of-Cat parts)) (cat_parts (trees_of parts))
has_parts f parts (inr e) = subst (λ (t : Tree). HasParts t (trees_of parts)) (sym (ap tree_of e ∙ tree_of-Alt parts)) (alt_parts (trees_of parts))
