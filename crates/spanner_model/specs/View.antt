-- The tree that a formula, or an atom, of the code stands for.
use Rattle.std.specs.Prelude.{List}
use Rattle.spanner_model.specs.Tree.{Tree, empty, one, rep, cap, cat_all, alt_all}
use Rattle.spanner_model.specs.Expression.{AtomTree}
use Rattle.spanner_model.specs.declared.formula.Atom.{Atom}
use Rattle.spanner_model.specs.declared.formula.Formula.{Formula}
use Rattle.spanner_model.specs.declared.formula.Parts.{Parts}
use Rattle.spanner_model.specs.declared.formula.Formula.TheOpen.{Formula-F, Parts-F}
use Rattle.spanner_model.specs.declared.formula.Formula.TheFolds.{fold-Formula, fold-Parts}

-- one node, with the tree of each child in its place
abbrev pub node_tree : Formula-F Tree (List Tree) → Tree
node_tree Formula-F.Empty = empty
node_tree (Formula-F.One set) = one set
node_tree (Formula-F.Cat parts) = cat_all parts
node_tree (Formula-F.Alt parts) = alt_all parts
node_tree (Formula-F.Rep sub least most) = rep sub.value least most
node_tree (Formula-F.Cap name sub) = cap name sub.value

abbrev pub part_trees : Parts-F Tree (List Tree) → List Tree
part_trees parts = parts.list.items

-- the tree of a formula
abbrev pub tree_of : Formula → Tree
tree_of = fold-Formula Tree (List Tree) node_tree part_trees

-- the trees of a list of parts
abbrev pub trees_of : Parts → List Tree
trees_of = fold-Parts Tree (List Tree) node_tree part_trees

-- the tree of an atom
abbrev pub atom_of : Atom → AtomTree
atom_of a = record { from_start = a.from_start; to_end = a.to_end; formula = tree_of a.formula }
