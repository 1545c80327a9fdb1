-- The trees of some arms.
use Rattle.std.specs.Prelude.{◌≡◌, ℕ, ◌<◌, ◌⊎◌, List, [], ◌∷◌, ◌++◌, length}
use Rattle.spanner_model.specs.Tree.{Tree}
use Rattle.spanner_model.specs.View.{tree_of, trees_of}
use Rattle.unicode_classes.specs.Joined.{IsBlockText}
use Rattle.unicode_classes.specs.ClassTree.{IsTreeOf}
use Rattle.unicode_classes.specs.declared.arms.Arms.{Arms}
use Rattle.unicode_classes.specs.declared.arms.Arms.TheVariants.{None, One, Several}

abbrev pub arm_trees : Arms → List Tree
arm_trees None = []
arm_trees (One formula) = tree_of formula ∷ []
arm_trees (Several parts) = trees_of parts

-- several arms are two at least
abbrev pub AreProper : Arms → Type 0
AreProper None = Unit {0}
AreProper (One formula) = Unit {0}
AreProper (Several parts) = 1 < length (trees_of parts)

-- with an arm for the numbers in the ranges, where there are any
abbrev pub IsWithBlock : ℕ → ℕ → List (ℕ × ℕ) → List Tree → List Tree → Type 0
IsWithBlock base tails ranges arms new =
    ((ranges ≡ []) × (new ≡ arms)) ⊎ (¬ (ranges ≡ []) × (f : Tree) × IsTreeOf tails (IsBlockText base tails ranges) f × (new ≡ arms ++ f ∷ []))
