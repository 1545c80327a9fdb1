-- Laws of sets of characters and of their trees.
use Rattle.std.specs.Prelude.{◌≡◌, ℕ, ◌↔◌, Bool, List, [], IsTrue}
use Rattle.std.specs.Char.{IsScalar}
use Rattle.span_core.specs.Intervals.{Covers, AreApart}
use Rattle.spanner_model.specs.Tree.{Tree}
use Rattle.unicode_classes.specs.Texts.{AreCharacters, IsText, FitsTexts}
use Rattle.unicode_classes.specs.ClassTree.{IsClassTree, IsPlain}
use Rattle.unicode_classes.specs.Properties.{IsPropertyName, IsProperty}

-- ranges that are apart and have the same numbers are equal
abbrev pub RangesAreOne : Type 0
RangesAreOne = (r s : List (ℕ × ℕ)) → AreApart r → AreApart s → ((c : ℕ) → Covers r c ↔ Covers s c) → r ≡ s

-- the characters that pass a test are those of some ranges
abbrev pub EachTestHasRanges : Type 0
EachTestHasRanges = (test : ℕ → Bool) → (ranges : List (ℕ × ℕ)) × AreApart ranges × ((c : ℕ) → Covers ranges c ↔ (IsScalar c × IsTrue (test c)))

-- a set has one tree
abbrev pub ClassTreesAreOne : Type 0
ClassTreesAreOne = (ranges : List (ℕ × ℕ)) (f g : Tree) → IsClassTree ranges f → IsClassTree ranges g → f ≡ g

-- each set that is not empty has a tree
abbrev pub EachSetHasATree : Type 0
EachSetHasATree =
    (ranges : List (ℕ × ℕ)) → AreApart ranges → AreCharacters ranges → ¬ (ranges ≡ []) → (f : Tree) × IsClassTree ranges f

-- the tree of a set fits the texts of the set's characters, and nothing else, and captures nothing
abbrev pub ClassTreesFitTexts : Type 0
ClassTreesFitTexts =
    (ranges : List (ℕ × ℕ)) (f : Tree) → IsClassTree ranges f → FitsTexts f (IsText ranges)

-- the tree of a set that is not empty is well built, and has no variable
abbrev pub ClassTreesArePlain : Type 0
ClassTreesArePlain =
    (ranges : List (ℕ × ℕ)) (f : Tree) → AreApart ranges → AreCharacters ranges → ¬ (ranges ≡ []) → IsClassTree ranges f → IsPlain f

-- a name means one set
abbrev pub PropertiesAreOne : Type 0
PropertiesAreOne = (name : List ℕ) (r s : List (ℕ × ℕ)) → IsProperty name r → IsProperty name s → r ≡ s

-- each name of a property means a set
abbrev pub EachPropertyHasASet : Type 0
EachPropertyHasASet = (name : List ℕ) → IsPropertyName name → (ranges : List (ℕ × ℕ)) × IsProperty name ranges
