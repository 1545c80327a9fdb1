-- Sets of characters, as finite sets of their numbers.
use Rattle.std.specs.Prelude.{ℕ, ◌↔◌, Bool, List, Option, Some, None, IsTrue}
use Rattle.std.specs.Char.{IsScalar}
use Rattle.std.specs.FinSet as set
use Rattle.span_core.specs.ByteSets.{bytes_between}
use Rattle.span_core.specs.Intervals.{Covers, AreApart}
use Rattle.spanner_model.specs.Tree.{Tree}
use Rattle.unicode_classes.specs.ClassTree.{IsClassTree}
use Rattle.unicode_classes.specs.Properties.{meaning}
use Rattle.formula_parser.specs.Sets.{Bytes}

-- all characters: 0 to 10FFFF without D800 to DFFF
unfoldable pub all_characters : Bytes
all_characters = set.union (bytes_between 0 0xD7FF) (bytes_between 0xE000 0x10_FFFF)

abbrev pub AreAllCharacters : Bytes → Type 0
AreAllCharacters s = (c : ℕ) → IsTrue (set.contains s c) → IsScalar c

-- the ranges of the numbers in the set
pub record AreRangesOf (s : Bytes) (ranges : List (ℕ × ℕ)) : Type 0 where
  pub apart : AreApart ranges
  pub same : (c : ℕ) → Covers ranges c ↔ IsTrue (set.contains s c)

-- the formula is the tree of the characters in the set
abbrev pub IsTreeOf : Bytes → Tree → Type 0
IsTreeOf s f = (ranges : List (ℕ × ℕ)) × AreRangesOf s ranges × IsClassTree ranges f

abbrev pub those_that_pass : Option (ℕ → Bool) → Option Bytes
those_that_pass None = None
those_that_pass (Some test) = Some (set.retain all_characters test)

-- the characters that have the property of the name, where it is the name of one
unfoldable pub property_set : List ℕ → Option Bytes
property_set name = those_that_pass (meaning name)
