-- What a formula is over: bytes, or characters.
use Rattle.std.specs.Prelude.{◌≡◌, ℕ, ◌≤◌}
use Rattle.std.specs.FinSet as set
use Rattle.std.specs.Char.{IsScalar}
use Rattle.spanner_model.specs.Tree.{Tree, one}
use Rattle.formula_parser.specs.Sets.{Bytes, single, others}
use Rattle.formula_parser.specs.CharSets.{all_characters, IsTreeOf}

pub data Alphabet : Type 0 where
  of_bytes : Alphabet
  of_characters : Alphabet

-- the bytes of a set, or the characters among its numbers
abbrev pub members : Alphabet → Bytes → Bytes
members of_bytes s = s
members of_characters s = set.intersection all_characters s

-- all bytes, or all characters, that are not in the set
abbrev pub others_of : Alphabet → Bytes → Bytes
others_of of_bytes s = others s
others_of of_characters s = set.difference all_characters s

-- what the dot stands for: all but 0A
abbrev pub dot_set : Alphabet → Bytes
dot_set alphabet = others_of alphabet (single 10)

-- the formula is that of the set
abbrev pub IsSetTree : Alphabet → Bytes → Tree → Type 0
IsSetTree of_bytes s f = f ≡ one s
IsSetTree of_characters s f = IsTreeOf s f

-- a character past 7F, of which no formula over bytes knows
abbrev pub IsWide : Alphabet → ℕ → Type 0
IsWide of_bytes c = ⊥
IsWide of_characters c = IsScalar c × (128 ≤ c)
