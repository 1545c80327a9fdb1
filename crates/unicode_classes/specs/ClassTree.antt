-- The tree of a set of characters.
--   Strings of bytes of one length have a tree: of one byte, the set of these bytes. Of more, the first
--   bytes are grouped by equal sets of tails; each group, by ascending least byte, gives the group and
--   then the tree of its tails. Several groups are an alternation of these. A set of characters has the
--   tree of its texts of one byte, of two, of three and of four, where there are any; several are an
--   alternation.
use Rattle.std.specs.Prelude.{◌≡◌, ℕ, zero, suc, ◌<◌, ◌≤◌, ◌↔◌, List, [], ◌∷◌, map, length, IsTrue}
use Rattle.std.specs.Ordering.{nat_cmp}
use Rattle.std.specs.FinSet.{FinSet, contains}
use Rattle.span_core.specs.Lists.{Has, IsInOrder}
use Rattle.spanner_model.specs.Tree.{Tree, one, cat, cat_end, alt_end, alt_all}
use Rattle.spanner_model.specs.Captures.{VarName}
use Rattle.spanner_model.specs.Sequential.{HasVar}
use Rattle.spanner_model.specs.WellBuilt.{IsBuilt, nesting}
use Rattle.unicode_classes.specs.Texts.{IsText}

-- some strings of bytes
abbrev pub Strings : Type 1
Strings = List ℕ → Type 0

-- the strings that follow a first byte
abbrev pub TailsOf : Strings → ℕ → Strings
TailsOf W b w = W (b ∷ w)

-- a string begins with the byte
abbrev pub Begins : Strings → ℕ → Type 0
Begins W b = (w : List ℕ) × W (b ∷ w)

-- the same tails follow both bytes
abbrev pub HaveSameTails : Strings → ℕ → ℕ → Type 0
HaveSameTails W b c = (w : List ℕ) → W (b ∷ w) ↔ W (c ∷ w)

-- the byte is in the set
abbrev pub IsByteIn : FinSet nat_cmp → ℕ → Type 0
IsByteIn bytes b = IsTrue (contains bytes b)

-- the byte is the least in the set
abbrev pub IsLeastIn : FinSet nat_cmp → ℕ → Type 0
IsLeastIn bytes b = IsByteIn bytes b × ((c : ℕ) → IsByteIn bytes c → b ≤ c)

-- first bytes that the same tails follow, and the tree of these tails
pub record Group : Type 0 where
  pub bytes : FinSet nat_cmp
  pub tails : Tree

-- the least byte of a group is below the least of another
abbrev pub BeginsBelow : Group → Group → Type 0
BeginsBelow g h = (b c : ℕ) → IsLeastIn g.bytes b → IsLeastIn h.bytes c → b < c

-- a byte of the group, and then one of its tails
abbrev pub group_tree : Group → Tree
group_tree g = cat (one g.bytes) (cat g.tails cat_end)

-- one tree alone, or the alternation of several
abbrev pub alternation : List Tree → Tree
alternation [] = alt_end
alternation (f ∷ []) = f
alternation fs = alt_all fs

-- the groups of the first bytes of some strings, by ascending least byte; `IsTree` says which trees tails have
pub record AreGroups (IsTree : Strings → Tree → Type 0) (W : Strings) (groups : List Group) : Type 0 where
  -- each first byte is in a group
  pub each : (b : ℕ) → Begins W b → (g : Group) × Has groups g × IsByteIn g.bytes b
  -- each group has a least byte
  pub least : (g : Group) → Has groups g → (b : ℕ) × IsLeastIn g.bytes b
  -- the bytes of a group are first bytes
  pub first : (g : Group) (b : ℕ) → Has groups g → IsByteIn g.bytes b → Begins W b
  -- with a byte of a group, those that the same tails follow are in it, and no others
  pub same : (g : Group) (b c : ℕ) → Has groups g → IsByteIn g.bytes b → IsByteIn g.bytes c ↔ HaveSameTails W b c
  -- a group has the tree of the tails of its bytes
  pub tails : (g : Group) (b : ℕ) → Has groups g → IsByteIn g.bytes b → IsTree (TailsOf W b) g.tails
  pub ascending : IsInOrder BeginsBelow groups

-- the tree of strings of one length, of so many bytes after the first
abbrev pub IsTreeOf : ℕ → Strings → Tree → Type 0
IsTreeOf zero W f = (bytes : FinSet nat_cmp) × ((b : ℕ) → IsByteIn bytes b ↔ W (b ∷ [])) × (f ≡ one bytes)
IsTreeOf (suc n) W f = (groups : List Group) × AreGroups (IsTreeOf n) W groups × (f ≡ alternation (map group_tree groups))

-- a text of a character in the ranges, of so many bytes after the first
abbrev pub IsLongText : List (ℕ × ℕ) → ℕ → Strings
IsLongText ranges n w = IsText ranges w × (length w ≡ suc n)

-- trees of the texts of these lengths, one for each length of which there is a text
pub data AreArms (ranges : List (ℕ × ℕ)) : List ℕ → List Tree → Type 0 where
  no_length : AreArms ranges [] []
  no_text : {n : ℕ} {ns : List ℕ} {arms : List Tree} → ((w : List ℕ) → IsLongText ranges n w → ⊥) → AreArms ranges ns arms → AreArms ranges (n ∷ ns) arms
  some_text : {n : ℕ} {ns : List ℕ} {f : Tree} {arms : List Tree} → (w : List ℕ) → IsLongText ranges n w → IsTreeOf n (IsLongText ranges n) f → AreArms ranges ns arms →
      AreArms ranges (n ∷ ns) (f ∷ arms)

-- the tree of the characters in the ranges
abbrev pub IsClassTree : List (ℕ × ℕ) → Tree → Type 0
IsClassTree ranges f = (arms : List Tree) × AreArms ranges (0 ∷ (1 ∷ (2 ∷ (3 ∷ [])))) arms × (f ≡ alternation arms)

-- well built, at most eight formulas in each other, and without a variable
abbrev pub IsPlain : Tree → Type 0
IsPlain f = IsBuilt f × (nesting f ≤ 8) × ((x : VarName) → HasVar f x → ⊥)
