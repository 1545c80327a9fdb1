-- First bytes by the numbers that follow them.
--   Of numbers in ranges, the digit of highest value is what `unit` goes into a number, and the tail of
--   the number is the rest. First bytes are a base and a digit.
use Rattle.std.specs.Prelude.{◌≡◌, ℕ, ◌+◌, ◌*◌, ◌/◌, ◌<◌, ◌↔◌, List, [], ◌∷◌}
use Rattle.std.specs.FinSet.{empty, insert}
use Rattle.span_core.specs.Intervals.{Covers, AreApart}
use Rattle.span_core.specs.Lists.{Has, IsInOrder}
use Rattle.unicode_classes.specs.Texts.{IsPartOf}
use Rattle.unicode_classes.specs.ClassTree.{IsByteIn, IsLeastIn}
use Rattle.unicode_classes.specs.declared.blocks.TailGroup.{TailGroup}

-- the least byte of a group is below the least of another
abbrev pub StartsBelow : TailGroup → TailGroup → Type 0
StartsBelow g h = (b c : ℕ) → IsLeastIn g.bytes b → IsLeastIn h.bytes c → b < c

-- the tails of two groups differ
abbrev pub HaveOtherTails : TailGroup → TailGroup → Type 0
HaveOtherTails g h = ¬ (g.tails ≡ h.tails)

-- a byte is added to the first group that has these tails, or is a group of its own behind all others
pub data IsPut (byte : ℕ) (tails : List (ℕ × ℕ)) : List TailGroup → List TailGroup → Type 0 where
  opens : IsPut byte tails [] (record { bytes = insert empty byte; tails = tails } ∷ [])
  joins : (g : TailGroup) (gs : List TailGroup) → g.tails ≡ tails → IsPut byte tails (g ∷ gs) (record g { bytes = insert g.bytes byte } ∷ gs)
  later : (g : TailGroup) {gs new : List TailGroup} → ¬ (g.tails ≡ tails) → IsPut byte tails gs new → IsPut byte tails (g ∷ gs) (g ∷ new)

-- the numbers whose digit is below a bound are in groups by equal tails, by ascending least byte
pub record AreGrouped (base unit : ℕ) (ranges : List (ℕ × ℕ)) (bound : ℕ) (groups : List TailGroup) : Type 0 where
  pub each : (v : ℕ) → Covers ranges v → v < bound * unit → (g : TailGroup) × Has groups g × IsByteIn g.bytes (base + v / unit)
  pub holds : (g : TailGroup) (b : ℕ) → Has groups g → IsByteIn g.bytes b →
      (n : ℕ) × (b ≡ base + n) × (n < bound) × ((q : ℕ) → Covers g.tails q ↔ IsPartOf ranges (n * unit) (n * unit + unit) (n * unit + q))
  pub some : (g : TailGroup) → Has groups g → (q : ℕ) × Covers g.tails q
  pub apart : (g : TailGroup) → Has groups g → AreApart g.tails
  pub least : (g : TailGroup) → Has groups g → (b : ℕ) × IsLeastIn g.bytes b
  pub ascending : IsInOrder StartsBelow groups
  pub distinct : IsInOrder HaveOtherTails groups
