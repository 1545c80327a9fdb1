-- Which formulas are well built.
use Rattle.std.specs.Prelude.{◌≡◌, ℕ, suc, ◌<◌, ◌≤◌, max, List, Option, IsTrue, codes}
use Rattle.std.specs.Option.{ForSome}
use Rattle.std.specs.Ordering.{nat_cmp}
use Rattle.std.specs.FinSet as set
use Rattle.span_core.specs.Names.{is_name}
use Rattle.spanner_model.specs.declared.TheConstants.{MOST_REPEATS, MOST_NESTED_FORMULAS}
use Rattle.spanner_model.specs.Tree.{Tree, empty, one, cat_end, cat, alt_end, alt, rep, cap}
use Rattle.spanner_model.specs.Captures.{VarName}

-- the word `none`
abbrev pub none_word : List ℕ
none_word = codes "none"

-- bytes, of which there is one at least
abbrev pub IsByteClass : set.FinSet nat_cmp → Type 0
IsByteClass bytes = ¬ (bytes ≡ set.empty) × ((b : ℕ) → IsTrue (set.contains bytes b) → b < 256)

-- numbers of a repetition: the least, and the greatest where there is one
abbrev pub AreRepeatNumbers : ℕ → Option ℕ → Type 0
AreRepeatNumbers least most = (least ≤ MOST_REPEATS) × ForSome most (λ b. (least ≤ b) × (b ≤ MOST_REPEATS))

-- a name that a capture may have
abbrev pub IsVariable : VarName → Type 0
IsVariable x = IsTrue (is_name x) × ¬ (x ≡ none_word)

-- each formula of the tree is as it should be: concatenations and alternations have two parts at least
abbrev mutual
  pub IsBuilt : Tree → Type 0
  IsBuilt empty = Unit {0}
  IsBuilt (one bytes) = IsByteClass bytes
  IsBuilt cat_end = ⊥
  IsBuilt (cat f rest) = IsBuilt f × AreParts rest × ¬ (rest ≡ cat_end)
  IsBuilt alt_end = ⊥
  IsBuilt (alt f rest) = IsBuilt f × AreArms rest × ¬ (rest ≡ alt_end)
  IsBuilt (rep f least most) = IsBuilt f × AreRepeatNumbers least most
  IsBuilt (cap x f) = IsBuilt f × IsVariable x

  -- the parts that follow one of a concatenation
  pub AreParts : Tree → Type 0
  AreParts cat_end = Unit {0}
  AreParts (cat f rest) = IsBuilt f × AreParts rest
  AreParts _ = ⊥

  -- the arms that follow one of an alternation
  pub AreArms : Tree → Type 0
  AreArms alt_end = Unit {0}
  AreArms (alt f rest) = IsBuilt f × AreArms rest
  AreArms _ = ⊥

-- how many formulas stand inside each other, the outermost among them
abbrev pub nesting : Tree → ℕ
nesting empty = 1
nesting (one bytes) = 1
nesting cat_end = 1
nesting (cat f rest) = max (suc (nesting f)) (nesting rest)
nesting alt_end = 1
nesting (alt f rest) = max (suc (nesting f)) (nesting rest)
nesting (rep f least most) = suc (nesting f)
nesting (cap x f) = suc (nesting f)

-- well built: the formulas are, and not too many stand inside each other
abbrev pub IsWellBuilt : Tree → Type 0
IsWellBuilt f = IsBuilt f × (nesting f ≤ MOST_NESTED_FORMULAS)
