-- Formulas as trees: what the code's `Formula` stands for.
--   Fagin et al. 2015 have these but for sets of bytes, where they have single symbols, and counted
--   repetitions, where they have the star.
use Rattle.std.specs.Prelude.{ℕ, List, [], ◌∷◌, Option}
use Rattle.std.specs.Ordering.{nat_cmp}
use Rattle.std.specs.FinSet.{FinSet}

pub data Tree : Type 0 where
  -- the empty string
  empty : Tree
  -- one byte of a set
  one : FinSet nat_cmp → Tree
  -- a concatenation: its first part and the parts that follow; `cat_end` is that none follows
  cat_end : Tree
  cat : Tree → Tree → Tree
  -- an alternation: its first arm and the arms that follow; `alt_end` is that none follows
  alt_end : Tree
  alt : Tree → Tree → Tree
  -- so many times at least, and so many at most where that is given
  rep : Tree → ℕ → Option ℕ → Tree
  -- a capture: the variable's name, and the formula
  cap : List ℕ → Tree → Tree

-- the concatenation of these parts
abbrev pub cat_all : List Tree → Tree
cat_all [] = cat_end
cat_all (f ∷ fs) = cat f (cat_all fs)

-- the alternation of these arms
abbrev pub alt_all : List Tree → Tree
alt_all [] = alt_end
alt_all (f ∷ fs) = alt f (alt_all fs)
