-- Expressions and queries as trees: what the code's `Expr` and `Query` stand for.
use Rattle.std.specs.Prelude.{ℕ, Bool, true, false, List, [], ◌∷◌}
use Rattle.spanner_model.specs.Tree.{Tree}
use Rattle.spanner_model.specs.Captures.{VarName}

-- an atom: whether it is tied to the document's start, whether to its end, and the formula
pub record AtomTree : Type 0 where
  pub from_start : Bool
  pub to_end : Bool
  pub formula : Tree

-- the atom of a formula that is tied nowhere
abbrev pub untied : Tree → AtomTree
untied f = record { from_start = false; to_end = false; formula = f }

-- and of one that is tied at both ends
abbrev pub tied : Tree → AtomTree
tied f = record { from_start = true; to_end = true; formula = f }

pub data ExprTree : Type 0 where
  atom : AtomTree → ExprTree
  -- the let of this number, counted from 0
  named : ℕ → ExprTree
  -- a union: its first part and the parts that follow; `union_end` is that none follows
  union_end : ExprTree
  union : ExprTree → ExprTree → ExprTree
  -- a join, likewise
  join_end : ExprTree
  join : ExprTree → ExprTree → ExprTree
  -- a projection: the variables that are kept
  project : List VarName → ExprTree → ExprTree
  -- a difference: its left side, and its right side
  minus : ExprTree → ExprTree → ExprTree

-- the named expressions in order, and the body
pub record QueryTree : Type 0 where
  pub lets : List (VarName × ExprTree)
  pub body : ExprTree

-- the union, and the join, of these parts
abbrev pub union_all : List ExprTree → ExprTree
union_all [] = union_end
union_all (e ∷ es) = union e (union_all es)

abbrev pub join_all : List ExprTree → ExprTree
join_all [] = join_end
join_all (e ∷ es) = join e (join_all es)
