-- What the checks over the tree answer: the variables of expressions, as the numbers of their names among these names.
use Rattle.std.specs.Prelude.{◌≡◌, ℕ, List, map, slice_get, Result, MatchResult, ◌⊎◌, ◌↔◌}
use Rattle.std.specs.Option.{IsSomeAnd}
use Rattle.span_core.specs.Lists.{Has}
use Rattle.spanner_model.specs.Captures.{VarName}
use Rattle.spanner_model.specs.Expression.{ExprTree}
use Rattle.spanner_model.specs.Answer.{VarOf}
use Rattle.spanner_model.specs.Sound.{SureOf}
use Rattle.functional_check.specs.Faults.{IsLeast}
use Rattle.functional_check.specs.Numbered.{members}
use Rattle.query_parser.specs.declared.check.Bound.{Bound}
use Rattle.query_parser.specs.declared.fault.QueryFault.{QueryFault}
use Rattle.query_parser.specs.declared.fault.QueryFault.TheVariants.{UnknownVariable, MinusVariables}
use Rattle.query_parser.specs.TreeFaults.{Passes, IsExprFault}

-- the names of an expression's variables, and of the sure ones
pub record BoundNames : Type 0 where
  pub vars : List VarName
  pub sure : List VarName

-- those of these numbers
abbrev pub bound_in : List VarName → Bound → BoundNames
bound_in names b = record { vars = members names b.vars; sure = members names b.sure }

abbrev pub bounds_in : List VarName → List Bound → List BoundNames
bounds_in names known = map (bound_in names) known

-- the variables, and the sure ones, of the let k, where `known` has those of the first lets in order
abbrev pub vars_known : List BoundNames → ℕ → VarName → Type 0
vars_known known k x = IsSomeAnd (slice_get known k) (λ b. Has b.vars x)

abbrev pub sure_known : List BoundNames → ℕ → VarName → Type 0
sure_known known k x = IsSomeAnd (slice_get known k) (λ b. Has b.sure x)

-- the sure variables of each let are variables of it
abbrev pub HasSureAmongVars : List BoundNames → Type 0
HasSureAmongVars known = (k : ℕ) (x : VarName) → sure_known known k x → vars_known known k x

-- V k has the variables, and S k the sure ones, of the let k
module _ (V S : ℕ → VarName → Type 0) where
  -- these are the variables, and the sure ones, of the expression
  abbrev pub IsBoundOf : ExprTree → BoundNames → Type 0
  IsBoundOf e b = ((x : VarName) → Has b.vars x ↔ VarOf V e x) × ((x : VarName) → Has b.sure x ↔ SureOf S e x)

  -- the variables of an expression that passes, or its fault
  abbrev pub Checked : List VarName → ExprTree → Result Bound QueryFault → Type 0
  Checked names e result = MatchResult result (λ b. Passes V S e × IsBoundOf e (bound_in names b)) (IsExprFault V S e)

-- the same under lets of which these are known
abbrev pub CheckedUnder : List VarName → List Bound → ExprTree → Result Bound QueryFault → Type 0
CheckedUnder names known e result = Checked (vars_known (bounds_in names known)) (sure_known (bounds_in names known)) names e result

-- x is in both, and not sure in both
abbrev pub IsUnsureIn : BoundNames → BoundNames → VarName → Type 0
IsUnsureIn a b x = Has a.vars x × Has b.vars x × ¬ (Has a.sure x × Has b.sure x)

-- what a projection to these names leaves of these variables
abbrev pub IsProjectionOf : List VarName → List VarName → Bound → Result Bound QueryFault → Type 0
IsProjectionOf names keep b result =
    MatchResult result
    (λ left. ((x : VarName) → Has (members names left.vars) x ↔ Has keep x)
    × ((x : VarName) → Has (members names left.sure) x ↔ (Has keep x × Has (members names b.sure) x))
    × ((x : VarName) → Has keep x → Has (members names b.vars) x))
    (λ fault. (x : VarName) × IsLeast (λ y. Has keep y × ¬ Has (members names b.vars) y) x × (fault ≡ UnknownVariable x))

-- x is in one of the two alone
abbrev pub IsInOne : BoundNames → BoundNames → VarName → Type 0
IsInOne a b x = (Has a.vars x × ¬ Has b.vars x) ⊎ (Has b.vars x × ¬ Has a.vars x)

-- what a difference of sides with these variables has
abbrev pub IsDifferenceOf : List VarName → Bound → Bound → Result Bound QueryFault → Type 0
IsDifferenceOf names a b result =
    MatchResult result
    (λ left. (left ≡ a) × ((x : VarName) → ¬ IsInOne (bound_in names a) (bound_in names b) x))
    (λ fault. (x : VarName) × IsLeast (IsInOne (bound_in names a) (bound_in names b)) x × (fault ≡ MinusVariables x))
