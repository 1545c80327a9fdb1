-- The faults of a query that is a tree.
use Rattle.std.specs.Prelude.{ℕ, ◌<◌, ◌⊎◌, ◌↔◌, List, [], ◌∷◌, length, slice_get}
use Rattle.std.specs.Option.{ForSome, IsSomeAnd}
use Rattle.span_core.specs.Lists.{Has}
use Rattle.spanner_model.specs.Captures.{VarName}
use Rattle.spanner_model.specs.Sequential.{IsSequential}
use Rattle.spanner_model.specs.Expression.{ExprTree, QueryTree, atom, named, union_end, union, join_end, join, project, minus}
use Rattle.spanner_model.specs.Answer.{VarOf, vars_of_lets}
use Rattle.spanner_model.specs.Sound.{SureOf, SharesSure, sure_of_lets}
use Rattle.functional_check.specs.Faults.{IsFault, IsLeast}
use Rattle.query_parser.specs.declared.fault.QueryFault.{QueryFault}
use Rattle.query_parser.specs.declared.fault.QueryFault.TheVariants.{Check, JoinUnsure, UnknownVariable, MinusVariables}

-- V k has the variables, and S k the sure ones, of the let k
module _ (V S : ℕ → VarName → Type 0) where
  -- Formulas are sequential, what two parts of a join share is sure in both, a projection keeps variables that are there, and both sides of a
  -- difference have the same variables.
  abbrev pub Passes : ExprTree → Type 0
  Passes (atom a) = IsSequential a.formula
  Passes (named k) = Unit {0}
  Passes union_end = Unit {0}
  Passes (union e rest) = Passes e × Passes rest
  Passes join_end = Unit {0}
  Passes (join e rest) = Passes e × Passes rest × SharesSure V S e rest
  Passes (project names e) = Passes e × ((x : VarName) → Has names x → VarOf V e x)
  Passes (minus e g) = Passes e × Passes g × ((x : VarName) → VarOf V e x ↔ VarOf V g x)

  -- the parts of an expression pass
  abbrev pub HasPassingParts : ExprTree → Type 0
  HasPassingParts (union e rest) = Passes e × HasPassingParts rest
  HasPassingParts (join e rest) = Passes e × HasPassingParts rest
  HasPassingParts (project names e) = Passes e
  HasPassingParts (minus e g) = Passes e × Passes g
  HasPassingParts _ = Unit {0}

  -- x clashes at the part e of a join: some part before it has x too, and x is not sure in both
  abbrev pub Clashes : List ExprTree → ExprTree → VarName → Type 0
  Clashes before e x = (g : ExprTree) × Has before g × VarOf V g x × VarOf V e x × ¬ (SureOf S g x × SureOf S e x)

  -- of the parts that follow, x is the least variable that clashes at the first at which some does
  abbrev pub ClashesFirst : List ExprTree → ExprTree → VarName → Type 0
  ClashesFirst before (join e rest) x =
      IsLeast (Clashes before e) x
      ⊎ (((y : VarName) → ¬ Clashes before e y) × ClashesFirst (e ∷ before) rest x)
  ClashesFirst before _ x = ⊥

  -- x is a variable of one of the two alone
  abbrev pub IsOfOneSide : ExprTree → ExprTree → VarName → Type 0
  IsOfOneSide e g x = (VarOf V e x × ¬ VarOf V g x) ⊎ (VarOf V g x × ¬ VarOf V e x)

  -- the fault of an expression itself, where there is none inside it
  abbrev pub OwnFault : ExprTree → QueryFault → Type 0
  OwnFault (atom a) (Check e) = IsFault a.formula e
  OwnFault (join e rest) (JoinUnsure x) = ClashesFirst (e ∷ []) rest x
  OwnFault (project names e) (UnknownVariable x) = IsLeast (λ y. Has names y × ¬ VarOf V e y) x
  OwnFault (minus e g) (MinusVariables x) = IsLeast (IsOfOneSide e g) x
  OwnFault _ _ = ⊥

  -- a fault inside an expression, or where its parts pass its own
  abbrev pub IsFaultOver : Type 0 → ExprTree → QueryFault → Type 0
  IsFaultOver Inside e fault = Inside ⊎ (HasPassingParts e × OwnFault e fault)

  -- the first fault inside an expression: that of its first part that does not pass
  abbrev pub InnerFault : ExprTree → QueryFault → Type 0
  InnerFault (union e rest) fault = IsFaultOver (InnerFault e fault) e fault ⊎ (Passes e × InnerFault rest fault)
  InnerFault (join e rest) fault = IsFaultOver (InnerFault e fault) e fault ⊎ (Passes e × InnerFault rest fault)
  InnerFault (project names e) fault = IsFaultOver (InnerFault e fault) e fault
  InnerFault (minus e g) fault = IsFaultOver (InnerFault e fault) e fault ⊎ (Passes e × IsFaultOver (InnerFault g fault) g fault)
  InnerFault _ fault = ⊥

  -- the fault of an expression: the first one, parts from left to right, and then the expression itself
  abbrev pub IsExprFault : ExprTree → QueryFault → Type 0
  IsExprFault e fault = IsFaultOver (InnerFault e fault) e fault

-- the expression passes under the first n lets
abbrev pub PassesUnder : List (VarName × ExprTree) → ℕ → ExprTree → Type 0
PassesUnder lets n = Passes (vars_of_lets lets n) (sure_of_lets lets n)

-- its fault under them
abbrev pub IsFaultUnder : List (VarName × ExprTree) → ℕ → ExprTree → QueryFault → Type 0
IsFaultUnder lets n = IsExprFault (vars_of_lets lets n) (sure_of_lets lets n)

-- the let k passes
abbrev pub LetPasses : List (VarName × ExprTree) → ℕ → Type 0
LetPasses lets k = ForSome (slice_get lets k) (λ l. PassesUnder lets k l.1)

-- the fault of the let k
abbrev pub IsLetFault : List (VarName × ExprTree) → ℕ → QueryFault → Type 0
IsLetFault lets k fault = IsSomeAnd (slice_get lets k) (λ l. IsFaultUnder lets k l.1 fault)

-- the fault of a query: that of its first let that does not pass, or that of its body
abbrev pub IsTreeFault : QueryTree → QueryFault → Type 0
IsTreeFault q fault =
    ((k : ℕ) × ((j : ℕ) → j < k → LetPasses q.lets j) × IsLetFault q.lets k fault)
    ⊎ (((j : ℕ) → LetPasses q.lets j) × IsFaultUnder q.lets (length q.lets) q.body fault)
