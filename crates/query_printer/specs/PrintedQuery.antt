-- The printed forms of expressions and of queries.
use Rattle.std.specs.Prelude.{ℕ, suc, ◌≤◌, max, Bool, true, false, List, [], ◌∷◌, ◌++◌, unwrap_or, slice_get, codes}
use Rattle.std.specs.Option.{ForSome}
use Rattle.spanner_model.specs.Captures.{VarName}
use Rattle.spanner_model.specs.Expression.{ExprTree, QueryTree, atom, named, union_end, union, join_end, join, project, minus}
use Rattle.query_printer.specs.PrintedFormula.{wrapped, wrapped_open, atom_text}
use Rattle.query_printer.specs.PrintedFormula as formulas
use Rattle.query_parser.specs.declared.TheConstants.{MOST_OPEN, MOST_MINUSES}
use Rattle.query_parser.specs.Minuses.{minuses_of}
use Rattle.query_parser.specs.Spells.{names_of}

-- what an expression is, as far as parentheses are concerned: a difference is as a union
pub data Shape : Type 0 where
  a_unit : Shape
  a_join : Shape
  a_union : Shape

abbrev pub shape : ExprTree → Shape
shape (atom a) = a_unit
shape (named k) = a_unit
shape union_end = a_union
shape (union e rest) = a_union
shape join_end = a_join
shape (join e rest) = a_join
shape (project names e) = a_unit
shape (minus e g) = a_union

-- in parentheses among the parts of a union or as a side of a difference, among the parts of a join
abbrev pub wraps_in_union : Shape → Bool
wraps_in_union a_union = true
wraps_in_union _ = false

abbrev pub wraps_in_join : Shape → Bool
wraps_in_join a_unit = false
wraps_in_join _ = true

-- texts with one text between them
abbrev pub further : List ℕ → List (List ℕ) → List ℕ
further between [] = []
further between (t ∷ ts) = between ++ (t ++ further between ts)

abbrev pub joined : List ℕ → List (List ℕ) → List ℕ
joined between [] = []
joined between (t ∷ ts) = t ++ further between ts

-- the names that a projection keeps, in the order of the list, with a comma between, or `none`
abbrev pub keep_text : List VarName → List ℕ
keep_text [] = codes "none"
keep_text (x ∷ xs) = joined (44 ∷ []) (x ∷ xs)

-- `names` are those of the lets, by number
abbrev mutual
  pub printed : List VarName → ExprTree → List ℕ
  printed names (atom a) = atom_text a
  printed names (named k) = unwrap_or (slice_get names k) []
  printed names union_end = []
  printed names (union e rest) = joined (codes " union ") (wrapped (wraps_in_union (shape e)) (printed names e) ∷ conj_texts names rest)
  printed names join_end = []
  printed names (join e rest) = joined (codes " join ") (wrapped (wraps_in_join (shape e)) (printed names e) ∷ unit_texts names rest)
  printed names (project keep e) = codes "project " ++ (keep_text keep ++ (codes " (" ++ (printed names e ++ 41 ∷ [])))
  printed names (minus e g) = wrapped (wraps_in_union (shape e)) (printed names e) ++ (codes " minus " ++ wrapped (wraps_in_union (shape g)) (printed names g))

  -- the parts that follow one of a union, and one of a join
  pub conj_texts : List VarName → ExprTree → List (List ℕ)
  conj_texts names (union e rest) = wrapped (wraps_in_union (shape e)) (printed names e) ∷ conj_texts names rest
  conj_texts names _ = []

  pub unit_texts : List VarName → ExprTree → List (List ℕ)
  unit_texts names (join e rest) = wrapped (wraps_in_join (shape e)) (printed names e) ∷ unit_texts names rest
  unit_texts names _ = []

-- `let NAME = EXPR; `
abbrev pub let_text : List VarName → VarName × ExprTree → List ℕ
let_text names l = codes "let " ++ (l.0 ++ (codes " = " ++ (printed names l.1 ++ codes "; ")))

abbrev pub lets_text : List VarName → List (VarName × ExprTree) → List ℕ
lets_text names [] = []
lets_text names (l ∷ lets) = let_text names l ++ lets_text names lets

-- the lets in order, and the body
abbrev pub query_text : QueryTree → List ℕ
query_text q = lets_text (names_of q.lets) q.lets ++ printed (names_of q.lets) q.body

-- how many parentheses are open at once in the printed form, those of its atoms apart
abbrev pub most_open : ExprTree → ℕ
most_open (atom a) = 0
most_open (named k) = 0
most_open union_end = 0
most_open (union e rest) = max (wrapped_open (wraps_in_union (shape e)) (most_open e)) (most_open rest)
most_open join_end = 0
most_open (join e rest) = max (wrapped_open (wraps_in_join (shape e)) (most_open e)) (most_open rest)
most_open (project names e) = suc (most_open e)
most_open (minus e g) = max (wrapped_open (wraps_in_union (shape e)) (most_open e)) (wrapped_open (wraps_in_union (shape g)) (most_open g))

-- how many parentheses and captures are open at once in one of its atoms
abbrev pub most_in_atoms : ExprTree → ℕ
most_in_atoms (atom a) = formulas.most_open a.formula
most_in_atoms (named k) = 0
most_in_atoms union_end = 0
most_in_atoms (union e rest) = max (most_in_atoms e) (most_in_atoms rest)
most_in_atoms join_end = 0
most_in_atoms (join e rest) = max (most_in_atoms e) (most_in_atoms rest)
most_in_atoms (project names e) = most_in_atoms e
most_in_atoms (minus e g) = max (most_in_atoms e) (most_in_atoms g)

-- the printed form nests within the limits of what is read, which are the same for a query and for an atom
abbrev pub IsShallow : ExprTree → Type 0
IsShallow e = (most_open e ≤ MOST_OPEN) × (most_in_atoms e ≤ MOST_OPEN)

-- the same of each let and of the body, and in all of them there are no more differences than are read
abbrev pub IsShallowQuery : QueryTree → Type 0
IsShallowQuery q = ((k : ℕ) → ForSome (slice_get q.lets k) (λ l. IsShallow l.1)) × IsShallow q.body × (minuses_of q ≤ MOST_MINUSES)
