-- The grammar of a query: which text spells which tree.
use Rattle.std.specs.Prelude.{◌≡◌, ℕ, suc, ◌≤◌, List, [], ◌∷◌, ◌++◌, length, map, Some, slice_get}
use Rattle.span_core.specs.declared.TheConstants.{MOST_VARIABLES}
use Rattle.span_core.specs.NameSets.{with_name}
use Rattle.span_core.specs.Lists.{Has}
use Rattle.spanner_model.specs.Captures.{VarName}
use Rattle.spanner_model.specs.Expression.{AtomTree, ExprTree, QueryTree, atom, named, union_end, join_end, project, minus, union_all, join_all}
use Rattle.spanner_model.specs.Sound.{IsFreeName}
use Rattle.query_parser.specs.declared.TheConstants.{MOST_OPEN, MOST_MINUSES}
use Rattle.query_parser.specs.Tokens.{Token, atom_token, let_word, union_word, join_word, project_word, none_word, name_token, equals, semicolon, open_paren, close_paren, comma, minus_word, HasTokens}
use Rattle.query_parser.specs.Minuses.{minuses_of}

-- an expression of one conjunction is that conjunction, of more their union
abbrev pub union_tree : List ExprTree → ExprTree
union_tree [] = union_end
union_tree (e ∷ []) = e
union_tree (e ∷ f ∷ es) = union_all (e ∷ f ∷ es)

-- a conjunction of one unit is that unit, of more their join
abbrev pub join_tree : List ExprTree → ExprTree
join_tree [] = join_end
join_tree (e ∷ []) = e
join_tree (e ∷ f ∷ es) = join_all (e ∷ f ∷ es)

-- the ascending list of these names and of those that follow; a name that is there twice counts once
abbrev pub with_names : List VarName → List VarName → List VarName
with_names names [] = names
with_names names (x ∷ xs) = with_names (with_name x names) xs

-- names with a comma between
pub data SpellsNames : List Token → List VarName → Type 0 where
  one_name : {x : VarName} → IsFreeName x → SpellsNames (name_token x ∷ []) (x ∷ [])
  more_names : {t : List Token} {x : VarName} {xs : List VarName} → SpellsNames t xs → IsFreeName x →
      SpellsNames (t ++ comma ∷ name_token x ∷ []) (xs ++ x ∷ [])

-- what a projection keeps: no variable, or those of these names, not too many
pub data SpellsKeep : List Token → List VarName → Type 0 where
  keeps_none : SpellsKeep (none_word ∷ []) []
  keeps_names : {t : List Token} {xs : List VarName} → SpellsNames t xs → length (with_names [] xs) ≤ MOST_VARIABLES → SpellsKeep t (with_names [] xs)

-- `names` are those of the lets that a name may speak of, in order; `room` is how many parentheses may still be opened.
mutual
  -- the tokens of the conjunctions of an expression, with the word `union` or `minus` between, and the trees of the parts of their union: what
  -- stands before a `minus` is united, and is less what follows one part
  pub data SpellsExpr (names : List VarName) : ℕ → List Token → List ExprTree → Type 0 where
    lone_conj : {room : ℕ} {t : List Token} {es : List ExprTree} → SpellsConj names room t es → SpellsExpr names room t (join_tree es ∷ [])
    more_conjs : {room : ℕ} {t u : List Token} {fs es : List ExprTree} → SpellsExpr names room t fs → SpellsConj names room u es →
        SpellsExpr names room (t ++ union_word ∷ u) (fs ++ join_tree es ∷ [])
    less_conj : {room : ℕ} {t u : List Token} {fs es : List ExprTree} → SpellsExpr names room t fs → SpellsConj names room u es →
        SpellsExpr names room (t ++ name_token minus_word ∷ u) (minus (union_tree fs) (join_tree es) ∷ [])

  -- the tokens of the units of a conjunction, with the word `join` between, and their trees
  pub data SpellsConj (names : List VarName) : ℕ → List Token → List ExprTree → Type 0 where
    lone_unit : {room : ℕ} {t : List Token} {e : ExprTree} → SpellsUnit names room t e → SpellsConj names room t (e ∷ [])
    more_units : {room : ℕ} {t u : List Token} {es : List ExprTree} {e : ExprTree} → SpellsConj names room t es → SpellsUnit names room u e →
        SpellsConj names room (t ++ join_word ∷ u) (es ++ e ∷ [])

  pub data SpellsUnit (names : List VarName) : ℕ → List Token → ExprTree → Type 0 where
    atom_unit : {room : ℕ} {a : AtomTree} → SpellsUnit names room (atom_token a ∷ []) (atom a)
    named_unit : {room k : ℕ} {x : VarName} → slice_get names k ≡ Some x → SpellsUnit names room (name_token x ∷ []) (named k)
    group_of : {room : ℕ} {t : List Token} {es : List ExprTree} → SpellsExpr names room t es → SpellsUnit names (suc room) (open_paren ∷ (t ++ close_paren ∷ [])) (union_tree es)
    projection_of : {room : ℕ} {t u : List Token} {keep : List VarName} {es : List ExprTree} → SpellsKeep t keep → SpellsExpr names room u es →
        SpellsUnit names (suc room) (project_word ∷ (t ++ open_paren ∷ (u ++ close_paren ∷ []))) (project keep (union_tree es))

-- the names of lets
abbrev pub names_of : List (VarName × ExprTree) → List VarName
names_of lets = map (λ l. l.0) lets

-- the tokens of lets, each of which may speak of those before it
pub data SpellsLets : List Token → List (VarName × ExprTree) → Type 0 where
  no_let : SpellsLets [] []
  more_lets : {t u : List Token} {lets : List (VarName × ExprTree)} {x : VarName} {es : List ExprTree} → SpellsLets t lets →
      IsFreeName x → ¬ Has (names_of lets) x → SpellsExpr (names_of lets) MOST_OPEN u es →
      SpellsLets (t ++ let_word ∷ name_token x ∷ equals ∷ (u ++ semicolon ∷ [])) (lets ++ (x, union_tree es) ∷ [])

-- the tokens of a query, in which not too many differences stand
abbrev pub Spells : List Token → QueryTree → Type 0
Spells ts q =
    (t : List Token) × (u : List Token) × (es : List ExprTree) × (ts ≡ t ++ u)
    × SpellsLets t q.lets × SpellsExpr (names_of q.lets) MOST_OPEN u es × (q.body ≡ union_tree es) × (minuses_of q ≤ MOST_MINUSES)

-- the text spells the query
abbrev pub SpellsQuery : List ℕ → QueryTree → Type 0
SpellsQuery text q = (ts : List Token) × HasTokens text 0 ts × Spells ts q
