-- What is told of a query: its printed form, the variables of its result, and the numbers of its atoms.
use Rattle.std.specs.Prelude.{◌≡◌, ℕ, suc, ◌+◌, ◌-◌, ◌^◌, min, List, [], ◌∷◌, ◌++◌, codes, length}
use Rattle.std.specs.List.{flat_map}
use Rattle.std.specs.Fmt.{decimal}
use Rattle.spanner_model.specs.Captures.{VarName}
use Rattle.spanner_model.specs.Expression.{AtomTree, ExprTree, QueryTree, atom, named, union_end, union, join_end, join, minus, project}
use Rattle.spanner_model.specs.Sequential.{HasVar, IsSequential}
use Rattle.spanner_model.specs.WellBuilt.{IsWellBuilt}
use Rattle.span_core.specs.Lists.{AtMost, Has}
use Rattle.span_core.specs.declared.TheConstants.{MOST_VARIABLES}
use Rattle.query_printer.specs.PrintedQuery.{joined, query_text}
use Rattle.place_automaton.specs.Counts.{count_states, count_ways}
use Rattle.note_texts.specs.Notes.{line}

-- the atoms of an expression, from left to right
abbrev pub atoms_of : ExprTree → List AtomTree
atoms_of (atom a) = a ∷ []
atoms_of (named k) = []
atoms_of union_end = []
atoms_of (union e rest) = atoms_of e ++ atoms_of rest
atoms_of join_end = []
atoms_of (join e rest) = atoms_of e ++ atoms_of rest
atoms_of (project names e) = atoms_of e
atoms_of (minus e g) = atoms_of e ++ atoms_of g

-- the atoms of parts, from left to right
abbrev pub atoms_among : List ExprTree → List AtomTree
atoms_among parts = flat_map atoms_of parts

-- the atoms of named expressions, in their order
abbrev pub atoms_in : List (VarName × ExprTree) → List AtomTree
atoms_in lets = flat_map (λ l. atoms_of l.1) lets

-- the atoms of a query, in the order of its text
abbrev pub query_atoms : QueryTree → List AtomTree
query_atoms q = atoms_in q.lets ++ atoms_of q.body

-- atoms whose numbers can be told
abbrev pub IsCounted : AtomTree → Type 0
IsCounted a = IsWellBuilt a.formula × IsSequential a.formula × AtMost MOST_VARIABLES (HasVar a.formula)

abbrev pub AreCounted : List AtomTree → Type 0
AreCounted atoms = (a : AtomTree) → Has atoms a → IsCounted a

-- a number, or the greatest of 64 bits where that is less
abbrev pub shown_number : ℕ → List ℕ
shown_number n = decimal (min n (2 ^ 64 - 1))

-- the numbers of an atom's automaton
abbrev pub atom_line : ℕ → AtomTree → List ℕ
atom_line k a =
    line (codes "atom " ++ decimal k
    ++ codes " states " ++ shown_number (count_states a)
    ++ codes " ways " ++ shown_number (count_ways a))

-- atoms with their numbers, from this one on
abbrev pub atom_lines : ℕ → List AtomTree → List ℕ
atom_lines k [] = []
atom_lines k (a ∷ atoms) = atom_line k a ++ atom_lines (suc k) atoms

-- behind so many atoms the lines of further ones were appended; so many are there then
pub record HasLines (before : ℕ) (old : List ℕ) (atoms : List AtomTree) (all : ℕ) (new : List ℕ) : Type 0 where
  pub count : all ≡ before + length atoms
  pub lines : new ≡ old ++ atom_lines (before + 1) atoms

-- names with a space between, or the word `none`
abbrev pub names_text : List VarName → List ℕ
names_text [] = codes "none"
names_text (x ∷ names) = joined (32 ∷ []) (x ∷ names)

-- the lines that explain a query whose result has these names
abbrev pub explain_text : QueryTree → List VarName → List ℕ
explain_text q names =
    line (codes "query " ++ query_text q) ++ line (codes "variables " ++ names_text names) ++ atom_lines 1 (query_atoms q)
