-- The automaton of a query, with nothing trimmed: what the numbers of states and ways are counted on.
use Rattle.std.specs.Prelude.{ℕ, zero, suc, List, [], Option, Some, None, slice_get, length, nat_eq, if◌then◌else◌}
use Rattle.spanner_model.specs.Captures.{VarName}
use Rattle.spanner_model.specs.Expression.{AtomTree, ExprTree, QueryTree, atom, named, union_end, union, join_end, join, project, minus}
use Rattle.marked_automaton.specs.Automaton.{Marked, bare}
use Rattle.marked_automaton.specs.Marks.{left_of, remarked}
use Rattle.place_automaton.specs.Variables.{with_vars}
use Rattle.place_automaton.specs.Words.{atom_automaton}
use Rattle.algebra.specs.JoinedMarks.{agree_on, joined}
use Rattle.algebra.specs.JoinedNames.{all_names}
use Rattle.algebra.specs.Operations.{join_of}
use Rattle.algebra.specs.Uniting.{union_over}
use Rattle.algebra_minus.specs.DifferenceOf.{difference_of}

abbrev pub of_atom : AtomTree → Marked
of_atom a = let names = with_vars [] a.formula in record { names = names; graph = atom_automaton names a }

abbrev pub of_union : Marked → Marked → Marked
of_union A B = let names = all_names A.names B.names in record { names = names; graph = union_over A B names }

abbrev pub of_join : Marked → Marked → Marked
of_join A B =
    let names = all_names A.names B.names in
    record { names = names; graph = join_of (agree_on A.names B.names names) (joined A.names B.names names) A.graph B.graph }

abbrev pub of_projection : List VarName → Marked → Marked
of_projection names A = record { names = names; graph = remarked (left_of A.names names) A.graph }

abbrev pub of_minus : Marked → Marked → Marked
of_minus A B = record { names = A.names; graph = difference_of A.graph B.graph }

-- no states
abbrev pub no_automaton : Marked
no_automaton = record { names = []; graph = bare 0 }

-- the automaton of an expression, where L has those of the lets; unions and joins are taken from left to right
module _ (L : ℕ → Marked) where
  abbrev mutual
    pub automaton_of : ExprTree → Marked
    automaton_of (atom a) = of_atom a
    automaton_of (named k) = L k
    automaton_of union_end = no_automaton
    automaton_of (union e rest) = united (automaton_of e) rest
    automaton_of join_end = no_automaton
    automaton_of (join e rest) = together (automaton_of e) rest
    automaton_of (project names e) = of_projection names (automaton_of e)
    automaton_of (minus e g) = of_minus (automaton_of e) (automaton_of g)

    -- with the parts of a union that follow
    pub united : Marked → ExprTree → Marked
    united A (union e rest) = united (of_union A (automaton_of e)) rest
    united A _ = A

    -- with the parts of a join that follow
    pub together : Marked → ExprTree → Marked
    together A (join e rest) = together (of_join A (automaton_of e)) rest
    together A _ = A

-- the automata of the first n lets, by number: of each its own, under the lets before it
abbrev pub of_one_let : (ℕ → Marked) → Option (VarName × ExprTree) → Marked
of_one_let L None = no_automaton
of_one_let L (Some l) = automaton_of L l.1

abbrev pub of_lets : List (VarName × ExprTree) → ℕ → ℕ → Marked
of_lets lets zero k = no_automaton
of_lets lets (suc n) k = if nat_eq k n then of_one_let (of_lets lets n) (slice_get lets n) else of_lets lets n k

abbrev pub of_query : QueryTree → Marked
of_query q = automaton_of (of_lets q.lets (length q.lets)) q.body
