-- What a prepared query is, what rows are still to come, and why a text is refused.
use Rattle.std.specs.Prelude.{◌≡◌, ◌⊎◌, ℕ, ◌*◌, Bool, List, length, take, drop, refl}
use Rattle.std.specs.Coded.{Coded, code_by, coded×, coded_list, coded_ℕ}
use Rattle.marked_automaton.specs.Automaton.{Automaton, Marked}
use Rattle.marked_automaton.specs.Codes.{automaton_code}
use Rattle.spanner_model.specs.contracts.tested.Tested.{the_row}
use Rattle.spanner_model.specs.Captures.{VarName}
use Rattle.spanner_model.specs.Answers.{SpanRow}
use Rattle.spanner_model.specs.Tested.{TestedTree, tested_of}
use Rattle.spanner_model.specs.declared.tested.Tested.{Tested}
use Rattle.query_parser.specs.declared.fault.QueryFault.TheVariants as text_fault
use Rattle.query_automaton.specs.Parts.{HasLargePart}
use Rattle.spanner_model.specs.Passing.{Check, Known, checks_of, known, passing}
use Rattle.query_parser.specs.Binding.{HasFaultUnder, IsOnlyTested}
use Rattle.spanner_library.specs.Cells.{rows_cells}
use Rattle.spanner_library.specs.declared.prepared.PrepareFault.{PrepareFault}
use Rattle.spanner_library.specs.declared.prepared.PrepareFault.TheVariants as refused

-- a query with its tests, the tests that are known, the names of its variables, and the automaton that documents are read by
pub record PreparedQuery : Type 0 where
  pub tested : Tested
  pub tests : List (List ℕ × ℕ)
  pub names : List VarName
  pub graph : Automaton

-- it is stored as its parts
abbrev pub prepared_code : Coded PreparedQuery
prepared_code =
    code_by (Tested × (List (List ℕ × ℕ) × (List VarName × Automaton)))
    (coded× the_row.coded (coded× (coded_list (coded× (coded_list coded_ℕ) coded_ℕ)) (coded× (coded_list (coded_list coded_ℕ)) automaton_code)))
    (λ p. (p.tested, (p.tests, (p.names, p.graph)))) (λ t. record { tested = t.0; tests = t.1.0; names = t.1.1.0; graph = t.1.1.1 }) (λ _. refl)

-- the tree of its text
abbrev pub tree : PreparedQuery → TestedTree
tree p = tested_of p.tested

-- the automaton that documents are read by, with the names of its variables
abbrev pub automaton_of : PreparedQuery → Marked
automaton_of p = record { names = p.names; graph = p.graph }

-- its checks, where this is what the numbers of tests mean
abbrev pub checks_by : (ℕ → List ℕ → Bool) → PreparedQuery → List Check
checks_by judges p = checks_of (known p.tests judges) (tree p).asked

-- rows of so many variables: the answers that were not tried yet
pub record RowsToCome : Type 0 where
  pub variables : ℕ
  pub rest : List SpanRow

-- Rows were given: of the old answers those that pass, so many at most, as numbers at the beginning of some memory, of which what stands
-- behind them is as it was. Of the answers that are left those that pass are the ones behind them.
pub record Given (checks : List Check) (names : List VarName) (d : List ℕ) (old new : List SpanRow) (before after : List ℕ) (most count : ℕ) : Type 0 where
  pub counted : count ≡ length (take most (passing checks names d old))
  pub cells : take (count * (2 * length names)) after ≡ rows_cells (take most (passing checks names d old))
  pub behind : drop (count * (2 * length names)) after ≡ drop (count * (2 * length names)) before
  pub left : passing checks names d new ≡ drop most (passing checks names d old)

-- why a text is not prepared: its fault, or a size; want of memory has no cause
abbrev pub IsRefused : Known → List ℕ → PrepareFault → Type 0
IsRefused k text (refused.Text fault) = (fault ≡ text_fault.OutOfMemory) ⊎ HasFaultUnder k text fault
IsRefused k text (refused.Size fault) = (t : TestedTree) × IsOnlyTested k text t × HasLargePart t.query fault
