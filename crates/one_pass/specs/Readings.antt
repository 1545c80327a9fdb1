-- A reading as one value: a table and the pass that goes on with it, and what its acts do.
use Rattle.std.specs.Prelude.{◌≡◌, ℕ, ◌+◌, ◌*◌, ◌≤◌, ◌↔◌, List, [], ◌∷◌, ◌++◌, length}
use Rattle.span_core.specs.Lists.{Has}
use Rattle.marked_automaton.specs.Automaton.{Automaton, size}
use Rattle.automaton_reading.specs.Reading.{ended, look_ups_asked}
use Rattle.node_arena.specs.Words.{Word}
use Rattle.output_graph.specs.Graph.{Graph, HasWord, sources, targets}
use Rattle.output_graph.specs.Listed.{Lists}
use Rattle.output_graph.specs.Loop.{AreListed}
use Rattle.output_graph.specs.Rows.{rows}
use Rattle.set_table.specs.Laid.{IsStateOf, taken_up}
use Rattle.set_table.specs.Tabled.{IsTabled, Tabled, fresh}
use Rattle.set_table.specs.declared.fault.TableFault.{TableFault}
use Rattle.one_pass.specs.declared.known_table.KeptTable.{KeptTable}
use Rattle.one_pass.specs.declared.pass.Pass.{Pass}
use Rattle.one_pass.specs.declared.readings.Laid.{Laid}
use Rattle.one_pass.specs.Builds.{IsStarted}
use Rattle.one_pass.specs.Faults.{IsFaultAt, IsFaultOf}
use Rattle.one_pass.specs.Going.{GoesOn}
use Rattle.one_pass.specs.Known.{Knows}
use Rattle.one_pass.specs.Passes.{HasEnded, HasGrown, HasRead, HasStopped, HasStoppedAt, IsReadyAt, Progress, Reaches, pass, sets_of, stop}
use Rattle.one_pass.specs.Places.{Leads, ReadingPlace, edges_read, end_at}
use Rattle.one_pass.specs.SoFar.{SoFar}

-- of a table and the pass that goes on with it
abbrev pub so_far : Tabled → Pass → SoFar
so_far t p = record { table = t; graph = p.graph; at = p.at }

-- how far it has come, after so many steps
abbrev pub come_to : SoFar → ℕ → Progress
come_to r n = pass r.table r.graph n

-- it stands between two places
abbrev pub IsReadyThere : SoFar → Type 0
IsReadyThere r = IsReadyAt r.table r.graph r.at

-- before the first byte, by a table that is new
pub record HasBegun (A : Automaton) (limit before : ℕ) (r : SoFar) (n : ℕ) : Type 0 where
  pub table : r.table ≡ fresh A limit
  pub started : IsStarted before (come_to r n)
  pub ready : IsReadyThere r
  pub at : r.at ≡ 0

-- it has read these places
pub record HasReadOn (ps : List ReadingPlace) (r : SoFar) (n : ℕ) (s : SoFar) (m : ℕ) : Type 0 where
  pub read : HasRead r.table.graph ps (come_to r n) (come_to s m)
  pub ready : IsReadyThere s

-- or it was given up at one of them
pub record IsGivenUpAt (ps : List ReadingPlace) (r : SoFar) (n m : ℕ) (e : TableFault) : Type 0 where
  pub table : Tabled
  pub stopped : HasStopped r.table.graph ps (come_to r n) (stop table m)
  pub cause : IsFaultAt ps (come_to r n) e

-- ---- the rows so far

-- a copy of the graph was ended: the table has some more end look-ups of the layer, and each of them was paid for
pub record HasEndedCopy (A : Automaton) (P Q : Progress) : Type 0 where
  pub table : HasGrown P.table Q.table [] (look_ups_asked A (sets_of P) (ended ∷ []))
  pub sound : IsTabled Q.table
  pub graph : Q.graph ≡ P.graph
  pub steps :
      Q.steps + length P.table.look_ups * size A
      ≤ P.steps + 4 * length P.graph.cells + 3 * length (sources P.graph) + 4 * edges_read A (sets_of P) (ended ∷ []) + 3 + length Q.table.look_ups * size A

-- so it is of a reading, which goes on where it stood
pub record HasListed (r : SoFar) (n : ℕ) (s : SoFar) (m : ℕ) : Type 0 where
  pub ended : HasEndedCopy r.table.graph (come_to r n) (come_to s m)
  pub ready : IsReadyThere s
  pub at : s.at ≡ r.at

-- its rows are the words of the choices to the ends
abbrev pub AreEnded : Automaton → ℕ → Progress → Lists → Type 0
AreEnded A n P lists =
    (w : Word) → Has (rows lists.store lists.first) w
    ↔ ((from : List ℕ) × (u v : Word) × Reaches P from u × Leads A (end_at n ∷ []) from v [] × (u ++ v ≡ w))

-- it was not ended, by the weight of the end look-ups of the layer
abbrev pub IsEndFault : Progress → TableFault → Type 0
IsEndFault P e = IsFaultOf P.table [] (look_ups_asked P.table.graph (sets_of P) (ended ∷ [])) e

-- ---- the end

-- its sources were ended where it stands, and the graph was turned
pub record IsEndedThere (r : SoFar) (n : ℕ) (lists : Lists) (m : ℕ) : Type 0 where
  pub table : Tabled
  pub graph : Graph
  pub after : ℕ
  pub ended : HasEnded r.table.graph r.at (come_to r n) (pass table graph after)
  pub listed : AreListed (λ w. HasWord (targets graph) 0 w) (length graph.cells) lists.store lists.first
  pub turned : m ≤ after + 2 * length graph.cells + 2

-- or it was given up there
pub record IsGivenUpAtEnd (r : SoFar) (n m : ℕ) (e : TableFault) : Type 0 where
  pub table : Tabled
  pub stopped : HasStoppedAt r.table.graph (end_at r.at) (come_to r n) (stop table m)
  pub cause : IsEndFault (come_to r n) e

-- ---- what is laid down

-- the reading as which it is taken up with this automaton
abbrev pub resumed : Automaton → Laid → SoFar
resumed A x = so_far (taken_up A x.state) x.pass

-- it is of a reading with this automaton
pub record IsLaidOf (A : Automaton) (x : Laid) : Type 0 where
  pub state : IsStateOf A x.state
  pub goes_on : GoesOn (taken_up A x.state) x.pass

-- a table of this automaton with its limit, of which what is known of its layers is true
pub record IsKeptOf (A : Automaton) (kept : KeptTable) : Type 0 where
  pub state : IsStateOf A kept.state
  pub limit_is : (taken_up A kept.state).limit ≡ kept.limit
  pub known : Knows (taken_up A kept.state) kept.known
