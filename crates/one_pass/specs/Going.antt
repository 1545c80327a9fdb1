-- A pass as a value, beside the table that it reads by: where it may go on, and what its acts do.
use Rattle.std.specs.Prelude.{◌≡◌, ℕ, ◌+◌, List, [], ◌∷◌, take}
use Rattle.automaton_reading.specs.Reading.{ended, look_ups_asked}
use Rattle.output_graph.specs.Graph.{Graph}
use Rattle.set_table.specs.Tabled.{Tabled}
use Rattle.set_table.specs.declared.fault.TableFault.{TableFault}
use Rattle.one_pass.specs.declared.pass.Pass.{Pass}
use Rattle.one_pass.specs.Faults.{IsFaultAt, IsFaultOf}
use Rattle.one_pass.specs.Ahead.{KnowsWaiting}
use Rattle.one_pass.specs.Known.{Knows}
use Rattle.one_pass.specs.Passes.{HasEnded, HasRead, HasStopped, HasStoppedAt, IsReadyAt, Progress, pass, sets_of, stop}
use Rattle.one_pass.specs.Places.{ReadingPlace, bytes_at, end_at}

-- how far the pass has come
abbrev pub come : Tabled → Pass → ℕ → Progress
come t p n = pass t p.graph n

-- it may go on with the table: it stands between two places, and what it knows of layers, and of states that wait, is true
pub record GoesOn (t : Tabled) (p : Pass) : Type 0 where
  pub ready : IsReadyAt t p.graph p.at
  pub known : Knows t p.known
  pub waits : KnowsWaiting t.graph.ways p.search.ahead.waiting

-- it has read these places, and may go on
pub record PassReads (ps : List ReadingPlace) (t : Tabled) (p : Pass) (n : ℕ) (u : Tabled) (q : Pass) (m : ℕ) : Type 0 where
  pub read : HasRead t.graph ps (come t p n) (come u q m)
  pub goes_on : GoesOn u q

-- it has read so many bytes at the front of a piece
pub record IsAdvanced (t0 : Tabled) (p0 : Pass) (n0 : ℕ) (piece : List ℕ) (i : ℕ) (t : Tabled) (p : Pass) (n : ℕ) : Type 0 where
  pub reads : PassReads (bytes_at p0.at (take i piece)) t0 p0 n0 t p n
  pub at : p.at ≡ p0.at + i

-- or it was given up at one of them
pub record GivesUp (ps : List ReadingPlace) (t : Tabled) (p : Pass) (n : ℕ) (u : Tabled) (m : ℕ) (e : TableFault) : Type 0 where
  pub stopped : HasStopped t.graph ps (come t p n) (stop u m)
  pub cause : IsFaultAt ps (come t p n) e

-- its sources have been ended where it stands, which left this graph
abbrev pub PassEnds : Tabled → Pass → ℕ → Tabled → Graph → ℕ → Type 0
PassEnds t p n u g m = HasEnded t.graph p.at (come t p n) (pass u g m)

-- or it was given up there
pub record GivesUpEnd (t : Tabled) (p : Pass) (n : ℕ) (u : Tabled) (m : ℕ) (e : TableFault) : Type 0 where
  pub stopped : HasStoppedAt t.graph (end_at p.at) (come t p n) (stop u m)
  pub cause : IsFaultOf t [] (look_ups_asked t.graph (sets_of (come t p n)) (ended ∷ [])) e
