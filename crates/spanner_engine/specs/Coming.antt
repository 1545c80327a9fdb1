-- A document that is read as it comes.
use Rattle.std.specs.Prelude.{◌≡◌, ◌↔◌, ℕ, ◌+◌, ◌*◌, ◌≤◌, ◌<◌, ◌^◌, Bool, List, [], ◌∷◌, ◌++◌, length, slice_get, Some, IsTrue}
use Rattle.marked_automaton.specs.Automaton.{Automaton}
use Rattle.automaton_reading.specs.Reading.{edges_K, ended, look_ups_asked}
use Rattle.place_automaton.specs.Atom.{AreBytes}
use Rattle.set_table.specs.Tabled.{Tabled}
use Rattle.set_table.specs.declared.fault.TableFault.{TableFault}
use Rattle.output_graph.specs.Graph.{Graph, HasWord, targets}
use Rattle.output_graph.specs.Listed.{Lists}
use Rattle.output_graph.specs.Loop.{AreListed}
use Rattle.output_graph.specs.Rows.{rows}
use Rattle.one_pass.specs.Builds.{build}
use Rattle.one_pass.specs.Faults.{IsFaultOf, IsReadFault}
use Rattle.one_pass.specs.Passes.{HasEnded, HasStoppedAt, Progress, pass, sets_of, stop}
use Rattle.one_pass.specs.Places.{AreReadWords, bytes_at, end_at}
use Rattle.one_pass.specs.Readings.{HasBegun, HasReadOn, come_to}
use Rattle.one_pass.specs.SoFar.{SoFar}
use Rattle.one_pass.specs.Weights.{WeighsWithin}

-- K has all positions of the document
abbrev pub IsWhole : List ℕ → (ℕ → Bool) → Type 0
IsWhole d K = (i : ℕ) → IsTrue (K i) ↔ (i ≤ length d)

-- all bytes that came were read, by a table that was new when the counter stood at `before`
pub record HasReadAll (A : Automaton) (limit before : ℕ) (d : List ℕ) (r : SoFar) (n : ℕ) : Type 0 where
  pub first : SoFar
  pub start : ℕ
  pub begun : HasBegun A limit (before + 1) first start
  pub read : HasReadOn (bytes_at 0 d) first start r n
  pub at : r.at ≡ length d

-- reading was refused, whatever is still to come
pub record IsRefusedFor (A : Automaton) (limit before : ℕ) (d : List ℕ) (n : ℕ) (e : TableFault) : Type 0 where
  pub steps : (more : List ℕ) (K : ℕ → Bool) → IsWhole (d ++ more) K → n ≤ before + build A (d ++ more) K
  pub cause : (more : List ℕ) (K : ℕ → Bool) → IsWhole (d ++ more) K → IsReadFault A K (d ++ more) limit e

-- these are the lists of the words with which it is read
pub record AreListsOf (A : Automaton) (limit before : ℕ) (d : List ℕ) (K : ℕ → Bool) (lists : Lists) (m : ℕ) : Type 0 where
  pub words : AreReadWords A K d (rows lists.store lists.first)
  pub cells : length lists.store ≤ edges_K A d K + 1
  pub weighs : WeighsWithin A d K limit
  pub steps : m ≤ before + build A d K

-- (to stand in one_pass/specs/Readings.antt)
pub record IsEndedThere (r : SoFar) (n : ℕ) (lists : Lists) (m : ℕ) : Type 0 where
  pub table : Tabled
  pub graph : Graph
  pub after : ℕ
  pub ended : HasEnded r.table.graph r.at (come_to r n) (pass table graph after)
  pub listed : AreListed (λ w. HasWord (targets graph) 0 w) (length graph.cells) lists.store lists.first
  pub turned : m ≤ after + 2 * length graph.cells + 2

pub record IsGivenUpAtEnd (r : SoFar) (n m : ℕ) (e : TableFault) : Type 0 where
  pub table : Tabled
  pub stopped : HasStoppedAt r.table.graph (end_at r.at) (come_to r n) (stop table m)
  pub cause : IsFaultOf r.table [] (look_ups_asked r.table.graph (sets_of (come_to r n)) (ended ∷ [])) e
