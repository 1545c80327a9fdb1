-- Tables that are laid down.
use Rattle.std.specs.Prelude.{◌≤◌}
use Rattle.marked_automaton.specs.Automaton.{Automaton}
use Rattle.set_table.specs.declared.state.TableState.{TableState}
use Rattle.set_table.specs.Answered.{AreStays, Holds, tabled}
use Rattle.set_table.specs.Runs.{AreIndexed}
use Rattle.set_table.specs.Tabled.{Tabled}

-- the table as which a state is taken up with this automaton
abbrev pub taken_up : Automaton → TableState → Tabled
taken_up A x = tabled A x.limit x.store

-- the state is of a table of this automaton
pub record IsStateOf (A : Automaton) (x : TableState) : Type 0 where
  pub small : x.limit ≤ 100000000
  pub light : x.weight ≤ x.limit
  pub held : Holds A x.store x.weight
  pub stays : AreStays (taken_up A x) x.store.stays.items
  pub indexed : AreIndexed A.ways x.store.lists.runs
