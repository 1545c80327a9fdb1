-- What a pass has read, or given up, after some places or before others.
use Rattle.std.proofs.Common.{ℕ, List, ◌++◌}
use Rattle.set_table.specs.Tabled.{Tabled}
use Rattle.set_table.specs.declared.fault.TableFault.{TableFault}
use Rattle.one_pass.specs.declared.pass.Pass.{Pass}
use Rattle.one_pass.specs.Going.{GivesUp, PassReads, come}
use Rattle.one_pass.specs.Passes.{stop}
use Rattle.one_pass.specs.Places.{ReadingPlace}
use Rattle.one_pass.proofs.Composing.{stopped_before}
use Rattle.one_pass.proofs.Faulting.{both_read, fault_before, then_fault, then_stopped}

module _ (ps qs : List ReadingPlace) {t : Tabled} {p : Pass} {n : ℕ} where
  module _ {u : Tabled} {q : Pass} {m : ℕ} (first : PassReads ps t p n u q m) where
    pub both_reads : {v : Tabled} {r : Pass} {l : ℕ} → PassReads qs u q m v r l → PassReads (ps ++ qs) t p n v r l
    both_reads {v} {r} {l} later = record {
      read = both_read ps qs (come t p n) (come u q m) q.at first.read first.goes_on.ready (come v r l) later.read;
      goes_on = later.goes_on;
    }

    pub then_gives_up : {v : Tabled} {l : ℕ} {e : TableFault} → GivesUp qs u q m v l e → GivesUp (ps ++ qs) t p n v l e
    then_gives_up {v} {l} {e} up = record {
      stopped = then_stopped ps qs (come t p n) (come u q m) q.at first.read first.goes_on.ready (stop v l) up.stopped;
      cause = then_fault ps qs (come t p n) (come u q m) q.at first.read first.goes_on.ready e up.cause;
    }

  pub gives_up_before : {v : Tabled} {l : ℕ} {e : TableFault} → GivesUp ps t p n v l e → GivesUp (ps ++ qs) t p n v l e
  gives_up_before {v} {l} {e} up = record {
    stopped = stopped_before t.graph ps qs (come t p n) (stop v l) up.stopped;
    cause = fault_before ps qs (come t p n) e up.cause;
  }
