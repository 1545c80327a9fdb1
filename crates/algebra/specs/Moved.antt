-- Automata put into larger ones, behind states that these have.
use Rattle.std.specs.Prelude.{◌≡◌, ℕ, ◌+◌, ◌↔◌, ◌⊎◌, ◌++◌, map}
use Rattle.span_core.specs.Lists.{Has}
use Rattle.marked_automaton.specs.Automaton.{Automaton}
use Rattle.algebra.specs.Operations.{moved_stop, moved_way}

-- so far behind as `by` a state p stands where `by + p` does
abbrev pub HasMovedIdle : ℕ → Automaton → ℕ → Type 0
HasMovedIdle by part p = (q : ℕ) × Has part.idle q × (by + q ≡ p)

-- the starts, ends and idle states of a part are there too, moved
pub record IsWithPart (by : ℕ) (part old new : Automaton) : Type 0 where
  pub states : new.states ≡ old.states
  pub starts : new.starts ≡ old.starts ++ map (◌+◌ by) part.starts
  pub ways : new.ways ≡ old.ways
  pub stops : new.stops ≡ old.stops ++ map (moved_stop by) part.stops
  pub idles : (p : ℕ) → Has new.idle p ↔ (Has old.idle p ⊎ HasMovedIdle by part p)

-- the ways of a part are there too, moved
pub record IsWithWays (by : ℕ) (part old new : Automaton) : Type 0 where
  pub states : new.states ≡ old.states
  pub starts : new.starts ≡ old.starts
  pub ways : new.ways ≡ old.ways ++ map (moved_way by) part.ways
  pub stops : new.stops ≡ old.stops
  pub idle : new.idle ≡ old.idle
