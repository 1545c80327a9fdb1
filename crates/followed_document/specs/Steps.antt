-- A piece more: what the layer has behind it, and what is given.
use Rattle.std.specs.Prelude.{ℕ, ◌≤◌, ◌↔◌, Bool, List, [], ◌∷◌, ◌++◌, length}
use Rattle.span_core.specs.Lists.{Has}
use Rattle.marked_automaton.specs.Automaton.{Automaton}
use Rattle.marked_automaton.specs.Reach.{IsFlagged}
use Rattle.automaton_reading.specs.Reading.{set_of}
use Rattle.node_arena.specs.Words.{Word}
use Rattle.output_graph.specs.Graph.{Graph}
use Rattle.output_graph.specs.Listed.{Lists}
use Rattle.output_graph.specs.Rows.{rows}
use Rattle.set_table.specs.Tabled.{Tabled}
use Rattle.one_pass.specs.Passes.{HasRead, IsReadyAt, Progress, Reaches}
use Rattle.one_pass.specs.Places.{bytes_at}
use Rattle.one_pass.specs.Readings.{come_to}
use Rattle.one_pass.specs.Settling.{HasSettled, IsSettledBy, Rule}
use Rattle.one_pass.specs.SoFar.{SoFar}
use Rattle.settled_states.specs.States.{AreLasting}
use Rattle.followed_document.specs.Laws.{IsGivenNext}
use Rattle.followed_document.specs.Settling.{LeadsPast, joined}

-- behind the pieces the layer has the words that lead past them
abbrev pub IsLayerPast : Automaton → Rule → List (List ℕ) → Progress → Type 0
IsLayerPast A G ps P = (set : List ℕ) (w : Word) → Reaches P set w ↔ LeadsPast A G 0 ps (set_of A.starts) w set

-- a piece is read, and the layer is settled: so it is again, and the words that are listed are those that are given with the piece
pub record HasFollowed (A : Automaton) (G : Rule) (ps : List (List ℕ)) (p : List ℕ) (R : Progress) (listed : Word → Type 0) : Type 0 where
  pub layer : IsLayerPast A G (ps ++ p ∷ []) R
  pub given : (w : Word) → listed w ↔ IsGivenNext A G ps p w

-- so an append takes the pieces on by one
abbrev pub StepLaw : Type 0
StepLaw =
    (A : Automaton) (unspent lasting : List Bool) (ps : List (List ℕ)) (p : List ℕ) (P : Progress) (r s : SoFar) (n m : ℕ) (lists : Lists) →
    AreLasting A (IsFlagged lasting) → IsLayerPast A (IsSettledBy unspent lasting) ps P → HasRead A (bytes_at (length (joined ps)) p) P (come_to r n) →
    HasSettled (IsSettledBy unspent lasting) r n s lists m →
    HasFollowed A (IsSettledBy unspent lasting) ps p (come_to s m) (λ w. Has (rows lists.store lists.first) w)

-- where one cell is live at most, a reading that may go on at a position may go on at 0
abbrev pub RebaseLaw : Type 0
RebaseLaw = (t : Tabled) (g : Graph) (at : ℕ) → IsReadyAt t g at → length g.cells ≤ 1 → IsReadyAt t g 0
