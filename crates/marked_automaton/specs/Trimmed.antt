-- Automata of some of the states alone, under new numbers.
use Rattle.std.specs.Prelude.{ℕ, suc, ◌+◌, Bool, ◌&&◌, List, [], ◌∷◌, map, slice_index_or, if◌then◌else◌, Some, None, Option}
use Rattle.std.specs.List.{filter_map}
use Rattle.marked_automaton.specs.declared.reach.Edge.{Edge}
use Rattle.marked_automaton.specs.declared.reach.Direction.{Direction}
use Rattle.marked_automaton.specs.declared.reach.Direction.TheVariants.{Forward, Back}
use Rattle.marked_automaton.specs.declared.way.Way.{Way}
use Rattle.marked_automaton.specs.declared.way.Stop.{Stop}
use Rattle.marked_automaton.specs.Automaton.{Automaton}
use Rattle.marked_automaton.specs.Inside.{flagged}
use Rattle.marked_automaton.specs.Reach.{Reaches}

-- the edges of ways, and these turned round
abbrev pub edge_of : Way → Edge
edge_of y = record { from = y.from; to = y.to }

abbrev pub back_edge_of : Way → Edge
back_edge_of y = record { from = y.to; to = y.from }

abbrev pub edges_of : List Way → List Edge
edges_of ways = map edge_of ways

abbrev pub back_edges_of : List Way → List Edge
back_edges_of ways = map back_edge_of ways

-- by the direction
abbrev pub edge_in : Direction → Way → Edge
edge_in Forward y = edge_of y
edge_in Back y = back_edge_of y

abbrev pub edges_in : Direction → List Way → List Edge
edges_in direction ways = map (edge_in direction) ways

abbrev pub states_of : List Stop → List ℕ
states_of stops = map (λ (x : Stop). x.state) stops

-- a start leads to the state, and the state to an end
abbrev pub IsBetween : List ℕ → List Way → List Stop → ℕ → Type 0
IsBetween starts ways stops p = Reaches (edges_of ways) starts p × Reaches (back_edges_of ways) (states_of stops) p

-- set where both are
abbrev pub both : List Bool → List Bool → List Bool
both [] right = []
both (a ∷ left) [] = []
both (a ∷ left) (b ∷ right) = (a && b) ∷ both left right

abbrev pub count_set : List Bool → ℕ
count_set [] = 0
count_set (b ∷ flags) = (if b then 1 else 0) + count_set flags

-- the new numbers: those whose flags are set, counted from k
abbrev pub numbered : ℕ → List Bool → List (Option ℕ)
numbered k [] = []
numbered k (b ∷ flags) = if b then Some k ∷ numbered (suc k) flags else None ∷ numbered k flags

abbrev pub number_of : List (Option ℕ) → ℕ → Option ℕ
number_of numbers p = slice_index_or numbers p None

abbrev pub way_between : Option ℕ → Option ℕ → Way → Option Way
way_between None to y = None
way_between (Some a) None y = None
way_between (Some a) (Some b) y = Some (record { from = a; marks = y.marks; bytes = y.bytes; to = b })

abbrev pub moved_way : List (Option ℕ) → Way → Option Way
moved_way numbers y = way_between (number_of numbers y.from) (number_of numbers y.to) y

abbrev pub stop_at : Option ℕ → Stop → Option Stop
stop_at None x = None
stop_at (Some a) x = Some (record { state = a; marks = x.marks })

abbrev pub moved_stop : List (Option ℕ) → Stop → Option Stop
moved_stop numbers x = stop_at (number_of numbers x.state) x

-- the flags of those that are kept
abbrev pub kept_flags : List Bool → List Bool → List Bool
kept_flags [] flags = []
kept_flags (b ∷ useful) [] = []
kept_flags (b ∷ useful) (i ∷ flags) = if b then i ∷ kept_flags useful flags else kept_flags useful flags

-- the states whose flags are set
abbrev pub trimmed : Automaton → List Bool → List Bool → Automaton
trimmed A useful idle = record {
  states = count_set useful;
  starts = filter_map (number_of (numbered 0 useful)) A.starts;
  ways = filter_map (moved_way (numbered 0 useful)) A.ways;
  stops = filter_map (moved_stop (numbered 0 useful)) A.stops;
  idle = flagged 0 (kept_flags useful idle);
}
