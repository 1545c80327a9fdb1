-- What an automaton's parts stand for.
use Rattle.std.specs.Prelude.{ℕ, suc, Bool, List, [], ◌∷◌, if◌then◌else◌}
use Rattle.marked_automaton.specs.declared.way.Way.{Way}
use Rattle.marked_automaton.specs.declared.way.Stop.{Stop}
use Rattle.marked_automaton.specs.Automaton.{Automaton}

-- the places of the flags that are set, counted from k
abbrev pub flagged : ℕ → List Bool → List ℕ
flagged k [] = []
flagged k (b ∷ flags) = if b then k ∷ flagged (suc k) flags else flagged (suc k) flags

abbrev pub graph_of : ℕ → List ℕ → List Way → List Stop → List Bool → Automaton
graph_of states starts ways stops idle =
    record { states = states; starts = starts; ways = ways; stops = stops; idle = flagged 0 idle }
