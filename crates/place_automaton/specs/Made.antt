-- What comes to an automaton after its places.
use Rattle.std.specs.Prelude.{◌≡◌, ℕ, ◌↔◌, ◌⊎◌, Bool, List, [], ◌∷◌, ◌++◌, length, map}
use Rattle.span_core.specs.NameSets.{Ascending}
use Rattle.spanner_model.specs.Captures.{VarName}
use Rattle.spanner_model.specs.Sequential.{HasVar}
use Rattle.span_core.specs.Lists.{Has}
use Rattle.spanner_model.specs.Expression.{AtomTree}
use Rattle.marked_automaton.specs.declared.way.Way.{Way}
use Rattle.marked_automaton.specs.declared.way.Stop.{Stop}
use Rattle.marked_automaton.specs.Automaton.{Automaton, AreGrouped, Marked, idle_way}
use Rattle.marked_automaton.specs.Reduct.{Rearranges}
use Rattle.place_automaton.specs.Atom.{stop_before, unless, way_after, way_from_first}
use Rattle.place_automaton.specs.Counts.{counts_over, ways_of}
use Rattle.place_automaton.specs.Variables.{with_vars}
use Rattle.place_automaton.specs.Sides.{Sides}
use Rattle.place_automaton.specs.Words.{atom_automaton}

-- the ends of the last places, and of Before
abbrev pub end_stops : Sides → List Stop
end_stops P = P.last ++ map stop_before P.null

-- the ways that are not between places, where After has this number
abbrev pub outer_ways : Bool → Bool → ℕ → Sides → List Way
outer_ways from_start to_end after P =
    map way_from_first P.first ++ (unless from_start (idle_way 0 ∷ []) ++ unless to_end (idle_way after ∷ map (way_after after) (end_stops P)))

abbrev pub after_stop : ℕ → Stop
after_stop after = record { state = after; marks = 0 }

-- all ends
abbrev pub all_stops : Bool → ℕ → Sides → List Stop
all_stops to_end after P = end_stops P ++ unless to_end (after_stop after ∷ [])

abbrev pub idle_states : Bool → Bool → ℕ → List ℕ
idle_states from_start to_end after = unless from_start (0 ∷ []) ++ unless to_end (after ∷ [])

-- with these ends more
abbrev pub with_stops : List Stop → Automaton → Automaton
with_stops xs A = record { states = A.states; starts = A.starts; ways = A.ways; stops = A.stops ++ xs; idle = A.idle }

-- the start, the ends and the idle states have come
pub record IsFinished (from_start to_end : Bool) (after : ℕ) (P : Sides) (old new : Automaton) : Type 0 where
  pub states : new.states ≡ old.states
  pub starts : new.starts ≡ old.starts ++ 0 ∷ []
  pub ways : new.ways ≡ old.ways
  pub stops : new.stops ≡ old.stops ++ all_stops to_end after P
  pub idle : (p : ℕ) → Has new.idle p ↔ (Has old.idle p ⊎ Has (idle_states from_start to_end after) p)

-- the automaton of an atom over the variables of its formula, but for the order of the ways
pub record IsMade (a : AtomTree) (A : Marked) : Type 0 where
  pub ascending : Ascending A.names
  pub names : (x : VarName) → Has A.names x ↔ HasVar a.formula x
  pub reduct : Rearranges A.graph (atom_automaton A.names a)
  pub ways : length A.graph.ways ≡ ways_of a.from_start a.to_end (counts_over (with_vars [] a.formula) a.formula)
  pub grouped : AreGrouped A.graph.ways
  pub stops : A.graph.stops ≡ (atom_automaton A.names a).stops
