-- Union and join of automata.
use Rattle.std.specs.Prelude.{ℕ, ◌+◌, ◌*◌, Bool, List, [], ◌∷◌, ◌++◌, map, true, false, ◌&&◌}
use Rattle.std.specs.List.{flat_map, filter}
use Rattle.std.specs.FinSet as set
use Rattle.marked_automaton.specs.declared.way.Way.{Way}
use Rattle.marked_automaton.specs.declared.way.Stop.{Stop}
use Rattle.marked_automaton.specs.Automaton.{Automaton, ByteClass}

abbrev pub moved_way : ℕ → Way → Way
moved_way n y = record { from = n + y.from; marks = y.marks; bytes = y.bytes; to = n + y.to }

abbrev pub moved_stop : ℕ → Stop → Stop
moved_stop n x = record { state = n + x.state; marks = x.marks }

-- the second with its states behind those of the first
abbrev pub union_of : Automaton → Automaton → Automaton
union_of A B = record {
  states = A.states + B.states;
  starts = A.starts ++ map (◌+◌ A.states) B.starts;
  ways = A.ways ++ map (moved_way A.states) B.ways;
  stops = A.stops ++ map (moved_stop A.states) B.stops;
  idle = A.idle ++ map (◌+◌ A.states) B.idle;
}

abbrev pub is_some_list : {X : Type 0} → List X → Bool
is_some_list [] = false
is_some_list (x ∷ xs) = true

-- some byte is there
abbrev pub has_some : ByteClass → Bool
has_some bytes = is_some_list (set.items bytes)

abbrev pub meet : ByteClass → ByteClass → ByteClass
meet s t = set.intersection s t

-- which blocks agree on the shared variables, and what two that agree are together
module _ (agree : ℕ → ℕ → Bool) (both : ℕ → ℕ → ℕ) where
  abbrev pub goes_with : Way → Way → Bool
  goes_with x y = agree x.marks y.marks && has_some (meet x.bytes y.bytes)

  abbrev pub pair_way : ℕ → Way → Way → Way
  pair_way n x y = record {
    from = x.from * n + y.from;
    marks = both x.marks y.marks;
    bytes = meet x.bytes y.bytes;
    to = x.to * n + y.to;
  }

  abbrev pub ends_with : Stop → Stop → Bool
  ends_with x y = agree x.marks y.marks

  abbrev pub pair_stop : ℕ → Stop → Stop → Stop
  pair_stop n x y = record { state = x.state * n + y.state; marks = both x.marks y.marks }

  -- all pairs of states; the pair of p and q has the number p * n + q, where the second has n states
  abbrev pub join_of : Automaton → Automaton → Automaton
  join_of A B = record {
    states = A.states * B.states;
    starts = flat_map (λ p. map (λ q. p * B.states + q) B.starts) A.starts;
    ways = flat_map (λ x. map (pair_way B.states x) (filter (goes_with x) B.ways)) A.ways;
    stops = flat_map (λ x. map (pair_stop B.states x) (filter (ends_with x) B.stops)) A.stops;
    idle = flat_map (λ p. map (λ q. p * B.states + q) B.idle) A.idle;
  }
