-- Automata over markers, and the words that they accept (Florenzano et al. 2018, extended variable-set automata).
--   A block is a number: the sum of the bits of what opens and closes at one position. A word gives each
--   position of the document its block, so it is a function from positions, read from 0 to the length.
use Rattle.std.specs.Prelude.{◌≡◌, ℕ, zero, suc, ◌+◌, ◌*◌, ◌^◌, ◌<◌, ◌≤◌, List, [], ◌∷◌, ◌++◌, length, map, nat_eq, Some, slice_get, IsTrue}
use Rattle.std.specs.List.{filter}
use Rattle.std.specs.FinSet as set
use Rattle.std.specs.Ordering.{nat_cmp}
use Rattle.span_core.specs.ByteSets.{bytes_between}
use Rattle.span_core.specs.Lists.{Has}
use Rattle.marked_automaton.specs.declared.TheConstants.{MOST_STATES, MOST_WAYS}
use Rattle.marked_automaton.specs.declared.way.Way.{Way}
use Rattle.marked_automaton.specs.declared.way.Stop.{Stop}

-- the states are the numbers below `states`
pub record Automaton : Type 0 where
  pub states : ℕ
  pub starts : List ℕ
  pub ways : List Way
  pub stops : List Stop
  pub idle : List ℕ

abbrev pub ByteClass : Type 0
ByteClass = set.FinSet nat_cmp

-- the byte is one of these
abbrev pub HasByte : ByteClass → ℕ → Type 0
HasByte bytes b = IsTrue (set.contains bytes b)

-- the byte at this position is one of these
abbrev pub ReadsByte : List ℕ → ℕ → ByteClass → Type 0
ReadsByte d i bytes = (b : ℕ) × (slice_get d i ≡ Some b) × HasByte bytes b

-- so many ways from the position i on, each with the block that w has there, lead from p to q
abbrev pub Walk : List Way → List ℕ → (ℕ → ℕ) → ℕ → ℕ → ℕ → ℕ → Type 0
Walk ways d w i zero p q = p ≡ q
Walk ways d w i (suc n) p q =
    (y : Way) × Has ways y × (y.from ≡ p) × (y.marks ≡ w i) × ReadsByte d i y.bytes × Walk ways d w (suc i) n y.to q

-- the automaton accepts the document with these blocks
abbrev pub Accepts : Automaton → List ℕ → (ℕ → ℕ) → Type 0
Accepts A d w =
    (p : ℕ) × (s : Stop) × Has A.starts p × Has A.stops s
    × Walk A.ways d w 0 (length d) p s.state × (s.marks ≡ w (length d))

-- each byte
abbrev pub all_bytes : ByteClass
all_bytes = bytes_between 0 255

-- from a state to itself, without markers, by any byte
abbrev pub idle_way : ℕ → Way
idle_way p = record { from = p; marks = 0; bytes = all_bytes; to = p }

-- starts, ways, ends and idle states are of its states
pub record IsWhole (A : Automaton) : Type 0 where
  pub starts : (p : ℕ) → Has A.starts p → p < A.states
  pub froms : (y : Way) → Has A.ways y → y.from < A.states
  pub tos : (y : Way) → Has A.ways y → y.to < A.states
  pub stops : (x : Stop) → Has A.stops x → x.state < A.states
  pub idles : (p : ℕ) → Has A.idle p → p < A.states

-- so many states, and nothing else
abbrev pub bare : ℕ → Automaton
bare n = record { states = n; starts = []; ways = []; stops = []; idle = [] }

-- with one start, way, end more
abbrev pub with_start : ℕ → Automaton → Automaton
with_start p A = record { states = A.states; starts = A.starts ++ p ∷ []; ways = A.ways; stops = A.stops; idle = A.idle }

abbrev pub with_way : Way → Automaton → Automaton
with_way y A = record { states = A.states; starts = A.starts; ways = A.ways ++ y ∷ []; stops = A.stops; idle = A.idle }

abbrev pub with_stop : Stop → Automaton → Automaton
with_stop x A = record { states = A.states; starts = A.starts; ways = A.ways; stops = A.stops ++ x ∷ []; idle = A.idle }

-- with so many states more
abbrev pub with_states : ℕ → Automaton → Automaton
with_states more A = record { states = A.states + more; starts = A.starts; ways = A.ways; stops = A.stops; idle = A.idle }

-- so many states, and these ways
abbrev pub with_ways : ℕ → List Way → Automaton
with_ways n ways = record { states = n; starts = []; ways = ways; stops = []; idle = [] }

-- a way that an automaton of so many states and variables may have
pub record IsWayOf (states v : ℕ) (y : Way) : Type 0 where
  pub from : y.from < states
  pub to : y.to < states
  pub marks : y.marks < 2 ^ (2 * v)
  pub bytes : ¬ (y.bytes ≡ set.empty)

-- the states, starts, ways and ends of two automata are the same
pub record HasGraphOf (A B : Automaton) : Type 0 where
  pub states : A.states ≡ B.states
  pub starts : A.starts ≡ B.starts
  pub ways : A.ways ≡ B.ways
  pub stops : A.stops ≡ B.stops

-- each way turned round; the ends become starts, and the starts become ends
abbrev pub turned_way : Way → Way
turned_way y = record { from = y.to; marks = y.marks; bytes = y.bytes; to = y.from }

-- an end without markers
abbrev pub plain_stop : ℕ → Stop
plain_stop p = record { state = p; marks = 0 }

abbrev pub reversed : Automaton → Automaton
reversed A = record {
  states = A.states;
  starts = map (λ (x : Stop). x.state) A.stops;
  ways = map turned_way A.ways;
  stops = map plain_stop A.starts;
  idle = [];
}

-- no way and no end takes markers
abbrev pub TakesNoMarks : Automaton → Type 0
TakesNoMarks A = ((y : Way) → Has A.ways y → y.marks ≡ 0) × ((x : Stop) → Has A.stops x → x.marks ≡ 0)

-- no way stands before one that leads from a lower state
abbrev pub AreGrouped : List Way → Type 0
AreGrouped ways =
    (j k : ℕ) (x y : Way) → j < k → slice_get ways j ≡ Some x → slice_get ways k ≡ Some y → x.from ≤ y.from

-- those of the ways that lead from this state
abbrev pub ways_from : List Way → ℕ → List Way
ways_from ways p = filter (λ y. nat_eq y.from p) ways

-- states + ways + ends
abbrev pub size : Automaton → ℕ
size A = A.states + length A.ways + length A.stops

-- an automaton, and the variables whose markers its blocks have, in the order of their names
pub record Marked : Type 0 where
  pub names : List (List ℕ)
  pub graph : Automaton

-- the block has no bits but those of so many variables
abbrev pub IsBlockOf : ℕ → ℕ → Type 0
IsBlockOf v m = m < 2 ^ (2 * v)

-- what each automaton that is made keeps
pub record IsMarked (A : Marked) : Type 0 where
  pub few_states : A.graph.states ≤ MOST_STATES
  pub few_ways : length A.graph.ways ≤ MOST_WAYS
  pub whole : IsWhole A.graph
  pub way_marks : (y : Way) → Has A.graph.ways y → IsBlockOf (length A.names) y.marks
  pub stop_marks : (x : Stop) → Has A.graph.stops x → IsBlockOf (length A.names) x.marks
  pub some_byte : (y : Way) → Has A.graph.ways y → ¬ (y.bytes ≡ set.empty)
  pub idle_ways : (p : ℕ) → Has A.graph.idle p → Has A.graph.ways (idle_way p)
