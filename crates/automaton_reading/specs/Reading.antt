-- Reading a document by sets of states, at the positions of K.
use Rattle.std.specs.Prelude.{ℕ, suc, ◌+◌, Bool, true, false, List, [], ◌∷◌, ◌++◌, map, length, if◌then◌else◌, nat_eq, nat_lt, ◌&&◌, ◌||◌}
use Rattle.std.specs.List.{filter, list_any, flat_map, sum_by}
use Rattle.std.specs.Str.{bytes_eq}
use Rattle.std.specs.FinSet as bytes
use Rattle.marked_automaton.specs.declared.way.Way.{Way}
use Rattle.marked_automaton.specs.declared.way.Stop.{Stop}
use Rattle.marked_automaton.specs.Automaton.{Automaton}

-- p, put into a strictly ascending list
abbrev pub put_up : ℕ → List ℕ → List ℕ
put_up p [] = p ∷ []
put_up p (q ∷ qs) = if nat_lt p q then p ∷ q ∷ qs else (if nat_eq p q then q ∷ qs else q ∷ put_up p qs)

-- p, put into a strictly descending list
abbrev pub put_down : ℕ → List ℕ → List ℕ
put_down p [] = p ∷ []
put_down p (q ∷ qs) = if nat_lt q p then p ∷ q ∷ qs else (if nat_eq p q then q ∷ qs else q ∷ put_down p qs)

-- a set of states, as its strictly ascending list
abbrev pub set_of : List ℕ → List ℕ
set_of [] = []
set_of (p ∷ ps) = put_up p (set_of ps)

-- the distinct blocks of a list, the greatest first
abbrev pub blocks_down : List ℕ → List ℕ
blocks_down [] = []
blocks_down (m ∷ ms) = put_down m (blocks_down ms)

abbrev pub is_among : List ℕ → ℕ → Bool
is_among ms m = list_any (nat_eq m) ms

-- what is asked of a set: the way on by a byte, without marks by its idle members, or its ends
pub data Question : Type 0 where
  byte_read : ℕ → Question
  rest_taken : Question
  ended : Question

abbrev pub question_same : Question → Question → Bool
question_same (byte_read b) (byte_read c) = nat_eq b c
question_same (byte_read b) rest_taken = false
question_same (byte_read b) ended = false
question_same rest_taken (byte_read c) = false
question_same rest_taken rest_taken = true
question_same rest_taken ended = false
question_same ended (byte_read c) = false
question_same ended rest_taken = false
question_same ended ended = true

-- a block, and the set that is reached with it
pub record Reach : Type 0 where
  pub marks : ℕ
  pub to : List ℕ

-- the ways that members take on a byte
abbrev pub ways_taken : Automaton → List ℕ → ℕ → List Way
ways_taken A members b = filter (λ y. is_among members y.from && bytes.contains y.bytes b) A.ways

abbrev pub reach_with : List Way → ℕ → Reach
reach_with ways m = record { marks = m; to = set_of (map (λ (y : Way). y.to) (filter (λ y. nat_eq y.marks m) ways)) }

abbrev pub rest_edge : List ℕ → List Reach
rest_edge [] = []
rest_edge (p ∷ ps) = record { marks = 0; to = p ∷ ps } ∷ []

-- one edge for each block
abbrev pub edges : Automaton → List ℕ → Question → List Reach
edges A set (byte_read b) = map (reach_with (ways_taken A set b)) (blocks_down (map (λ (y : Way). y.marks) (ways_taken A set b)))
edges A set rest_taken = rest_edge (filter (is_among A.idle) set)
edges A set ended = map (λ m. record { marks = m; to = [] }) (blocks_down (map (λ (x : Stop). x.marks) (filter (λ (x : Stop). is_among set x.state) A.stops)))

-- what is asked in order, from the position i on: at a position of K the byte there; at the first
-- position of a gap the rest; last the ends
abbrev pub questions : (ℕ → Bool) → List ℕ → ℕ → Bool → List Question
questions K [] i in_gap = if K i || in_gap then ended ∷ [] else rest_taken ∷ ended ∷ []
questions K (b ∷ d) i in_gap =
    if K i then byte_read b ∷ questions K d (suc i) false
    else (if in_gap then questions K d (suc i) true else rest_taken ∷ questions K d (suc i) true)

module _ {X : Type 0} (same : X → X → Bool) where
  -- the elements, each once
  abbrev pub once : List X → List X
  once [] = []
  once (x ∷ xs) = let rest = once xs in if list_any (same x) rest then rest else x ∷ rest

-- the sets reached from these by an answer
abbrev pub next_sets : Automaton → List (List ℕ) → Question → List (List ℕ)
next_sets A sets a = once bytes_eq (flat_map (λ set. map (λ (e : Reach). e.to) (edges A set a)) sets)

-- a set, and what is asked of it
pub record LookUp : Type 0 where
  pub set : List ℕ
  pub ask : Question

abbrev pub look_up_same : LookUp → LookUp → Bool
look_up_same r s = bytes_eq r.set s.set && question_same r.ask s.ask

-- what is asked of each set that is reached, place by place
abbrev pub look_ups_asked : Automaton → List (List ℕ) → List Question → List LookUp
look_ups_asked A sets [] = []
look_ups_asked A sets (a ∷ later) = map (λ set. record { set = set; ask = a }) sets ++ look_ups_asked A (next_sets A sets a) later

abbrev pub look_ups_read : Automaton → List ℕ → (ℕ → Bool) → List LookUp
look_ups_read A d K = look_ups_asked A (set_of A.starts ∷ []) (questions K d 0 false)

abbrev pub look_up_edges : Automaton → LookUp → ℕ
look_up_edges A r = length (edges A r.set r.ask)

abbrev pub edges_K : Automaton → List ℕ → (ℕ → Bool) → ℕ
edges_K A d K = sum_by (look_up_edges A) (look_ups_read A d K)

abbrev pub look_ups_K : Automaton → List ℕ → (ℕ → Bool) → ℕ
look_ups_K A d K = length (once look_up_same (look_ups_read A d K))

abbrev pub weight_K : Automaton → List ℕ → (ℕ → Bool) → ℕ
weight_K A d K =
    let look_ups = look_ups_read A d K in
    sum_by (λ set. 1 + length set) (once bytes_eq (map (λ (r : LookUp). r.set) look_ups))
    + sum_by (λ r. 1 + look_up_edges A r) (once look_up_same look_ups)
