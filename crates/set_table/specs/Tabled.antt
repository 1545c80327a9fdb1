-- A table of the sets of states that are reached, and of what was asked of each.
use Rattle.std.specs.Prelude.{◌≡◌, ℕ, ◌+◌, ◌<◌, ◌≤◌, Bool, List, [], ◌∷◌, ◌++◌, map, length, slice_get, Option, None, Some, if◌then◌else◌}
use Rattle.std.specs.List.{filter, list_any, sum_by}
use Rattle.span_core.specs.declared.edge.Edge.{Edge}
use Rattle.set_table.specs.declared.fault.TableFault.{TableFault}
use Rattle.set_table.specs.declared.fault.TableFault.TheVariants.{Full, OutOfMemory}
use Rattle.span_core.specs.Lists.{Has, AreDistinct, IsInOrder}
use Rattle.marked_automaton.specs.Automaton.{Automaton}
use Rattle.automaton_reading.specs.Reading.{Question, byte_read, rest_taken, ended, Reach, LookUp, edges, is_among, look_up_edges, look_up_same, set_of}
use Rattle.numbered_lists.specs.Numbered.{set_at, with_sets}

-- the automaton that is read, the greatest weight, the sets in the order of their numbers, and what
-- was asked of which set, in the order in which it was
pub record Tabled : Type 0 where
  pub graph : Automaton
  pub limit : ℕ
  pub sets : List (List ℕ)
  pub look_ups : List LookUp

-- what is asked of the set of this number
abbrev pub look_up : Tabled → ℕ → Question → LookUp
look_up t k ask = record { set = set_at t.sets k; ask = ask }

-- the sets that an answer leads to; an end leads to none
abbrev pub reached : Automaton → List ℕ → Question → List (List ℕ)
reached A set (byte_read b) = map (λ (e : Reach). e.to) (edges A set (byte_read b))
reached A set rest_taken = map (λ (e : Reach). e.to) (edges A set rest_taken)
reached A set ended = []

-- the table of the set of the start states alone
abbrev pub fresh : Automaton → ℕ → Tabled
fresh A limit = record { graph = A; limit = limit; sets = set_of A.starts ∷ []; look_ups = [] }

-- the table with this asked for the first time
abbrev pub asked_first : Tabled → LookUp → Tabled
asked_first t r = record {
  graph = t.graph;
  limit = t.limit;
  sets = with_sets t.sets (reached t.graph r.set r.ask);
  look_ups = t.look_ups ++ r ∷ [];
}

abbrev pub was_asked : Tabled → LookUp → Bool
was_asked t r = list_any (look_up_same r) t.look_ups

-- the table once this is asked
abbrev pub once_asked : Tabled → LookUp → Tabled
once_asked t r = if was_asked t r then t else asked_first t r

abbrev pub sets_weight : List (List ℕ) → ℕ
sets_weight sets = sum_by (λ set. 1 + length set) sets

abbrev pub look_ups_weight : Automaton → List LookUp → ℕ
look_ups_weight A look_ups = sum_by (λ r. 1 + look_up_edges A r) look_ups

-- 1 + members of each set, and 1 + edges of all that was asked
abbrev pub weight : Tabled → ℕ
weight t = sets_weight t.sets + look_ups_weight t.graph t.look_ups

-- an edge, with the set that its number names
abbrev pub edge_named : List (List ℕ) → Edge → Reach
edge_named sets e = record { marks = e.marks; to = set_at sets e.to }

-- these edges are the answer, the greatest marks first
pub record HasEdges (t : Tabled) (r : LookUp) (es : List Edge) : Type 0 where
  pub named : map (edge_named t.sets) es ≡ edges t.graph r.set r.ask
  pub targets : (e : Edge) → Has es e → e.to < length t.sets
  pub order : IsInOrder (λ (e f : Edge). f.marks < e.marks) es

-- these marks are those of the ends, the greatest first
pub record HasEnds (t : Tabled) (r : LookUp) (marks : List ℕ) : Type 0 where
  pub named : map (λ m. record { marks = m; to = [] }) marks ≡ edges t.graph r.set r.ask
  pub order : IsInOrder (λ (m n : ℕ). n < m) marks

-- the members that are idle
abbrev pub idle_of : Tabled → ℕ → List ℕ
idle_of t k = filter (is_among t.graph.idle) (set_at t.sets k)

-- the number of the set of idle members, and none where no member is idle
abbrev pub HasRest : Tabled → ℕ → Option ℕ → Type 0
HasRest t k None = idle_of t k ≡ []
HasRest t k (Some n) = (slice_get t.sets n ≡ Some (idle_of t k)) × ¬ (idle_of t k ≡ [])

abbrev pub one_edge : ℕ → Edge
one_edge k = record { marks = 0; to = k }

-- the one edge of the set on the byte takes no marks and leads to the set itself
abbrev pub StaysOn : Automaton → List ℕ → ℕ → Type 0
StaysOn A set b = edges A set (byte_read b) ≡ record { marks = 0; to = set } ∷ []

-- the set of this number stays on the byte
abbrev pub Stays : Tabled → ℕ → ℕ → Type 0
Stays t k b = StaysOn t.graph (set_at t.sets k) b

-- the set of this number was asked for a byte on which it stays
pub record HasStayed (t : Tabled) (k : ℕ) : Type 0 where
  pub byte : ℕ
  pub asked : Has t.look_ups (look_up t k (byte_read byte))
  pub stays : Stays t k byte

-- a refusal to make this table
abbrev pub IsRefusal : Tabled → TableFault → Type 0
IsRefusal t (Full w) = (w ≡ weight t) × (t.limit < w)
IsRefusal t OutOfMemory = Unit {0}

-- the states are those of the automaton, and strictly ascend
pub record IsStateSet (A : Automaton) (set : List ℕ) : Type 0 where
  pub order : IsInOrder ◌<◌ set
  pub states : (p : ℕ) → Has set p → p < A.states

-- what is true of each table
pub record IsTabled (t : Tabled) : Type 0 where
  pub start : slice_get t.sets 0 ≡ Some (set_of t.graph.starts)
  pub sets : (s : List ℕ) → Has t.sets s → IsStateSet t.graph s
  pub sets_apart : AreDistinct t.sets
  pub asked : (r : LookUp) → Has t.look_ups r → Has t.sets r.set
  pub asked_apart : AreDistinct t.look_ups
  pub within : weight t ≤ t.limit
