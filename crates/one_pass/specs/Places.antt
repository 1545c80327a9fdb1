-- The places at which a document is read, and where choices of edges lead.
use Rattle.std.specs.Prelude.{◌≡◌, ℕ, zero, suc, ◌+◌, ◌↔◌, min, Bool, true, false, List, [], ◌∷◌, ◌++◌, map, length, if◌then◌else◌, nat_le, nat_lt, ◌&&◌, ◌||◌}
use Rattle.std.specs.List.{slice_range, sum_by}
use Rattle.span_core.specs.Lists.{Has}
use Rattle.marked_automaton.specs.Automaton.{Automaton}
use Rattle.automaton_reading.specs.Reading.{Question, byte_read, rest_taken, ended, Reach, edges, next_sets, look_ups_asked, look_up_edges}
use Rattle.automaton_reading.specs.Chosen.{IsReadWith}
use Rattle.node_arena.specs.Words.{Word}
use Rattle.output_graph.specs.Forward.{mark_block}

-- a position, and what is asked there of each set
pub record ReadingPlace : Type 0 where
  pub at : ℕ
  pub ask : Question

abbrev pub byte_at : ℕ → ℕ → ReadingPlace
byte_at i b = record { at = i; ask = byte_read b }

abbrev pub rest_at : ℕ → ReadingPlace
rest_at i = record { at = i; ask = rest_taken }

abbrev pub end_at : ℕ → ReadingPlace
end_at i = record { at = i; ask = ended }

-- the places of a reading with K, from the position i on
abbrev pub places : (ℕ → Bool) → List ℕ → ℕ → Bool → List ReadingPlace
places K [] i in_gap = if K i || in_gap then end_at i ∷ [] else rest_at i ∷ end_at i ∷ []
places K (b ∷ d) i in_gap =
    if K i then byte_at i b ∷ places K d (suc i) false
    else (if in_gap then places K d (suc i) true else rest_at i ∷ places K d (suc i) true)

-- those before the end
abbrev pub places_before : (ℕ → Bool) → List ℕ → ℕ → Bool → List ReadingPlace
places_before K [] i in_gap = if K i || in_gap then [] else rest_at i ∷ []
places_before K (b ∷ d) i in_gap =
    if K i then byte_at i b ∷ places_before K d (suc i) false
    else (if in_gap then places_before K d (suc i) true else rest_at i ∷ places_before K d (suc i) true)

-- those of a piece of the document that stands at i, each of whose positions is read
abbrev pub bytes_at : ℕ → List ℕ → List ReadingPlace
bytes_at i [] = []
bytes_at i (b ∷ d) = byte_at i b ∷ bytes_at (suc i) d

abbrev pub asks : List ReadingPlace → List Question
asks ps = map (λ (p : ReadingPlace). p.ask) ps

-- some choice of edges, one at each place, leads from a set to a set; its blocks are the word
abbrev pub Leads : Automaton → List ReadingPlace → List ℕ → Word → List ℕ → Type 0
Leads A [] from word to = (word ≡ []) × (from ≡ to)
Leads A (p ∷ later) from word to =
    (e : Reach) × Has (edges A from p.ask) e × (rest : Word) × (mark_block p.at e.marks ++ rest ≡ word) × Leads A later e.to rest to

-- the blocks that w has at the position i and at so many behind it
abbrev pub word_from : (ℕ → ℕ) → ℕ → ℕ → Word
word_from w i zero = mark_block i (w i)
word_from w i (suc n) = mark_block i (w i) ++ word_from w (suc i) n

-- the word of a document of length n whose position i has the block w i
abbrev pub word_through : (ℕ → ℕ) → ℕ → Word
word_through w n = word_from w 0 n

-- these are the words of the blocks with which the document is read at the positions of K
abbrev pub AreReadWords : Automaton → (ℕ → Bool) → List ℕ → List Word → Type 0
AreReadWords A K d words = (u : Word) → Has words u ↔ ((w : ℕ → ℕ) × IsReadWith A K d w × (word_through w (length d) ≡ u))

-- the sets that are reached from these by what is asked
abbrev pub sets_after : Automaton → List (List ℕ) → List Question → List (List ℕ)
sets_after A sets [] = sets
sets_after A sets (a ∷ later) = sets_after A (next_sets A sets a) later

-- those and all on the way
abbrev pub sets_met : Automaton → List (List ℕ) → List Question → List (List ℕ)
sets_met A sets [] = sets
sets_met A sets (a ∷ later) = sets ++ sets_met A (next_sets A sets a) later

-- those that are reached by one question; ends lead to none
abbrev pub sets_on : Automaton → List (List ℕ) → Question → List (List ℕ)
sets_on A sets (byte_read b) = next_sets A sets (byte_read b)
sets_on A sets rest_taken = next_sets A sets rest_taken
sets_on A sets ended = []

-- the edges on the way
abbrev pub edges_read : Automaton → List (List ℕ) → List Question → ℕ
edges_read A sets questions = sum_by (look_up_edges A) (look_ups_asked A sets questions)

-- whether the position is in one of the intervals, first and last included
abbrev pub is_touched : List (ℕ × ℕ) → ℕ → Bool
is_touched [] at = false
is_touched (part ∷ parts) at = (nat_le part.0 at && nat_le at part.1) || is_touched parts at

-- the place of a gap between two positions, if there is one
abbrev pub gap_at : ℕ → ℕ → List ReadingPlace
gap_at at first = if nat_lt at first then rest_at at ∷ [] else []

-- the places of an interval of positions and of the gap before it, from the position `at` on; at the end of the
-- document no byte stands
abbrev pub part_places : ℕ → ℕ × ℕ → List ℕ → List ReadingPlace
part_places at part d = gap_at at part.0 ++ bytes_at part.0 (slice_range d part.0 (min (part.1 + 1) (length d)))

-- those of all intervals, and of the gap behind them
abbrev pub parts_places : ℕ → List (ℕ × ℕ) → List ℕ → List ReadingPlace
parts_places at [] d = gap_at at (length d + 1)
parts_places at (part ∷ parts) d = part_places at part d ++ parts_places (part.1 + 1) parts d
