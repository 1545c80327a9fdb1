-- What is appended where edges are made.
use Rattle.std.specs.Prelude.{◌≡◌, ℕ, ◌+◌, ◌*◌, ◌<◌, ◌≤◌, List, [], ◌∷◌, ◌++◌, length, map, take, drop, slice_get, slice_index, Some}
use Rattle.span_core.specs.declared.edge.Edge.{Edge}
use Rattle.span_core.specs.Lists.{Has}
use Rattle.automaton_reading.specs.Reading.{Reach}
use Rattle.set_table.specs.Cut.{cut, marks_of, to_of}
use Rattle.set_table.specs.Tabled.{edge_named, sets_weight}
use Rattle.numbered_lists.specs.Numbered.{with_set, with_sets}

-- the first n numbers, of the marks of the first
abbrev pub run : List ℕ → ℕ → Reach
run codes n = record { marks = marks_of (slice_index codes 0); to = map to_of (take n codes) }

-- the edge of the first run, with its set
pub record PutsRun (codes : List ℕ) (sets0 sets : List (List ℕ)) (edges0 edges : List Edge) (count w : ℕ) : Type 0 where
  pub some : 0 < count
  pub within : count ≤ length codes
  pub cuts : cut codes ≡ run codes count ∷ cut (drop count codes)
  pub known : sets ≡ with_set sets0 (run codes count).to
  pub edge : Edge
  pub pushed : edges ≡ edges0 ++ edge ∷ []
  pub marks : edge.marks ≡ (run codes count).marks
  pub number : slice_get sets edge.to ≡ Some (run codes count).to
  pub weighs : sets_weight sets + 1 ≡ sets_weight sets0 + w
  pub small : w ≤ 3 * count
  pub few : length sets ≤ length sets0 + 1

-- edges to these sets, with the sets
pub record PutsEdges (reaches : List Reach) (sets0 sets : List (List ℕ)) (edges0 edges : List Edge) (w : ℕ) : Type 0 where
  pub known : sets ≡ with_sets sets0 (map (λ (e : Reach). e.to) reaches)
  pub made : List Edge
  pub pushed : edges ≡ edges0 ++ made
  pub named : map (edge_named sets) made ≡ reaches
  pub numbers : (e : Edge) → Has made e → e.to < length sets
  pub weighs : sets_weight sets + length reaches ≡ sets_weight sets0 + w
  pub small : w ≤ 6000000
