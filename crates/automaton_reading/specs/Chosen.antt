-- The words that a choice of edges makes.
use Rattle.std.specs.Prelude.{◌≡◌, ℕ, suc, ◌↔◌, Bool, true, false, List, [], ◌∷◌, ◌||◌}
use Rattle.std.specs.Bool.{MatchBool}
use Rattle.span_core.specs.Lists.{Has}
use Rattle.marked_automaton.specs.Automaton.{Automaton, Accepts}
use Rattle.automaton_reading.specs.Reading.{Reach, byte_read, rest_taken, ended, edges, set_of}

-- the set has an edge at its end, with the block at i
abbrev pub EndsWith : Automaton → (ℕ → ℕ) → ℕ → List ℕ → Type 0
EndsWith A w i set = (e : Reach) × Has (edges A set ended) e × (e.marks ≡ w i)

-- from the set the bytes from the position i on are read to the end, with the blocks of w at the
-- positions of K and none at the others but the last; in a gap the idle members alone go on
abbrev pub IsReadFrom : Automaton → (ℕ → Bool) → (ℕ → ℕ) → List ℕ → ℕ → Bool → List ℕ → Type 0
IsReadFrom A K w [] i in_gap set =
    MatchBool (K i || in_gap) (EndsWith A w i set) ((e : Reach) × Has (edges A set rest_taken) e × EndsWith A w i e.to)
IsReadFrom A K w (b ∷ d) i in_gap set =
    MatchBool (K i)
    ((e : Reach) × Has (edges A set (byte_read b)) e × (e.marks ≡ w i) × IsReadFrom A K w d (suc i) false e.to)
    ((w i ≡ 0) × MatchBool in_gap
    (IsReadFrom A K w d (suc i) true set)
    ((e : Reach) × Has (edges A set rest_taken) e × IsReadFrom A K w d (suc i) true e.to))

-- w is an accepted word of the reading with K
abbrev pub IsReadWith : Automaton → (ℕ → Bool) → List ℕ → (ℕ → ℕ) → Type 0
IsReadWith A K d w = IsReadFrom A K w d 0 false (set_of A.starts)

-- with all positions these are the words that the automaton accepts
abbrev pub ReadingLaw : Type 0
ReadingLaw = (A : Automaton) (d : List ℕ) (w : ℕ → ℕ) → IsReadWith A (λ i. true) d w ↔ Accepts A d w
