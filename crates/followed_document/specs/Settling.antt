-- Words that are settled where a piece of the document ends: given there, and given up.
use Rattle.std.specs.Prelude.{◌≡◌, ℕ, ◌+◌, ◌<◌, ◌⊎◌, List, [], ◌∷◌, ◌++◌, length, map}
use Rattle.span_core.specs.Lists.{Has}
use Rattle.marked_automaton.specs.Automaton.{Automaton}
use Rattle.automaton_reading.specs.Reading.{Reach, edges, ended}
use Rattle.node_arena.specs.Words.{Word}
use Rattle.one_pass.specs.Places.{Leads, ReadingPlace, bytes_at, end_at}
use Rattle.one_pass.specs.Settling.{Rule}

abbrev pub no_more : Reach
no_more = record { marks = 0; to = [] }

-- the set has an end without marks, so that a word that leads to it is an answer as it is
abbrev pub Settles : Automaton → List ℕ → Type 0
Settles A set = Has (edges A set ended) no_more

-- the pieces, one behind another
abbrev pub joined : List (List ℕ) → List ℕ
joined [] = []
joined (p ∷ ps) = p ++ joined ps

-- a choice leads over the pieces, which stand at i, and behind none of them to a set that is given
abbrev pub LeadsPast : Automaton → Rule → ℕ → List (List ℕ) → List ℕ → Word → List ℕ → Type 0
LeadsPast A G i [] from w to = (w ≡ []) × (from ≡ to)
LeadsPast A G i (p ∷ ps) from w to =
    (on : List ℕ) × (u v : Word) × Leads A (bytes_at i p) from u on × ¬ G on × LeadsPast A G (i + length p) ps on v to × (u ++ v ≡ w)

-- the word leads to a set that is given behind one of the pieces, as it is
abbrev pub IsGivenIn : Automaton → Rule → ℕ → List (List ℕ) → List ℕ → Word → Type 0
IsGivenIn A G i [] from w = ⊥
IsGivenIn A G i (p ∷ ps) from w =
    ((on : List ℕ) × Leads A (bytes_at i p) from w on × G on)
    ⊎ ((on : List ℕ) × (u v : Word) × Leads A (bytes_at i p) from u on × IsGivenIn A G (i + length p) ps on v × (u ++ v ≡ w))

-- the places of the bytes of a document and its end
abbrev pub whole : ℕ → List ℕ → List ReadingPlace
whole i d = bytes_at i d ++ end_at (i + length d) ∷ []

abbrev pub AllBytes : List ℕ → Type 0
AllBytes d = (b : ℕ) → Has d b → b < 256

-- no word that is accepted goes on from one that is given
abbrev pub IsFull : Automaton → Rule → ℕ → List ℕ → Type 0
IsFull A G i from =
    (d more : List ℕ) (u v : Word) (on : List ℕ) → AllBytes d → AllBytes more → Leads A (bytes_at i d) from u on → G on →
    Leads A (whole (i + length d) more) on v [] → v ≡ []

-- the same blocks so many positions later
abbrev pub shift : ℕ → Word → Word
shift k w = map (λ (b : ℕ × ℕ). let c : ℕ × ℕ = (b.0 + k, b.1) in c) w
