-- What the places of a formula read.
use Rattle.std.specs.Prelude.{◌≡◌, ℕ, suc, ◌+◌, ◌⊎◌, List, [], ◌∷◌, if◌then◌else◌, nat_eq}
use Rattle.spanner_model.specs.Captures.{VarName, Captures}
use Rattle.span_core.specs.Lists.{Has}
use Rattle.marked_automaton.specs.declared.way.Stop.{Stop}
use Rattle.marked_automaton.specs.Automaton.{ReadsByte, Walk}
use Rattle.place_automaton.specs.declared.fragment.Entry.{Entry}
use Rattle.place_automaton.specs.Places.{Places}

-- a first place reads the byte at i, n further places read on from there; the block at i is a, the one
-- after the last byte is z, and w gives those between
abbrev pub Reads : Places → List ℕ → ℕ → ℕ → ℕ → (ℕ → ℕ) → ℕ → Type 0
Reads P d i n a w z =
    (e : Entry) × (s : Stop) × Has P.first e × Has P.last s × (e.marks ≡ a) × ReadsByte d i e.bytes
    × Walk P.follow d w (suc i) n e.to s.state × (s.marks ≡ z)

-- the part from i to j is read, with the blocks of w
abbrev pub Shown : Places → List ℕ → ℕ → ℕ → (ℕ → ℕ) → Type 0
Shown P d i j w =
    ((i ≡ j) × Has P.null (w i)) ⊎ ((n : ℕ) × (j ≡ suc (i + n)) × Reads P d i n (w i) w (w j))

module _ (opening closing : VarName → ℕ) where
  -- the block of captures at a position
  abbrev pub blocks : Captures → ℕ → ℕ
  blocks [] p = 0
  blocks (c ∷ m) p =
      (if nat_eq c.1.start p then opening c.0 else 0) + (if nat_eq c.1.end p then closing c.0 else 0) + blocks m p
