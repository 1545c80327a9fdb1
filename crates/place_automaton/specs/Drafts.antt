-- What placing a formula adds to an automaton that is being made.
use Rattle.std.specs.Prelude.{◌≡◌, ℕ, ◌+◌, ◌++◌, max, List, Option, Some, None}
use Rattle.spanner_model.specs.Captures.{VarName}
use Rattle.spanner_model.specs.Sequential.{HasVar}
use Rattle.span_core.specs.Lists.{Has}
use Rattle.spanner_model.specs.Tree.{Tree}
use Rattle.place_automaton.specs.declared.placing.Draft.{Draft}
use Rattle.place_automaton.specs.Sides.{Sides, sides_of}
use Rattle.place_automaton.specs.Places.{Places, placed}
use Rattle.place_automaton.specs.Words.{opening_of, closing_of}

-- the places of a formula over these names, numbered from k on
abbrev pub places_of : List VarName → Tree → ℕ → Places
places_of names f k = placed (opening_of names) (closing_of names) f k

-- each variable of the formula is among the names
abbrev pub AreNamed : List VarName → Tree → Type 0
AreNamed names f = (x : VarName) → HasVar f x → Has names x

-- these places, and the ways between them, have come to the draft
pub record HasPlaced (P : Places) (old new : Draft) (E : Sides) : Type 0 where
  pub sides : E ≡ sides_of P
  pub next : new.next ≡ old.next + P.count
  pub ways : new.ways.items ≡ old.ways.items ++ P.follow

-- how many copies of its formula a repetition is written out as
abbrev pub copies_of : ℕ → Option ℕ → ℕ
copies_of least None = max least 1
copies_of least (Some most) = most
