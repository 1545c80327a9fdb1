-- Entries that wait.
use Rattle.std.specs.Prelude.{List, [], ◌∷◌}
use Rattle.node_arena.specs.Rows.{NamedRow, IsThere}
use Rattle.check_readings.specs.declared.words.Waiting.{Waiting}

-- the entry of each is there
abbrev pub AreThere : List NamedRow → List Waiting → Type 0
AreThere store [] = Unit {0}
AreThere store (w ∷ ws) = IsThere store w.entry × AreThere store ws
