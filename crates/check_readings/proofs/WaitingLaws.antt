-- Entries that wait, one more or fewer.
use Rattle.std.proofs.Common.{List, [], ◌∷◌, ◌++◌}
use Rattle.node_arena.specs.Rows.{NamedRow, IsThere}
use Rattle.check_readings.specs.Waiting.{AreThere}
use Rattle.check_readings.specs.declared.words.Waiting.{Waiting}

pub one_more : (store : List NamedRow) (ws : List Waiting) (w : Waiting) → AreThere store ws → IsThere store w.entry → AreThere store (ws ++ w ∷ [])
one_more store [] w all here = (here, tt)
one_more store (v ∷ ws) w all here = (all.0, one_more store ws w all.1 here)

pub last_there : (store : List NamedRow) (ws : List Waiting) (w : Waiting) → AreThere store (ws ++ w ∷ []) → IsThere store w.entry × AreThere store ws
last_there store [] w all = (all.0, tt)
last_there store (v ∷ ws) w all = let rest = last_there store ws w all.1 in (rest.0, (all.0, rest.1))
