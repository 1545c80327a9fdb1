-- The blocks of a join, from the blocks of its two parts.
use Rattle.std.specs.Prelude.{ℕ, ◌+◌, ◌*◌, ◌^◌, Bool, true, List, [], ◌∷◌, length, if◌then◌else◌, nat_eq, ◌&&◌}
use Rattle.span_core.specs.NameSets.{has_name}
use Rattle.spanner_model.specs.Captures.{VarName}
use Rattle.marked_automaton.specs.Marks.{bits_of}

-- two blocks have the same bits of each of these names that both have
abbrev pub agree_on : List VarName → List VarName → List VarName → ℕ → ℕ → Bool
agree_on names1 names2 [] m n = true
agree_on names1 names2 (x ∷ xs) m n =
    (if has_name names1 x && has_name names2 x then nat_eq (bits_of names1 m x) (bits_of names2 n x) else true)
    && agree_on names1 names2 xs m n

-- the block over all names of two blocks that agree
abbrev pub joined : List VarName → List VarName → List VarName → ℕ → ℕ → ℕ
joined names1 names2 [] m n = 0
joined names1 names2 (x ∷ xs) m n =
    (if has_name names1 x then bits_of names1 m x else bits_of names2 n x) * 2 ^ (2 * length xs) + joined names1 names2 xs m n
