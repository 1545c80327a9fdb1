-- Worked numbers.
use Rattle.std.specs.Prelude.{◌≡◌, ℕ, zero, suc, List, [], ◌∷◌, Some, length}
use Rattle.spanner_model.specs.Tree.{Tree, empty, cat_all, rep, cap}
use Rattle.spanner_model.specs.Expression.{tied, untied}
use Rattle.spanner_model.specs.Examples.{a, b, star, x}
use Rattle.marked_automaton.specs.Automaton.{Automaton}
use Rattle.place_automaton.specs.Counts.{count_states, count_ways}
use Rattle.place_automaton.specs.Words.{atom_automaton}

-- so many times
abbrev pub times : ℕ → Tree → Tree
times n f = rep f n (Some n)

-- once at most
abbrev pub maybe : Tree → Tree
maybe f = rep f 0 (Some 1)

-- !x{a*}
abbrev pub star_in_x : Tree
star_in_x = cap x (star a)

-- (a{1000}){20}
abbrev pub many_a : Tree
many_a = times 20 (times 1000 a)

-- ((a?){1000}){3}
abbrev pub many_optional : Tree
many_optional = times 3 (times 1000 (maybe a))

-- a(!x{()})?b
abbrev pub optional_x : Tree
optional_x = cat_all (a ∷ (maybe (cap x empty) ∷ (b ∷ [])))

-- so many captures of nothing, each of which may be absent; their names are one letter each, from this one on
abbrev pub optionals : ℕ → ℕ → List Tree
optionals letter zero = []
optionals letter (suc n) = maybe (cap (letter ∷ []) empty) ∷ optionals (suc letter) n

abbrev pub star_automaton : Automaton
star_automaton = atom_automaton (x ∷ []) (untied star_in_x)

abbrev pub CountsOfTheExamples : Type 0
CountsOfTheExamples =
    (star_automaton.states ≡ 3) × (length star_automaton.ways ≡ 6)
    × (count_states (untied star_in_x) ≡ 3) × (count_ways (untied star_in_x) ≡ 6)
    × (count_states (untied many_a) ≡ 20002)
    × (count_ways (untied many_optional) ≡ 4504503)
    × (count_states (untied optional_x) ≡ 4) × (count_ways (untied optional_x) ≡ 6)
    × (count_ways (tied (cat_all (optionals 97 16))) ≡ 0)
    × (count_ways (tied (cat_all (optionals 97 17))) ≡ 2000001)
    × (count_ways (tied (cat_all (a ∷ optionals 97 32))) ≡ 1)
