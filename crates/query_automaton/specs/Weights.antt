-- What reading costs on an example that is worked out by hand.
use Rattle.std.specs.Prelude.{◌≡◌, ℕ, true, [], ◌∷◌, ◌++◌, Some, List, replicate}
use Rattle.spanner_model.specs.Examples.{a, b, c, star, x}
use Rattle.spanner_model.specs.Tree.{Tree, cat_all, alt_all, rep, cap}
use Rattle.spanner_model.specs.Expression.{untied}
use Rattle.marked_automaton.specs.Automaton.{Automaton}
use Rattle.place_automaton.specs.Words.{atom_automaton}
use Rattle.automaton_reading.specs.Reading.{look_ups_K, weight_K}

abbrev pub a_or_b : Tree
a_or_b = alt_all (a ∷ b ∷ [])

-- (a|b)*a(a|b){12}!x{c}
abbrev pub a_far_back : Tree
a_far_back = cat_all (star a_or_b ∷ a ∷ rep a_or_b 12 (Some 12) ∷ cap x c ∷ [])

abbrev pub far_back_automaton : Automaton
far_back_automaton = atom_automaton (x ∷ []) (untied a_far_back)

-- thirteen bytes a, and c
abbrev pub far_back_document : List ℕ
far_back_document = replicate 13 97 ++ 99 ∷ []

-- read at all positions: 30 states, 16 look-ups, the weight 166
abbrev pub WeightOfTheExample : Type 0
WeightOfTheExample =
    (far_back_automaton.states ≡ 30)
    × (look_ups_K far_back_automaton far_back_document (λ i. true) ≡ 16)
    × (weight_K far_back_automaton far_back_document (λ i. true) ≡ 166)
