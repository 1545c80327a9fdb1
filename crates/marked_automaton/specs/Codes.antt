-- How the value that stands for an automaton is stored.
use Rattle.std.specs.Prelude.{ℕ, List, refl}
use Rattle.std.specs.FinSet as set
use Rattle.std.specs.Coded.{Coded, code_by, coded×, coded_ℕ, coded_list}
use Rattle.marked_automaton.specs.declared.way.Way.{Way}
use Rattle.marked_automaton.specs.declared.way.Stop.{Stop}
use Rattle.marked_automaton.specs.Automaton.{Automaton, ByteClass, Marked}

abbrev pub way_code : Coded Way
way_code =
    code_by (ℕ × (ℕ × (ByteClass × ℕ))) (coded× coded_ℕ (coded× coded_ℕ (coded× (set.code coded_ℕ) coded_ℕ)))
    (λ y. (y.from, (y.marks, (y.bytes, y.to)))) (λ p. record { from = p.0; marks = p.1.0; bytes = p.1.1.0; to = p.1.1.1 }) (λ _. refl)

abbrev pub stop_code : Coded Stop
stop_code = code_by (ℕ × ℕ) (coded× coded_ℕ coded_ℕ) (λ x. (x.state, x.marks)) (λ p. record { state = p.0; marks = p.1 }) (λ _. refl)

abbrev pub automaton_code : Coded Automaton
automaton_code =
    code_by (ℕ × (List ℕ × (List Way × (List Stop × List ℕ))))
    (coded× coded_ℕ (coded× (coded_list coded_ℕ) (coded× (coded_list way_code) (coded× (coded_list stop_code) (coded_list coded_ℕ)))))
    (λ A. (A.states, (A.starts, (A.ways, (A.stops, A.idle)))))
    (λ p. record { states = p.0; starts = p.1.0; ways = p.1.1.0; stops = p.1.1.1.0; idle = p.1.1.1.1 }) (λ _. refl)

abbrev pub marked_code : Coded Marked
marked_code =
    code_by (List (List ℕ) × Automaton) (coded× (coded_list (coded_list coded_ℕ)) automaton_code)
    (λ A. (A.names, A.graph)) (λ p. record { names = p.0; graph = p.1 }) (λ _. refl)
