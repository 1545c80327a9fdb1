-- How the value that stands for a part's ends is stored.
use Rattle.std.specs.Prelude.{ℕ, List, refl}
use Rattle.std.specs.FinSet as set
use Rattle.std.specs.Coded.{Coded, code_by, coded×, coded_ℕ, coded_list}
use Rattle.marked_automaton.specs.declared.way.Stop.{Stop}
use Rattle.marked_automaton.specs.Automaton.{ByteClass}
use Rattle.marked_automaton.specs.Codes.{stop_code}
use Rattle.place_automaton.specs.declared.fragment.Entry.{Entry}
use Rattle.place_automaton.specs.Sides.{Sides}

abbrev pub entry_code : Coded Entry
entry_code =
    code_by (ℕ × (ByteClass × ℕ)) (coded× coded_ℕ (coded× (set.code coded_ℕ) coded_ℕ))
    (λ e. (e.marks, (e.bytes, e.to))) (λ p. record { marks = p.0; bytes = p.1.0; to = p.1.1 }) (λ _. refl)

abbrev pub sides_code : Coded Sides
sides_code =
    code_by (List ℕ × (List Entry × List Stop)) (coded× (coded_list coded_ℕ) (coded× (coded_list entry_code) (coded_list stop_code)))
    (λ P. (P.null, (P.first, P.last))) (λ p. record { null = p.0; first = p.1.0; last = p.1.1 }) (λ _. refl)
