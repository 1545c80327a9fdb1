-- The automata of the two readings of an atom.
use Rattle.std.specs.Prelude.{◌≡◌, ℕ, ◌↔◌, Bool, not, ◌&&◌, List, [], map, nat_eq}
use Rattle.std.specs.List.{filter}
use Rattle.span_core.specs.Lists.{Has}
use Rattle.marked_automaton.specs.declared.way.Way.{Way}
use Rattle.marked_automaton.specs.declared.way.Stop.{Stop}
use Rattle.marked_automaton.specs.Automaton.{Automaton, HasByte, turned_way}
use Rattle.segment_filter.specs.Sets.{TakesNone}
use Rattle.segment_filter.specs.Weights.{reading_look_ups, reading_weight}

-- some way leads from p to q on the byte
abbrev pub StepsTo : Automaton → ℕ → ℕ → ℕ → Type 0
StepsTo A p b q = (y : Way) × Has A.ways y × (y.from ≡ p) × HasByte y.bytes b × (y.to ≡ q)

abbrev pub CanEnd : Automaton → ℕ → Type 0
CanEnd A p = (x : Stop) × Has A.stops x × (x.state ≡ p)

-- the same but for markers and for how the ways stand
pub record HasStepsOf (A B : Automaton) : Type 0 where
  pub states : A.states ≡ B.states
  pub starts : (p : ℕ) → Has A.starts p ↔ Has B.starts p
  pub steps : (p b q : ℕ) → StepsTo A p b q ↔ StepsTo B p b q
  pub ends : (p : ℕ) → CanEnd A p ↔ CanEnd B p

-- a way other than one of the state 0 to itself
abbrev pub moves_on : Way → Bool
moves_on y = not (nat_eq y.from 0 && nat_eq y.to 0)

-- each way turned round but those of the state 0 to itself; the starts are the states that have an end
abbrev pub turned : Automaton → Automaton
turned A = record {
  states = A.states;
  starts = map (λ (x : Stop). x.state) A.stops;
  ways = map turned_way (filter moves_on A.ways);
  stops = [];
  idle = [];
}

-- what reading without markers comes to depends on the steps alone
abbrev pub AlikeLaw : Type 0
AlikeLaw =
    (A B : Automaton) → TakesNone A → TakesNone B → ((p : ℕ) → Has A.starts p ↔ Has B.starts p) → ((p b q : ℕ) → StepsTo A p b q ↔ StepsTo B p b q) →
    (d : List ℕ) → (reading_weight A d ≡ reading_weight B d) × (reading_look_ups A d ≡ reading_look_ups B d)
