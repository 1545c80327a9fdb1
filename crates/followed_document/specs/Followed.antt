-- What contracts see of a document that is followed, and what each call makes of it.
use Rattle.std.specs.Prelude.{◌≡◌, ℕ, ◌↔◌, Bool, List, [], ◌++◌, length, Option, Some, IfSome, refl}
use Rattle.std.specs.Coded.{Coded, code_by, coded×, coded_bool, coded_list, coded_option, coded_ℕ}
use Rattle.span_core.specs.Lists.{Has}
use Rattle.marked_automaton.specs.Automaton.{Automaton, Marked}
use Rattle.marked_automaton.specs.Codes.{marked_code}
use Rattle.marked_automaton.specs.Reach.{IsFlagged}
use Rattle.automaton_reading.specs.Reading.{set_of}
use Rattle.node_arena.specs.Words.{Word}
use Rattle.enumerator.specs.Enumeration.{AreInBlockOrder, AreRowsOf, SpanRow}
use Rattle.one_pass.specs.Passes.{Progress, Reaches}
use Rattle.one_pass.specs.Readings.{come_to}
use Rattle.one_pass.specs.SoFar.{SoFar, so_far_code}
use Rattle.followed_document.specs.Laws.{IsGivenLast, IsGivenNext}
use Rattle.one_pass.specs.Settling.{IsSettledBy, Rule}
use Rattle.settled_states.specs.States.{AreLasting, AreSpent}
use Rattle.followed_document.specs.Settling.{AllBytes, LeadsPast, joined, shift}

-- the automaton, the limit of weight, which states are not spent and which are lasting, how many bytes are forgotten, those behind
-- them, and the reading of these; it is none where nothing is read any more
pub record Followed : Type 0 where
  pub automaton : Marked
  pub limit : ℕ
  pub unspent : List Bool
  pub lasting : List Bool
  pub base : ℕ
  pub window : List ℕ
  pub reading : Option SoFar

abbrev pub followed_code : Coded Followed
followed_code =
    code_by (Marked × (ℕ × (List Bool × (List Bool × (ℕ × (List ℕ × Option SoFar))))))
    (coded× marked_code (coded× coded_ℕ (coded× (coded_list coded_bool) (coded× (coded_list coded_bool) (coded× coded_ℕ (coded× (coded_list coded_ℕ) (coded_option so_far_code)))))))
    (λ g. (g.automaton, (g.limit, (g.unspent, (g.lasting, (g.base, (g.window, g.reading)))))))
    (λ p. record {
      automaton = p.0;
      limit = p.1.0;
      unspent = p.1.1.0;
      lasting = p.1.1.1.0;
      base = p.1.1.1.1.0;
      window = p.1.1.1.1.1.0;
      reading = p.1.1.1.1.1.1;
    })
    (λ _. refl)

-- ---- what it has behind the pieces

-- the flags are those of spent and of lasting states
pub record AreFlags (A : Automaton) (unspent lasting : List Bool) : Type 0 where
  pub unspent_many : length unspent ≡ A.states
  pub lasting_many : length lasting ≡ A.states
  pub are_spent : AreSpent A (λ q. ¬ IsFlagged unspent q)
  pub are_lasting : AreLasting A (IsFlagged lasting)

-- the sets whose words are given where a piece ends: those that are settled by the flags
abbrev pub rule_of : Followed → Rule
rule_of g = IsSettledBy g.unspent g.lasting

-- the layer has the words that lead past the pieces, counted from the base
abbrev pub IsLayerFrom : Automaton → Rule → List (List ℕ) → ℕ → Progress → Type 0
IsLayerFrom A G ps base P =
    (set : List ℕ) (w : Word) → LeadsPast A G 0 ps (set_of A.starts) w set ↔ ((u : Word) × Reaches P set u × (shift base u ≡ w))

-- these pieces were followed: the window is what is behind the base, and the layer has the words that lead past them
pub record IsBehind (ps : List (List ℕ)) (g : Followed) : Type 0 where
  pub bytes : AllBytes (joined ps)
  pub forgotten : List ℕ
  pub many : length forgotten ≡ g.base
  pub window : forgotten ++ g.window ≡ joined ps
  pub layer : IfSome g.reading (λ r. IsLayerFrom g.automaton.graph (rule_of g) ps g.base (come_to r 0))

-- ---- a piece more

-- a piece stands behind the window, which has a reading
abbrev pub with_piece : Followed → List ℕ → SoFar → Followed
with_piece g piece s = record {
  automaton = g.automaton;
  limit = g.limit;
  unspent = g.unspent;
  lasting = g.lasting;
  base = g.base;
  window = g.window ++ piece;
  reading = Some s;
}

-- a word, counted from the base, is given with the piece that comes behind these
abbrev pub IsNextWord : Followed → List (List ℕ) → List ℕ → ℕ → Word → Type 0
IsNextWord g ps piece base u = IsGivenNext g.automaton.graph (rule_of g) ps piece (shift base u)

-- or where nothing comes behind them
abbrev pub IsLastWord : Followed → List (List ℕ) → Word → Type 0
IsLastWord g ps u = IsGivenLast g.automaton.graph (rule_of g) ps [] (shift g.base u)

-- these are the rows of exactly those words, in block order, and so each of them once
pub record AreRowsGiven (v : ℕ) (given : Word → Type 0) (rows : List SpanRow) : Type 0 where
  pub words : List Word
  pub exactly : (u : Word) → Has words u ↔ given u
  pub are : AreRowsOf v words rows
  pub order : AreInBlockOrder rows
