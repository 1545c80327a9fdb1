-- Laws of reading in one pass.
use Rattle.std.specs.Prelude.{◌≡◌, ℕ, ◌+◌, ◌*◌, ◌<◌, ◌≤◌, ◌↔◌, Bool, false, List, [], ◌∷◌, ◌++◌, length, IsTrue}
use Rattle.span_core.specs.Lists.{Has}
use Rattle.span_core.specs.Intervals.{AreApart, Covers}
use Rattle.marked_automaton.specs.Automaton.{Automaton}
use Rattle.automaton_reading.specs.Reading.{questions, edges_K, look_ups_asked, set_of, weight_K}
use Rattle.automaton_reading.specs.Chosen.{IsReadWith}
use Rattle.node_arena.specs.Words.{Word}
use Rattle.one_pass.specs.Builds.{IsNew, IsStarted, build}
use Rattle.one_pass.specs.Places.{ReadingPlace, AreReadWords, Leads, asks, byte_at, bytes_at, end_at, is_touched, parts_places, places, sets_after, sets_met, word_through}
use Rattle.one_pass.specs.Seen.{accepted_words}
use Rattle.one_pass.specs.Passes.{AllLeadBack, AllStayOn, AreGiven, Progress, Stop, sets_of, HasEnded, HasRead, HasStopped, IsExcess, IsReadyAt, Reaches}

-- choices of edges at the places of a document make the words that are read
abbrev pub ChoiceLaw : Type 0
ChoiceLaw =
    (A : Automaton) (K : ℕ → Bool) (d : List ℕ) (u : Word) →
    Leads A (places K d 0 false) (set_of A.starts) u [] ↔ ((w : ℕ → ℕ) × IsReadWith A K d w × (word_through w (length d) ≡ u))

-- what is asked at the places is what is counted
abbrev pub PlaceLaw : Type 0
PlaceLaw = (K : ℕ → Bool) (d : List ℕ) (i : ℕ) (in_gap : Bool) → asks (places K d i in_gap) ≡ questions K d i in_gap

-- after the places up to a position the layer has the sets that are reached, each with the words of the choices
-- that lead there
pub record IsLayerLaw (A : Automaton) (ps : List ReadingPlace) (Q : Progress) : Type 0 where
  pub words : (set : List ℕ) (w : Word) → Reaches Q set w ↔ Leads A ps (set_of A.starts) w set
  pub sets : (set : List ℕ) → Has (sets_of Q) set ↔ Has (sets_after A (set_of A.starts ∷ []) (asks ps)) set

abbrev pub LayerLaw : Type 0
LayerLaw =
    (A : Automaton) (before : ℕ) (ps : List ReadingPlace) (P Q : Progress) →
    IsNew A P.table → IsStarted before P → HasRead A ps P Q → IsLayerLaw A ps Q

-- places may be read one after another
abbrev pub StepLaw : Type 0
StepLaw =
    (A : Automaton) (ps qs : List ReadingPlace) (P Q R : Progress) (at : ℕ) →
    HasRead A ps P Q → IsReadyAt Q.table Q.graph at → HasRead A qs Q R → HasRead A (ps ++ qs) P R

-- where each set of the layer has one edge on the byte, without marks and to itself, the byte has been read before it is,
-- asked or not
abbrev pub StayLaw : Type 0
StayLaw =
    (P : Progress) (i b : ℕ) → AreGiven P.table P.graph → AllStayOn P.table P.graph b → HasRead P.table.graph (byte_at i b ∷ []) P P

-- bytes over which each set of the layer leads back to itself alone, without marks, have been read before they are, asked or not
abbrev pub BackLaw : Type 0
BackLaw = (P : Progress) (i : ℕ) (bytes : List ℕ) → AllLeadBack P.table P.graph bytes → HasRead P.table.graph (bytes_at i bytes) P P

-- the whole document: the words, the steps with those of turning, and the cells
pub record IsWholeLaw (A : Automaton) (K : ℕ → Bool) (d : List ℕ) (before : ℕ) (R : Progress) : Type 0 where
  pub words : AreReadWords A K d (accepted_words R.graph)
  pub steps : R.steps + (2 * length R.graph.cells + 2) + 1 ≤ before + build A d K
  pub cells : length R.graph.cells ≤ edges_K A d K + 1

abbrev pub WholeLaw : Type 0
WholeLaw =
    (A : Automaton) (K : ℕ → Bool) (d : List ℕ) (before : ℕ) (ps : List ReadingPlace) (P Q R : Progress) →
    IsNew A P.table → IsStarted before P → ps ++ end_at (length d) ∷ [] ≡ places K d 0 false → HasRead A ps P Q → IsReadyAt Q.table Q.graph (length d) →
    HasEnded A (length d) Q R → IsWholeLaw A K d before R

-- what was given up took no more steps
abbrev pub StopLaw : Type 0
StopLaw =
    (A : Automaton) (K : ℕ → Bool) (d : List ℕ) (before : ℕ) (P : Progress) (after : Stop) (ps rest : List ReadingPlace) →
    IsNew A P.table → IsStarted before P → ps ++ rest ≡ places K d 0 false → HasStopped A ps P after → after.steps + 1 ≤ before + build A d K

-- what the table would have weighed when it refused is more than its limit, and no more than the whole reading weighs
abbrev pub FullLaw : Type 0
FullLaw =
    (A : Automaton) (K : ℕ → Bool) (d : List ℕ) (before : ℕ) (P : Progress) (ps : List ReadingPlace) (q : ReadingPlace) (rest : List ReadingPlace) (weight : ℕ) →
    IsNew A P.table → IsStarted before P → ps ++ q ∷ rest ≡ places K d 0 false →
    IsExcess P.table (sets_met A (sets_of P) (asks ps)) (look_ups_asked A (sets_of P) (asks ps)) weight →
    (P.table.limit < weight) × (weight ≤ weight_K A d K)

-- a document is read by its intervals, whose positions are those that they cover
pub record ArePartLaws (parts : List (ℕ × ℕ)) (d : List ℕ) : Type 0 where
  pub places_are : parts_places 0 parts d ++ end_at (length d) ∷ [] ≡ places (is_touched parts) d 0 false
  pub covers : (q : ℕ) → IsTrue (is_touched parts q) ↔ Covers parts q

abbrev pub PartLaw : Type 0
PartLaw =
    (parts : List (ℕ × ℕ)) (d : List ℕ) → AreApart parts → ((q : ℕ) → Covers parts q → q ≤ length d) → ArePartLaws parts d
