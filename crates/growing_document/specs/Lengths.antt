-- The weight of what is held, told by the document and the lengths that it had when its rows were asked for.
use Rattle.std.specs.Prelude.{◌≡◌, ℕ, ◌<◌, ◌≤◌, Bool, IsTrue, List, [], ◌∷◌, ◌++◌, length, take}
use Rattle.std.specs.List.{flat_map}
use Rattle.span_core.specs.Lists.{Has}
use Rattle.marked_automaton.specs.Automaton.{Automaton, Marked}
use Rattle.marked_automaton.specs.Reduct.{Reduces}
use Rattle.automaton_reading.specs.Reading.{LookUp, weight_K}
use Rattle.growing_document.specs.Faults.{IsAppendFault, IsRowsFault}
use Rattle.growing_document.specs.Grown.{Grown, IsAppended, HasAskedRows, at_start}
use Rattle.growing_document.specs.Numbers.{end_look_ups, end_look_ups_at, weight_with}
use Rattle.growing_document.specs.declared.fault.GrowFault.TheVariants.{Full}

-- the end look-ups of the sets that are reached behind so many bytes of the document, for each of these numbers
abbrev pub ends_at : Automaton → List ℕ → List ℕ → List LookUp
ends_at A d lengths = flat_map (λ n. end_look_ups_at A (take n d)) lengths

-- what reading the document weighs, with these end look-ups
abbrev pub weight_at : Automaton → List ℕ → List ℕ → ℕ
weight_at A d lengths = weight_with A d (ends_at A d lengths)

-- reading by a reduct weighs no more than reading by what it reduces
abbrev pub ReductWeighs : Type 0
ReductWeighs = (A B : Automaton) → Reduces A B → (d lengths : List ℕ) → weight_at A d lengths ≤ weight_at B d lengths

-- a document whose rows are asked for at its end alone weighs what it weighs read at once, at all its positions
abbrev pub WholeWeighs : Type 0
WholeWeighs =
    (A : Automaton) (d : List ℕ) (K : ℕ → Bool) → ((i : ℕ) → i ≤ length d → IsTrue (K i)) →
    weight_at A d (length d ∷ []) ≡ weight_K A d K

-- the end look-ups that are held are of these lengths of the document, which are its own or were
pub record IsAskedAt (g : Grown) (lengths : List ℕ) : Type 0 where
  pub within : (n : ℕ) → Has lengths n → n ≤ length g.document
  pub ends : (look_up : LookUp) → Has (end_look_ups g.look_ups) look_up → Has (ends_at g.automaton.graph g.document lengths) look_up

-- the lengths at which the rows were asked for tell which end look-ups are held, and so what a refusal for weight weighs at most
pub record LengthsLaw : Type 0 where
  pub start : (A : Marked) (limit : ℕ) → IsAskedAt (at_start A limit) []
  pub appended : (old new : Grown) (piece lengths : List ℕ) → IsAskedAt old lengths → IsAppended old piece new → IsAskedAt new lengths
  pub asked : (old new : Grown) (lengths : List ℕ) → IsAskedAt old lengths → HasAskedRows old new → IsAskedAt new (length old.document ∷ lengths)
  pub append_full : (g : Grown) (piece lengths : List ℕ) (weight : ℕ) → IsAskedAt g lengths → IsAppendFault g piece (Full weight) →
      (g.limit < weight) × (weight ≤ weight_at g.automaton.graph (g.document ++ piece) lengths)
  pub rows_full : (g : Grown) (lengths : List ℕ) (weight : ℕ) → IsAskedAt g lengths → IsRowsFault g (Full weight) →
      (g.limit < weight) × (weight ≤ weight_at g.automaton.graph g.document (length g.document ∷ lengths))
