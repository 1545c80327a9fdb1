-- What is held of a document whose rows are asked for at its end is what reading it at once holds.
use Rattle.std.proofs.Common.{◌≡◌, ℕ, suc, ◌+◌, ◌≤◌, Bool, true, false, IsTrue, List, [], ◌∷◌, ◌++◌, ◌||◌, if◌then◌else◌, length, map, take, refl, sym, ap, ap₂, arith, ◌∙◌}
use Rattle.std.proofs.lemmas.List.{append-nil, map-append}
use Rattle.std.proofs.Math.Seq.{take-length}
use Rattle.marked_automaton.specs.Automaton.{Automaton}
use Rattle.automaton_reading.specs.Reading.{Question, byte_read, rest_taken, ended, LookUp, questions, next_sets, look_ups_asked, look_ups_read}
use Rattle.one_pass.specs.Passes.{weight_of}
use Rattle.one_pass.specs.Places.{asks, bytes_at, sets_met}
use Rattle.one_pass.proofs.Sets.{look_ups_append}
use Rattle.growing_document.specs.Lengths.{WholeWeighs, ends_at}
use Rattle.growing_document.specs.Numbers.{questions_in, end_look_ups_at, first_sets, look_ups_in, sets_in}

-- where every position is read, what is asked are the bytes, and then the ends
questions_all : (K : ℕ → Bool) (d : List ℕ) (i : ℕ) (gap : Bool) → ((j : ℕ) → i ≤ j → j ≤ i + length d → IsTrue (K j)) →
    questions K d i gap ≡ asks (bytes_at i d) ++ ended ∷ []
questions_all K [] i gap all =
    ap (λ k. if k || gap then ended ∷ [] else rest_taken ∷ ended ∷ []) (all i (omega arith) (omega arith))
questions_all K (b ∷ d) i gap all =
    ap (λ k. if k then byte_read b ∷ questions K d (suc i) false else (if gap then questions K d (suc i) true else rest_taken ∷ questions K d (suc i) true))
    (all i (omega arith) (omega arith))
    ∙ ap (λ later. byte_read b ∷ later) (questions_all K d (suc i) false (λ j above below. all j (omega arith) (omega arith)))

-- the sets of these look-ups are those that are asked
sets_asked : (a : Question) (sets : List (List ℕ)) → map (λ (r : LookUp). r.set) (map (λ set. record { set = set; ask = a }) sets) ≡ sets
sets_asked a [] = refl
sets_asked a (set ∷ sets) = ap (λ (xs : List (List ℕ)). set ∷ xs) (sets_asked a sets)

sets_met_asked : (A : Automaton) (sets : List (List ℕ)) (these : List Question) →
    map (λ (r : LookUp). r.set) (look_ups_asked A sets (these ++ ended ∷ [])) ≡ sets_met A sets these
sets_met_asked A sets [] = ap (map (λ (r : LookUp). r.set)) (append-nil (map (λ set. record { set = set; ask = ended }) sets)) ∙ sets_asked ended sets
sets_met_asked A sets (a ∷ later) =
    map-append (λ (r : LookUp). r.set) (map (λ set. record { set = set; ask = a }) sets) (look_ups_asked A (next_sets A sets a) (later ++ ended ∷ []))
    ∙ ap₂ (λ (xs ys : List (List ℕ)). xs ++ ys) (sets_asked a sets) (sets_met_asked A (next_sets A sets a) later)

module _ (A : Automaton) (d : List ℕ) (K : ℕ → Bool) (all : (i : ℕ) → i ≤ length d → IsTrue (K i)) where
  questions_are : questions K d 0 false ≡ questions_in d ++ ended ∷ []
  questions_are = questions_all K d 0 false (λ j above below. all j (omega arith))

  ends_whole : ends_at A d (length d ∷ []) ≡ end_look_ups_at A d
  ends_whole = append-nil (end_look_ups_at A (take (length d) d)) ∙ ap (end_look_ups_at A) (take-length d)

  look_ups_whole : look_ups_in A d ++ ends_at A d (length d ∷ []) ≡ look_ups_read A d K
  look_ups_whole =
      ap (λ ends. look_ups_in A d ++ ends) ends_whole
      ∙ (sym (look_ups_append A (first_sets A) (questions_in d) (ended ∷ [])) ∙ ap (look_ups_asked A (first_sets A)) (sym questions_are))

  sets_whole : sets_in A d ≡ map (λ (r : LookUp). r.set) (look_ups_read A d K)
  sets_whole =
      sym (sets_met_asked A (first_sets A) (questions_in d))
      ∙ ap (λ (asks : List Question). map (λ (r : LookUp). r.set) (look_ups_asked A (first_sets A) asks)) (sym questions_are)

pub whole_weighs : WholeWeighs
whole_weighs A d K all = ap₂ (weight_of A) (sets_whole A d K all) (look_ups_whole A d K all)
