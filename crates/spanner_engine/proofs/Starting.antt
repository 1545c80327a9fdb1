-- The table of the start states alone.
use Rattle.std.proofs.Common.{◌≡◌, ℕ, ◌+◌, ◌≤◌, Bool, true, false, List, [], ◌∷◌, length, map, inl, refl, arith}
use Rattle.std.specs.Prelude.{◌||◌, if◌then◌else◌}
use Rattle.std.specs.Str.{bytes_eq}
use Rattle.span_core.specs.Lists.{Has}
use Rattle.marked_automaton.specs.Automaton.{Automaton}
use Rattle.automaton_reading.specs.Reading.{Question, LookUp, questions, byte_read, ended, rest_taken, once, look_ups_read, set_of, weight_K}
use Rattle.automaton_reading.proofs.Matching.{cons_sum, once_has}
use Rattle.automaton_reading.proofs.MeasureLaws.{bytes_itself, same_bytes}
use Rattle.set_table.specs.Tabled.{IsRefusal, fresh, weight}
use Rattle.set_table.specs.declared.fault.TableFault.{TableFault}
use Rattle.set_table.specs.declared.fault.TableFault.TheVariants.{Full, OutOfMemory}
use Rattle.one_pass.specs.Faults.{IsReadFault}
use Rattle.one_pass.proofs.Making.{sum_has}

module _ (A : Automaton) (d : List ℕ) (K : ℕ → Bool) where
  -- something is asked of the start states
  first_asked : (d : List ℕ) → (a : Question) × (later : List Question) × (questions K d 0 false ≡ a ∷ later)
  first_asked [] = by (K 0)
    where
      by : (b : Bool) → (a : Question) × (later : List Question) × ((if b || false then ended ∷ [] else rest_taken ∷ ended ∷ []) ≡ a ∷ later)
      by true = (ended, [], refl)
      by false = (rest_taken, ended ∷ [], refl)
  first_asked (x ∷ d) = by (K 0) (questions K d 1 false) (questions K d 1 true)
    where
      by : (b : Bool) (near far : List Question) → (a : Question) × (later : List Question) × ((if b then byte_read x ∷ near else rest_taken ∷ far) ≡ a ∷ later)
      by true near far = (byte_read x, near, refl)
      by false near far = (rest_taken, far, refl)

  start_there : Has (map (λ (r : LookUp). r.set) (look_ups_read A d K)) (set_of A.starts)
  start_there =
      let f = first_asked d in
      rw f.2 (inl refl)

  start_weight : (limit : ℕ) → weight (fresh A limit) ≤ weight_K A d K
  start_weight limit =
      let f : List ℕ → ℕ = λ set. 1 + length set in
      omega (
        arith,
        cons_sum f (set_of A.starts) [],
        sum_has f (once bytes_eq (map (λ (r : LookUp). r.set) (look_ups_read A d K))) (set_of A.starts)
            (once_has bytes_eq same_bytes bytes_itself (map (λ (r : LookUp). r.set) (look_ups_read A d K)) (set_of A.starts) start_there),
      )

  -- a table that is not made is refused for what reading weighs
  pub start_fault : (limit : ℕ) (e : TableFault) → IsRefusal (fresh A limit) e → IsReadFault A K d limit e
  start_fault limit (Full w) h = (h.1, omega (arith, h.0, start_weight limit))
  start_fault limit OutOfMemory h = tt
