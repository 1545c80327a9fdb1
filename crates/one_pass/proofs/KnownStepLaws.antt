-- Programs with the numbers of the layers that they lead to, place by place.
use Rattle.std.proofs.Common.{◌≡◌, ℕ, zero, suc, List, [], ◌∷◌, ◌++◌, length, Some, refl, ap, arith, get_or, slice_get}
use Rattle.std.proofs.lemmas.Option.{get_or_from_slice_get}
use Rattle.output_graph.specs.Programs.{Steps, steps_of}
use Rattle.output_graph.specs.Pools.{program_at}
use Rattle.one_pass.specs.KnownSteps.{KnownStep, known_step_at, known_step_of, known_steps_of, programs_of}

pub steps_length : (programs : List Steps) (numbers : List ℕ) → length programs ≡ length numbers → length (known_steps_of programs numbers) ≡ length numbers
steps_length [] [] same = refl
steps_length [] (n ∷ numbers) same = absurd (omega arith)
steps_length (p ∷ programs) [] same = refl
steps_length (p ∷ programs) (n ∷ numbers) same = ap suc (steps_length programs numbers (omega arith))

pub steps_programs : (programs : List Steps) (numbers : List ℕ) → length programs ≡ length numbers → programs ≡ programs_of (known_steps_of programs numbers)
steps_programs [] numbers same = refl
steps_programs (p ∷ programs) [] same = absurd (omega arith)
steps_programs (p ∷ programs) (n ∷ numbers) same = ap (λ (ps : List Steps). p ∷ ps) (steps_programs programs numbers (omega arith))

pub steps_next : (programs : List Steps) (numbers : List ℕ) (k : ℕ) → length programs ≡ length numbers → get_or numbers k 0 ≡ (known_step_at (known_steps_of programs numbers) k).next
steps_next [] [] k same = refl
steps_next [] (n ∷ numbers) k same = absurd (omega arith)
steps_next (p ∷ programs) [] k same = absurd (omega arith)
steps_next (p ∷ programs) (n ∷ numbers) zero same = refl
steps_next (p ∷ programs) (n ∷ numbers) (suc k) same = steps_next programs numbers k (omega arith)

pub steps_more : (programs : List Steps) (numbers : List ℕ) (p : Steps) (n : ℕ) → length programs ≡ length numbers →
    known_steps_of (programs ++ p ∷ []) (numbers ++ n ∷ []) ≡ known_steps_of programs numbers ++ known_step_of p n ∷ []
steps_more [] [] p n same = refl
steps_more [] (m ∷ numbers) p n same = absurd (omega arith)
steps_more (q ∷ programs) [] p n same = absurd (omega arith)
steps_more (q ∷ programs) (m ∷ numbers) p n same = ap (λ (ss : List KnownStep). known_step_of q m ∷ ss) (steps_more programs numbers p n (omega arith))

pub program_is : (steps : List KnownStep) (k : ℕ) → program_at (programs_of steps) k ≡ (known_step_at steps k).program
program_is [] k = refl
program_is (s ∷ steps) zero = refl
program_is (s ∷ steps) (suc k) = program_is steps k

pub step_there : (steps : List KnownStep) (k : ℕ) (step : KnownStep) → slice_get steps k ≡ Some step → known_step_at steps k ≡ step
step_there steps k step at = get_or_from_slice_get steps k step (known_step_of (steps_of [] []) 0) at
