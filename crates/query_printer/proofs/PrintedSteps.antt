-- One byte more: of the numbers and the texts that the printer's loops make.
use Rattle.std.proofs.Common.{◌≡◌, ℕ, suc, ◌+◌, ◌-◌, ◌<◌, ◌≤◌, true, false, [], ◌++◌, ap, refl, ◌∙◌, arith, add-one, if◌then◌else◌}
use Rattle.std.specs.FinSet as set
use Rattle.formula_parser.specs.Sets.{Bytes}
use Rattle.query_printer.specs.PrintedFormula.{bytes_below, begins_run, run_end, run_text, runs_text}

pub members_none : (s : Bytes) → bytes_below s 0 ≡ 0
unfolding bytes_below
members_none s = refl

pub runs_none : (s : Bytes) → runs_text s 0 ≡ []
unfolding runs_text
runs_none s = refl

pub members_next : (s : Bytes) (n : ℕ) → bytes_below s (n + 1) ≡ bytes_below s n + (if set.contains s n then 1 else 0)
unfolding bytes_below
members_next s n = ap (bytes_below s) (add-one n)

pub runs_next : (s : Bytes) (n : ℕ) → runs_text s (n + 1) ≡ runs_text s n ++ (if begins_run s n then run_text n (run_end s (255 - n) n) else [])
unfolding runs_text
runs_next s n = ap (runs_text s) (add-one n)

pub run_goes_on : (s : Bytes) (b : ℕ) → b < 255 → set.contains s (b + 1) ≡ true → run_end s (255 - b) b ≡ run_end s (255 - (b + 1)) (b + 1)
unfolding run_end
run_goes_on s b low has =
    let more : 255 - b ≡ suc (255 - (b + 1)) = omega arith in
    ap (λ k. run_end s k b) more ∙ ap (λ v. if v then run_end s (255 - (b + 1)) (b + 1) else b) has

pub run_stops : (s : Bytes) (b : ℕ) → b < 255 → set.contains s (b + 1) ≡ false → run_end s (255 - b) b ≡ b
unfolding run_end
run_stops s b low lacks =
    let more : 255 - b ≡ suc (255 - (b + 1)) = omega arith in
    ap (λ k. run_end s k b) more ∙ ap (λ v. if v then run_end s (255 - (b + 1)) (b + 1) else b) lacks

pub run_ends : (s : Bytes) (b : ℕ) → 255 ≤ b → run_end s (255 - b) b ≡ b
unfolding run_end
run_ends s b top = let none : 255 - b ≡ 0 = omega arith in ap (λ k. run_end s k b) none
