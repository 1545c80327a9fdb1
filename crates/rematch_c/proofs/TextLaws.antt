-- Texts that are said.
use Rattle.std.proofs.Common.{◌≡◌, ℕ, ◌+◌, ◌<◌, ◌≤◌, List, [], ◌∷◌, ◌++◌, length, take, min, slice_set, ap, ◌∙◌, subst, arith}
use Rattle.std.proofs.lemmas.List.{take_more_set, take_min, length-take-le}
use Rattle.std.proofs.Math.Seq.{take-append_seam}

-- the first bytes of a text, with a byte 0 behind them
pub said : (text copied rest : List ℕ) (n : ℕ) → n ≡ min (length text) 247 → copied ≡ take n text → 247 < length (copied ++ rest) →
    take (n + 1) (slice_set (copied ++ rest) n 0) ≡ take 247 text ++ 0 ∷ []
said text copied rest n is same room =
    let within : n ≤ length text = omega (arith, is) in
    let long : length copied ≡ n = ap length same ∙ length-take-le n text within in
    let front : take n (copied ++ rest) ≡ copied = subst (λ (k : ℕ). take k (copied ++ rest) ≡ copied) long (take-append_seam copied rest) in
    let swapped : n ≡ min 247 (length text) = omega (arith, is) in
    let first : copied ≡ take 247 text = same ∙ ap (λ (k : ℕ). take k text) swapped ∙ take_min 247 text in
    let inside : n < length (copied ++ rest) = omega (arith, is, room) in
    take_more_set (copied ++ rest) n 0 inside ∙ ap (λ (xs : List ℕ). xs ++ 0 ∷ []) (front ∙ first)
