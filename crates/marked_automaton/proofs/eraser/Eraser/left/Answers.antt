use Rattle.std.proofs.Common.{◌≡◌, ℕ, ◌+◌, ◌-◌, ◌*◌, ◌^◌, get_or, length, None, ap, arith, ◌∙◌}
use Rattle.marked_automaton.specs.Erased.{digit_at}
use Rattle.marked_automaton.proofs.EraserLaws.{before_next, picked_next}
use Rattle.marked_automaton.proofs.eraser.Eraser.left.Goals as goal

pub loop-k-preserved : goal.loop-k-preserved
loop-k-preserved c =
    let places = c.deref-place-items.result.now in
    let all = c.args.self.now.all in
    let k = c.loop-k.k in
    let v = c.len-count.result in
    let b = c.loop-k.invariant.before in
    let digit : ℕ = digit_at all (get_or places k None) c.args.marks in
    let step : c.with_digit-left.result ≡ c.loop-k.left + digit * 2 ^ (2 * (v - (k + 1))) =
    c.with_digit-left.ensures ∙ ap (λ n. c.loop-k.left + n * 2 ^ (2 * (v - (k + 1)))) c.digit.ensures.value in
    let next = picked_next all c.args.marks k places c.loop-k-test.true in
    let len : v ≡ length places = omega (arith, c.len-count.ensures, c.deref-place-items.ensures.len, c.args.self.now.places.ok.0) in
    let same : digit * 2 ^ (2 * (v - (k + 1))) ≡ digit * 2 ^ (2 * (length places - (k + 1))) = ap (λ n. digit * 2 ^ (2 * (n - (k + 1)))) len in
    record {
      so_far = omega (arith, step, next, same, c.loop-k.invariant.so_far);
      before = (4 * b.0 + digit, step ∙ before_next c.loop-k.left k v b.0 (omega (arith, len, c.loop-k-test.true)) b.1 digit);
    }
