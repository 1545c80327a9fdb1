use Rattle.std.proofs.Common.{arith, ◌≡◌, ◌≢◌, ◌<◌, ◌≤◌, ℕ, List, [], length, take, false, refl, ap, length-take}
use Rattle.std.proofs.lemmas.Bool.Decides.{nat_tests}
use Rattle.rm_outside.proofs.LineLaws.{line_of, next_line, some_next}
use Rattle.rm_outside.proofs.memory_source.line_of.Goals as goal

pub returns-then-length-limit-clause-asks : goal.returns-then-length-limit-clause-asks
returns-then-length-limit-clause-asks c =
    let left = c.args.left.now in
    let none : c.is_empty.result ≡ false = c.if-is_empty.false in
    let is = c.is_empty.ensures in
    let some : left ≢ [] = λ e. (let zero : length left ≡ 0 = ap (λ (xs : List ℕ). length xs) e in grind (arith, nat_tests, none, is, zero)) in
    let next = some_next left some in
    let long : c.args.limit < length (line_of left) = omega (arith, c.if-length-limit.true, c.line_length-length.ensures.value) in
    (c.if-length-limit.true, (line_of left, next.0, next.1, long), refl)

pub returns-in-Ok-clause-asks : goal.returns-in-Ok-clause-asks
returns-in-Ok-clause-asks c =
    let left = c.args.left.now in
    let n = c.line_length-length.result in
    let none : c.is_empty.result ≡ false = c.if-is_empty.false in
    let is = c.is_empty.ensures in
    let some : left ≢ [] = λ e. (let zero : length left ≡ 0 = ap (λ (xs : List ℕ). length xs) e in grind (arith, nat_tests, none, is, zero)) in
    let from = c.from.ensures in
    let one : n < length left → c.from.result ≡ 1 = λ h. grind (arith, nat_tests, from, h) in
    let zero : ¬ (n < length left) → c.from.result ≡ 0 = λ h. grind (arith, nat_tests, from, h) in
    let few : length (take n left) ≤ c.args.limit = omega (arith, length-take n left, c.if-length-limit.false) in
    (take n left, few, c.in-Ok.ensures.items, next_line left n c.from.result some c.line_length-length.ensures.value one zero)
