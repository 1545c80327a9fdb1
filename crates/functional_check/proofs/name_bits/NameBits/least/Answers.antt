use Rattle.std.proofs.Common.{◌≡◌, ◌^◌, ◌<◌, ap, arith, w32}
use Rattle.std.specs.Int.{bit_at, trailing_zeros}
use Rattle.std.proofs.lemmas.Nat.Bits.{bit_at-zero, bit_at-trailing_zeros}
use Rattle.functional_check.proofs.NumberedLaws.{least_number, members_none, none_numbered}
use Rattle.functional_check.proofs.name_bits.NameBits.least.Goals as goal

pub returns-then-self-eq0 : goal.returns-then-self-eq0
returns-then-self-eq0 c =
    let bits = c.args.self.bits in
    let zero : bits ≡ 0 = omega arith in
    members_none c.args.names.now c.args.self (λ k h. absurd (omega (arith, ap (λ n. bit_at n k) zero, bit_at-zero k, h)))

pub returns-then-number-len : goal.returns-then-number-len
returns-then-number-len c =
    let bits = c.args.self.bits in
    let some : 0 < bits = omega arith in
    let fits : bits < 2 ^ 32 = omega arith in
    let low = bit_at-trailing_zeros w32 bits some fits in
    least_number c.args.names.now c.args.self (trailing_zeros w32 bits) c.at.result.now c.len.ensures.ascending c.at.ensures.value low.1 low.2

pub returns-else-number-len : goal.returns-else-number-len
returns-else-number-len c =
    let bits = c.args.self.bits in
    let some : 0 < bits = omega arith in
    let fits : bits < 2 ^ 32 = omega arith in
    let low = bit_at-trailing_zeros w32 bits some fits in
    none_numbered c.args.names.now c.args.self (trailing_zeros w32 bits) (omega arith) low.2
