use Rattle.std.proofs.Common.{rules, arith, ◌≡◌, length}
use Rattle.known_tests.proofs.LuhnLaws.{none_left}
use Rattle.known_tests.proofs.relations.last_digit_of_sum.Goals as goal

pub returns : goal.returns
returns c =
    let empty : length c.loop-last.rest.now ≡ 0 = search rules in
    omega (arith, none_left c.loop-last.double c.loop-last.rest.now empty, c.loop-last.invariant.0, c.loop-last.invariant.1)
