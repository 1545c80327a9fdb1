use Rattle.std.proofs.Common.{◌≡◌, ◌<◌, ◌+◌, ◌%◌, false, reverse, length}
use Rattle.known_tests.specs.Relations.{luhn_sum}
use Rattle.known_tests.proofs.relations.last_digit_of_sum.Given as goal

abbrev pub invariant-loop-last : goal.invariant-loop-last
invariant-loop-last l = (l.sum < 10) × (luhn_sum false (reverse l.fn.digits) % 10 ≡ (l.sum + luhn_sum l.double (reverse l.rest)) % 10)

abbrev pub decreases-loop-last : goal.decreases-loop-last
decreases-loop-last l = length l.rest
