use Rattle.std.proofs.Common.{rules}
use Rattle.rematch_c.proofs.RowLaws.{no_span, other_length, so_far_more}
use Rattle.rematch_c.proofs.numbers.row_of.Goals as goal

pub returns-then-numbers-variables-clause-none : goal.returns-then-numbers-variables-clause-none
returns-then-numbers-variables-clause-none c = λ row is. other_length c.args.variables c.args.n c.args.numbers.now row (search rules) is

pub returns-in-None-clause-none : goal.returns-in-None-clause-none
returns-in-None-clause-none c = λ row is.
    no_span c.args.variables c.args.n c.args.numbers.now c.loop-k.k row _ _ c.loop-k-test.true (search rules) (search rules) c.in-None.ensures.none is

pub loop-k-preserved : goal.loop-k-preserved
loop-k-preserved c =
    so_far_more c.args.variables c.args.n c.args.numbers.now c.loop-k.k c.loop-k.row c.push.new.self c.in-Some.span _ _ c.loop-k.invariant c.loop-k-test.true (search rules) (search rules)
    (search rules) c.in-Some.ensures.some.0 c.in-Some.ensures.some.1 c.push.ensures
