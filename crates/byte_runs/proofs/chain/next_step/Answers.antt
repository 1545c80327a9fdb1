use Rattle.std.proofs.Common.{arith}
use Rattle.byte_runs.proofs.chain.next_step.Goals as goal

pub returns-in-Some-clause-none : goal.returns-in-Some-clause-none
returns-in-Some-clause-none c j late less fits keep =
    c.in-Some.ensures.before j late less (c.requires.ladder c.args.bytes.now j (λ i. let f = c.type_inv.bytes i in omega (arith, f)) fits keep)

pub returns-in-None-clause-none : goal.returns-in-None-clause-none
returns-in-None-clause-none c j late less fits keep =
    c.in-None.ensures j late (omega (arith, less)) (c.requires.ladder c.args.bytes.now j (λ i. let f = c.type_inv.bytes i in omega (arith, f)) fits keep)
