use Rattle.std.proofs.Common.{arith}
use Rattle.one_pass.proofs.Advancing.{advanced_gives_up}
use Rattle.one_pass.proofs.NumberedLaws.{advanced_start}
use Rattle.one_pass.proofs.pass.Pass.read_first.Goals as goal

pub returns-then-bytes-eq0-clause-read : goal.returns-then-bytes-eq0-clause-read
returns-then-bytes-eq0-clause-read g c = record { advanced = advanced_start {n0 = c.args.steps.now} {bytes = c.args.bytes.now} c.requires.goes_on; stands = c.requires.stands; within = omega arith }

pub returns-in-Err-clause-given_up : goal.returns-in-Err-clause-given_up
returns-in-Err-clause-given_up g c = advanced_gives_up (advanced_start {n0 = c.args.steps.now} {bytes = c.args.bytes.now} c.requires.goes_on) (omega arith) c.in-Err.ensures.given_up
