use Rattle.std.proofs.Common.{◌+◌, ◌-◌, length, ap}
use Rattle.byte_runs.proofs.InnerLaws.{ends_first, ends_nowhere}
use Rattle.byte_runs.proofs.inner.first_end.Goals as goal

pub returns-in-Some-clause-nowhere : goal.returns-in-Some-clause-nowhere
returns-in-Some-clause-nowhere c =
    ends_first c.args.text.now c.args.bytes.now c.in-Some.found (c.in-Some.found + (length c.needle.result.now - 1))
    (ap (λ xs. c.in-Some.found + (length xs - 1)) c.needle.ensures) c.requires c.in-Some.ensures

pub returns-in-None-clause-nowhere : goal.returns-in-None-clause-nowhere
returns-in-None-clause-nowhere c = ends_nowhere c.args.text.now c.args.bytes.now c.requires c.in-None.ensures
