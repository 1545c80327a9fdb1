use Rattle.std.proofs.Common.{arith}
use Rattle.spanner_model.proofs.GatheredLaws.{gathered_name}
use Rattle.spanner_model.proofs.gathering.gather_name.Goals as goal

pub returns : goal.returns
returns c =
    gathered_name c.args.name.now c.args.into.now c.add.new.self c.add.result c.len.ensures.ascending
    (omega (arith, c.len.ensures.value, c.len.ensures.few)) c.add.ensures.variant c.add.ensures.added c.add.ensures.kept
