use Rattle.std.proofs.Common.{arith}
use Rattle.plain_spanner.proofs.JoinLaws.{name_added}
use Rattle.plain_spanner.proofs.join.add_name.Goals as goal

pub returns : goal.returns
returns c =
    name_added c.args.name.now c.args.into.now c.add.new.self c.add.result c.len.ensures.ascending
    (omega (arith, c.len.ensures.few, c.len.ensures.value)) c.add.ensures.variant c.add.ensures.added c.add.ensures.kept c.requires
