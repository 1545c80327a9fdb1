use Rattle.std.proofs.Common.{Bool, ◌↔◌}
use Rattle.std.specs.Prelude.{IsTrue}
use Rattle.span_core.specs.Lists.{Has}
use Rattle.plain_spanner.proofs.JoinLaws.{found_has}
use Rattle.plain_spanner.proofs.join.has_name.Goals as goal

pub returns : goal.returns
returns c =
    rw c.is_some.ensures (found_has c.args.names.now c.args.name.now c.find.result c.find.ensures.some c.find.ensures.none)
