use Rattle.std.proofs.Common.{sym, subst, ◌∙◌, arith}
use Rattle.one_pass.specs.Known.{Stands}
use Rattle.one_pass.proofs.Running.{stay_reads}
use Rattle.one_pass.proofs.pass.Pass.read_named.Goals as goal

pub returns-then-contains-clause-read : goal.returns-then-contains-clause-read
returns-then-contains-clause-read g c =
    let stands = subst (λ o. Stands c.args.table.now c.args.self.now.graph c.args.self.now.known o) c.in-None.is c.requires.stands in
    stay_reads c.requires.goes_on (stands c.args.byte (omega (arith, c.ranges.byte.fits)) (sym c.contains.ensures ∙ c.if-contains.true))
