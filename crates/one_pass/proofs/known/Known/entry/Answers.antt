use Rattle.std.proofs.Common.{sym, subst, arith}
use Rattle.one_pass.specs.Known.{IsEntry, layer_at}
use Rattle.one_pass.proofs.known.Known.entry.Goals as goal

pub returns : goal.returns
returns c = λ t known.
    let s = c.args.self.now in
    subst (λ e. IsEntry t s.layers s.steps c.args.byte (layer_at s.layers c.args.layer) e) (sym c.at.ensures) (known.each c.args.layer c.args.byte (omega (arith, c.ranges.byte.fits)))
