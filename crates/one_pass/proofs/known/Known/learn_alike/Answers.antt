use Rattle.std.proofs.Common.{sym, subst, arith}
use Rattle.one_pass.specs.Known.{AreAlike, IsEntry, layer_at}
use Rattle.one_pass.proofs.KnownLaws.{entry_alike}
use Rattle.one_pass.proofs.known.Known.learn_alike.Goals as goal

pub enter-requires-clause-entry : goal.enter-requires-clause-entry
enter-requires-clause-entry c =
    let s = c.args.self.now in
    let sets = layer_at s.layers c.args.layer in
    let alike : AreAlike c.args.table.now c.args.byte c.args.other sets = subst (AreAlike c.args.table.now c.args.byte c.args.other) c.at.ensures (c.are_alike.ensures c.if-are_alike.true) in
    subst (λ e. IsEntry c.args.table.now s.layers s.steps c.args.byte sets e) (sym c.at-entry.ensures)
    (entry_alike c.args.table.now s.layers s.steps c.args.byte c.args.other sets _ alike (c.requires.known.each c.args.layer c.args.other (omega (arith, c.ranges.other.fits))))
