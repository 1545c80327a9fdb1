use Rattle.std.proofs.Common.{Bool, List, subst, sym}
use Rattle.one_pass.specs.Flags.{AreTold}
use Rattle.one_pass.specs.Settling.{IsSettledBy}
use Rattle.one_pass.proofs.Flagged.{kept_ready, settled_so}
use Rattle.one_pass.proofs.pass.Pass.settle.Goals as goal

pub returns-clause-settled : goal.returns-clause-settled
returns-clause-settled g c =
    let e = c.in_ok-lists.ensures in
    let of_flags : List Bool → Type 0 = λ flags. AreTold (IsSettledBy c.args.unspent.now c.args.lasting.now) c.args.table.now c.args.self.now.graph flags in
    let told = subst of_flags (sym c.deref.ensures.value) c.in_ok-settled.ensures.told in
    settled_so c.requires.goes_on.ready told e.kept e.listed e.order c.settle_layer.ensures.steps

pub returns-clause-goes_on : goal.returns-clause-goes_on
returns-clause-goes_on g c = record {
  ready = kept_ready c.requires.goes_on.ready c.in_ok-lists.ensures.kept;
  known = c.requires.goes_on.known;
  waits = c.requires.goes_on.waits;
}
