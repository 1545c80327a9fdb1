use Rattle.std.proofs.Common.{refl}
use Rattle.std.proofs.lemmas.Bool.{OnTrue_at, OnTrue_from}
use Rattle.span_core.specs.Lists.{Has}
use Rattle.marked_automaton.specs.declared.way.Way.{Way}
use Rattle.algebra.proofs.Alike.{Has-item}
use Rattle.algebra_minus.specs.Rights.{LeadsAs}
use Rattle.algebra_minus.proofs.covering.is_led.Goals as goal

pub returns : goal.returns
returns c =
    let ways = c.args.ways.now in
    let x = c.index-ways-place.result in
    OnTrue_from c.leads_as.result ((y : Way) × Has ways y × LeadsAs y c.args.way.now)
    (λ e. (x, Has-item ways ways _ x refl c.if-place-ways.false c.index-ways-place.is, OnTrue_at e c.leads_as.ensures))
