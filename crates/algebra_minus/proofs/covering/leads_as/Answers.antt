use Rattle.std.proofs.Common.{sym, ◌∙◌}
use Rattle.std.proofs.lemmas.Bool.{OnTrue_from}
use Rattle.algebra_minus.specs.Rights.{LeadsAs}
use Rattle.algebra_minus.proofs.CoveringLaws.{has_all}
use Rattle.algebra_minus.proofs.covering.leads_as.Goals as goal

pub returns : goal.returns
returns c =
    let way = c.args.way.now in
    let other = c.args.other.now in
    OnTrue_from c.is_empty.result (LeadsAs way other) (λ e. record {
      marks = sym c.number.ensures ∙ (c.if-number.false ∙ c.number-2.ensures);
      to = c.if-way-other.false;
      bytes = has_all other.bytes way.bytes (sym c.without.ensures ∙ c.is_empty.ensures.0 e);
    })
