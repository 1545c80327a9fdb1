use Rattle.std.proofs.Common.{◌≡◌, true, false, sym, ◌∙◌}
use Rattle.span_core.specs.Lists.{Has}
use Rattle.spanner_model.specs.Captures.{VarName}
use Rattle.spanner_model.proofs.GatheredLaws.{gathered_same}
use Rattle.functional_check.specs.Numbered.{members}
use Rattle.functional_check.proofs.NumberedLaws.{members_either}
use Rattle.functional_check.proofs.SureLaws.{own_name}
use Rattle.functional_check.proofs.checking.captured.Goals as goal

pub returns : goal.returns
returns c =
    let names = c.args.names.now in
    let name = c.args.name.now in
    let vars = members names c.args.vars in
    let own = members names c.of.result in
    let all = members names c.union.result in
    let absent : Has vars name → ⊥ = λ h. let t : false ≡ true = sym c.if-has.false ∙ c.has.ensures.1 h in absurd (cc) in (
      absent,
      gathered_same vars all (Has own) (λ (x : VarName). name ≡ x) true (own_name names own name c.of.ensures c.requires)
          (members_either names c.args.vars c.of.result c.union.result c.union.ensures),
    )
