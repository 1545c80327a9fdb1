use Rattle.std.proofs.Common.{◌≡◌, true, false, sym, ◌∙◌, arith}
use Rattle.spanner_model.specs.Captures.{VarName}
use Rattle.spanner_model.proofs.GatheredLaws.{gathered_name, gathered_all}
use Rattle.functional_check.proofs.names.add_one.Goals as goal

pub prove-unreachable-requires-2 : goal.prove-unreachable-requires-2
prove-unreachable-requires-2 c =
    let all = gathered_all c.args.into.now c.add-added.new.self (λ (x : VarName). c.args.name.now ≡ x) c.add-added.result c.requires
    (gathered_name c.args.name.now c.args.into.now c.add-added.new.self c.add-added.result c.len.ensures.ascending
    (omega (arith, c.len.ensures.value, c.len.ensures.few)) c.add-added.ensures.variant c.add-added.ensures.added c.add-added.ensures.kept) in
    let both : false ≡ true = sym c.if-prove-2.true ∙ all.0 in
    absurd (cc)

pub returns : goal.returns
returns c =
    (gathered_all c.args.into.now c.add-added.new.self (λ (x : VarName). c.args.name.now ≡ x) c.add-added.result c.requires
    (gathered_name c.args.name.now c.args.into.now c.add-added.new.self c.add-added.result c.len.ensures.ascending
    (omega (arith, c.len.ensures.value, c.len.ensures.few)) c.add-added.ensures.variant c.add-added.ensures.added c.add-added.ensures.kept)).1
