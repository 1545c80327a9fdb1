use Rattle.std.proofs.Common.{◌≤◌, ℕ, List, length, take, arith, subst, ap, ◌∙◌}
use Rattle.std.proofs.lemmas.List.{length-take-le}
use Rattle.one_pass.specs.Passes.{AllLeadBack}
use Rattle.one_pass.proofs.PathLaws.{front_of}
use Rattle.one_pass.proofs.waiting.Ahead.passed.Goals as goal

pub returns-clause-back : goal.returns-clause-back
returns-clause-back c =
    let bytes = c.args.bytes.now in
    let w = c.min.result in
    let over = c.passed_by-over.result in
    let front = ap (take over) c.split_at.ensures.front in
    let few : over ≤ w = omega (arith, c.passed_by-over.ensures.within, ap length c.split_at.ensures.front, length-take-le w bytes (omega (arith, c.min.ensures))) in
    subst (λ (d : List ℕ). AllLeadBack c.args.table.now c.args.graph.now d) (front ∙ front_of over w bytes few) c.passed_by-over.ensures.back
