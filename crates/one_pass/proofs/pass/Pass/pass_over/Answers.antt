use Rattle.std.proofs.Common.{◌≡◌, ◌+◌, ◌-◌, List, ℕ, take, drop, arith, subst}
use Rattle.one_pass.specs.Passes.{AllLeadBack}
use Rattle.one_pass.proofs.pass.Pass.pass_over.Goals as goal

pub returns-clause-back : goal.returns-clause-back
returns-clause-back c =
    let t = c.args.table.now in
    let g = c.args.self.now.graph in
    let i = c.args.i in
    let over = c.bytes_over-over.result in
    let same : over ≡ (i + over) - i = omega arith in
    subst (λ (n : ℕ). AllLeadBack t g (take n (drop i c.args.piece.now))) same
    (subst (λ (xs : List ℕ). AllLeadBack t g (take over xs)) c.split_at.ensures.back c.bytes_over-over.ensures.back)
