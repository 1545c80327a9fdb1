use Rattle.std.proofs.Common.{Bool, List, [], ◌∷◌, subst, sym, arith}
use Rattle.std.specs.Prelude.{if◌then◌else◌}
use Rattle.std.proofs.lemmas.Bool.{le-ltb}
use Rattle.one_pass.specs.Going.{PassReads, come}
use Rattle.one_pass.specs.Places.{ReadingPlace, rest_at}
use Rattle.one_pass.proofs.Faulting.{read_none}
use Rattle.one_pass.proofs.pass.Pass.skip.Goals as goal

pub returns-then-self-to-clause-read : goal.returns-then-self-to-clause-read
returns-then-self-to-clause-read g c =
    let t = c.args.table.now in
    let p = c.args.self.now in
    subst (λ (b : Bool). PassReads (let ps : List ReadingPlace = if b then rest_at p.at ∷ [] else [] in ps) t p c.args.steps.now t p c.args.steps.now)
    (sym (le-ltb p.at c.args.to (omega arith)))
    (record { read = read_none t.graph (come t p c.args.steps.now); goes_on = c.requires.goes_on })
