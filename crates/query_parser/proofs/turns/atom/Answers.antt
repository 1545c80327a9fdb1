use Rattle.std.proofs.Common.{◌≡◌, ◌+◌, ◌-◌, arith, ap}
use Rattle.spanner_model.proofs.ExprTrees.{expr_of-Atom}
use Rattle.spanner_model.specs.View.{atom_of}
use Rattle.query_parser.specs.Nest.{with_unit}
use Rattle.query_parser.specs.View.{nest_of}
use Rattle.formula_parser.specs.Spells.{IsAtomAt}
use Rattle.formula_parser.proofs.AtomLaws.{atom_ends}
use Rattle.query_parser.proofs.turns.atom.Goals as goal

pub returns-in-Ok : goal.returns-in-Ok
returns-in-Ok c =
    let a = atom_of c.in-Ok.atom in
    let found : IsAtomAt c.args.text.now c.args.at (a, c.in-Ok.after) = c.in-Ok.ensures.found in
    let is : c.args.at + (c.in-Ok.after - c.args.at) ≡ c.in-Ok.after = omega (arith, (atom_ends c.args.text.now c.args.at (a, c.in-Ok.after) found).moves) in
    (a, rw is found, ap (λ e. with_unit e (nest_of c.args.nest.now)) (expr_of-Atom c.in-Ok.atom))
