use Rattle.std.proofs.Common.{◌≡◌, ◌∷◌, take, map}
use Rattle.spanner_model.specs.Tree.{one}
use Rattle.spanner_model.specs.View.{trees_of}
use Rattle.formula_parser.specs.Sets.{single}
use Rattle.formula_parser.proofs.reader.bytes.Given as goal

abbrev pub invariant-loop-b : goal.invariant-loop-b
invariant-loop-b l = trees_of l.parts ≡ map (λ b. one (single b)) (l.first ∷ take l.b-index l.others)
