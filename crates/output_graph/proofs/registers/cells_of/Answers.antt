use Rattle.std.proofs.Common.{◌∷◌, ◌++◌, [], ℕ, List, ap, ◌∙◌}
use Rattle.output_graph.proofs.CopyLaws.{cells_more}
use Rattle.output_graph.proofs.registers.cells_of.Goals as goal

pub loop-pair-preserved : goal.loop-pair-preserved
loop-pair-preserved c =
    c.in_ok-push.ensures.items
    ∙ (ap (λ (xs : List ℕ). xs ++ c.pair-item.result.1 ∷ []) c.loop-pair.invariant
    ∙ cells_more c.args.pairs.now c.loop-pair.pair-index c.pair-item.result c.loop-pair-test.true c.pair-item.is)
