use Rattle.std.proofs.Common.{◌∷◌, ◌++◌, [], ℕ, List, get_or, ap, ◌∙◌, refl, arith}
use Rattle.output_graph.specs.Forward.{Layer}
use Rattle.output_graph.proofs.CopyLaws.{paired_more, paired_all}
use Rattle.output_graph.proofs.registers.pairs_of.Goals as goal

pub loop-k-preserved : goal.loop-k-preserved
loop-k-preserved c =
    let k = c.loop-k.k in
    let pairs : Layer = c.args.pairs.now in
    let cells : List ℕ = c.args.cells.now in
    let p = c.index-pairs-k.result in
    let d = c.index-cells-k.result in
    c.in_ok-push.ensures.items
    ∙ (ap (λ (xs : Layer). xs ++ ((get_or pairs k p).0, d) ∷ []) c.loop-k.invariant
    ∙ paired_more pairs cells k (get_or pairs k p).0 d d p c.loop-k-test.true c.requires refl c.index-cells-k.is)

pub returns : goal.returns
returns c =
    let low = c.loop-k-test.false in
    let high = c.loop-k.auto.k-end in
    c.loop-k.invariant ∙ paired_all c.args.pairs.now c.args.cells.now c.loop-k.k (omega arith) c.requires
