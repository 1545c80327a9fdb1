use Rattle.std.proofs.Common.{◌++◌, [], ◌∷◌, sym, ap, ◌∙◌}
use Rattle.output_graph.specs.Graph.{sets_of}
use Rattle.one_pass.proofs.KnownLaws.{sets_more}
use Rattle.one_pass.proofs.known.sets_in.Goals as goal

pub loop-k-preserved : goal.loop-k-preserved
loop-k-preserved c =
    c.in_ok-push.ensures.items
    ∙ (ap (λ xs. xs ++ c.set_at.result ∷ []) c.loop-k.invariant ∙ sym (sets_more (sets_of c.args.graph.now.layer) c.loop-k.k c.set_at.result c.set_at.ensures))
