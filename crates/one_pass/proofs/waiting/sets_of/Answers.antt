use Rattle.std.proofs.Common.{◌<◌, length, arith, subst, sym}
use Rattle.span_core.proofs.HasLaws.{Has-get_or}
use Rattle.output_graph.specs.Graph.{sources}
use Rattle.one_pass.specs.Layers.{no_source, source_at}
use Rattle.one_pass.proofs.GraphLaws.{whole_set}
use Rattle.one_pass.proofs.waiting.sets_of.Goals as goal

pub members-requires : goal.members-requires
members-requires c =
    let within : c.loop-k.k < length c.args.graph.now.layer = omega arith in
    let s = whole_set c.args.graph.now c.requires.fresh c.loop-k.k c.set_at.result within c.set_at.ensures in
    subst (λ s. s < length c.args.table.now.sets) (sym s.1)
    (c.requires.given (source_at (sources c.args.graph.now) c.loop-k.k) (Has-get_or (sources c.args.graph.now) c.loop-k.k no_source s.0))
