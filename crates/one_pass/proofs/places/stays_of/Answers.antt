use Rattle.std.proofs.Common.{◌≡◌, ◌<◌, length, take, ap, subst, sym, arith, ◌∙◌}
use Rattle.std.proofs.Math.Seq.{take-length}
use Rattle.std.specs.Prelude.{IsTrue}
use Rattle.std.specs.FinSet as bytes
use Rattle.span_core.specs.Lists.{Has}
use Rattle.span_core.proofs.HasLaws.{Has-get_or}
use Rattle.output_graph.specs.Graph.{sources}
use Rattle.one_pass.specs.Layers.{no_source, source_at}
use Rattle.one_pass.proofs.Advancing.{stay_more}
use Rattle.one_pass.proofs.GraphLaws.{whole_count, whole_set}
use Rattle.one_pass.proofs.places.stays_of.Goals as goal

pub stays-requires : goal.stays-requires
stays-requires c =
    let within : c.loop-k.k < length c.args.graph.now.layer = omega arith in
    let s = whole_set c.args.graph.now c.requires.fresh c.loop-k.k c.set_at-set.result within c.set_at-set.ensures in
    subst (λ s. s < length c.args.table.now.sets) (sym s.1)
    (c.requires.given (source_at (sources c.args.graph.now) c.loop-k.k) (Has-get_or (sources c.args.graph.now) c.loop-k.k no_source s.0))

pub loop-k-preserved : goal.loop-k-preserved
loop-k-preserved c b small h =
    let within : c.loop-k.k < length c.args.graph.now.layer = omega arith in
    let s = whole_set c.args.graph.now c.requires.fresh c.loop-k.k c.set_at-set.result within c.set_at-set.ensures in
    stay_more c.args.table.now (sources c.args.graph.now) c.loop-k.k c.loop-k.stays c.stays.result s.0 c.set_at-set.result s.1
    c.loop-k.invariant (λ q less has. ((c.stays.ensures q).0 has).1) b small (subst (λ s. IsTrue (bytes.contains s b)) c.meet-stays.ensures h)

pub returns : goal.returns
returns c b small h x there =
    let count = whole_count c.args.graph.now c.requires.fresh in
    let all : c.loop-k.k ≡ length (sources c.args.graph.now) = omega arith in
    c.loop-k.invariant b small h x (subst (λ xs. Has xs x) (sym (ap (λ j. take j (sources c.args.graph.now)) all ∙ take-length (sources c.args.graph.now))) there)
