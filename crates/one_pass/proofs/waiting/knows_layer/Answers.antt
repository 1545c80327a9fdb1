use Rattle.std.proofs.Common.{◌≡◌, ◌<◌, length, take, ap, inl, inr, arith, subst, sym, ◌∙◌}
use Rattle.std.proofs.Math.Seq.{take-length}
use Rattle.span_core.specs.Lists.{Has}
use Rattle.span_core.proofs.HasLaws.{Has-get_or, Has-take_more_cases}
use Rattle.output_graph.specs.Graph.{Source, sources}
use Rattle.numbered_lists.specs.Numbered.{set_at}
use Rattle.way_exits.specs.Exits.{Knows}
use Rattle.one_pass.specs.Layers.{no_source, source_at}
use Rattle.one_pass.proofs.GraphLaws.{whole_count, whole_set}
use Rattle.one_pass.proofs.waiting.knows_layer.Goals as goal

pub members-requires : goal.members-requires
members-requires c =
    let within : c.loop-k.k < length c.args.graph.now.layer = omega arith in
    let s = whole_set c.args.graph.now c.requires.fresh c.loop-k.k c.set_at.result within c.set_at.ensures in
    subst (λ s. s < length c.args.table.now.sets) (sym s.1)
    (c.requires.given (source_at (sources c.args.graph.now) c.loop-k.k) (Has-get_or (sources c.args.graph.now) c.loop-k.k no_source s.0))

pub loop-k-preserved : goal.loop-k-preserved
loop-k-preserved c x h =
    let within : c.loop-k.k < length c.args.graph.now.layer = omega arith in
    let s = whole_set c.args.graph.now c.requires.fresh c.loop-k.k c.set_at.result within c.set_at.ensures in
    let sets = c.args.table.now.sets in
    elim (Has-take_more_cases (sources c.args.graph.now) c.loop-k.k no_source x s.0 h) as (λ _. Knows c.args.waiting.now (set_at sets x.set)) [
      | inl old ↦ c.loop-k.invariant x old
      | inr e ↦
          subst (Knows c.args.waiting.now) (c.members.ensures.members ∙ ap (set_at sets) (s.1 ∙ ap (λ (y : Source). y.set) e)) (c.knows.ensures c.if-not-knows.false)
    ]

pub returns : goal.returns
returns c is x h =
    let count = whole_count c.args.graph.now c.requires.fresh in
    let all : c.loop-k.k ≡ length (sources c.args.graph.now) = omega arith in
    c.loop-k.invariant x (subst (λ xs. Has xs x) (sym (ap (λ j. take j (sources c.args.graph.now)) all ∙ take-length (sources c.args.graph.now))) h)
