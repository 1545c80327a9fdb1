use Rattle.std.proofs.Common.{◌+◌, drop, ap, ◌∙◌}
use Rattle.span_core.proofs.ListLaws.{at_drop}
use Rattle.row_writer.specs.Kept.{heads_of, spans_heads}
use Rattle.row_writer.proofs.Keeping.{heads_append, names_more}
use Rattle.row_writer.proofs.kept.KeptLine.spans.Goals as goal

pub loop-k-preserved : goal.loop-k-preserved
loop-k-preserved c =
    let k = c.loop-k.k in
    let vars = c.args.vars.now in
    let name = c.at-in-loop-k.result.now in
    let field = c.named-in-loop-k.result in
    names_more (heads_of c.loop-k.fields.items) field.head name (drop k vars) (drop (k + 1) vars) (spans_heads vars) (heads_of c.push-in-loop-k.new.self.items)
    (at_drop vars k name c.at-in-loop-k.ensures.value) c.named-in-loop-k.ensures.later (ap heads_of c.in_ok-push-2.ensures.items ∙ heads_append c.loop-k.fields.items field) c.loop-k.invariant
