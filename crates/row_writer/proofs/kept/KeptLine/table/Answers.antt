use Rattle.std.proofs.Common.{◌<◌, ◌+◌, length, [], drop, ap, ◌∙◌, get_or, arith}
use Rattle.std.proofs.lemmas.List.{drop_more}
use Rattle.row_writer.specs.Kept.{heads_of, table_heads}
use Rattle.row_writer.proofs.Keeping.{heads_append, tabs_more}
use Rattle.row_writer.proofs.kept.KeptLine.table.Goals as goal

pub loop-k-preserved : goal.loop-k-preserved
loop-k-preserved c =
    let k = c.loop-k._k in
    let vars = c.args.vars.now in
    let field = c.tabbed-in-loop-k.result in
    let l : k < length vars = omega arith in
    tabs_more (heads_of c.loop-k.fields.items) field.head (get_or vars k []) (drop k vars) (drop (k + 1) vars) (table_heads vars) (heads_of c.push-in-loop-k.new.self.items)
    (drop_more vars k [] l) c.tabbed-in-loop-k.ensures.later (ap heads_of c.in_ok-push-2.ensures.items ∙ heads_append c.loop-k.fields.items field) c.loop-k.invariant
