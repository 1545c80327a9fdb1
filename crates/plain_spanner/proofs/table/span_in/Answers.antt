use Rattle.std.proofs.Common.{sym, arith}
use Rattle.std.proofs.lemmas.Option.{slice_get_within}
use Rattle.span_core.specs.Lists.{Has}
use Rattle.span_core.proofs.HasLaws.{Contains-Has}
use Rattle.spanner_model.proofs.NameLaws.{ascending-distinct}
use Rattle.spanner_model.proofs.RowLaws.{mapping_of-at, mapping_of-outside}
use Rattle.plain_spanner.proofs.table.span_in.Goals as goal

pub at-requires : goal.at-requires
at-requires c =
    let l = slice_get_within c.args.names.now c.in-Some.place c.args.name.now c.in-Some.ensures.some in omega (arith, l, c.requires)

pub returns-in-Some : goal.returns-in-Some
returns-in-Some c =
    sym (mapping_of-at c.args.names.now c.args.row.now c.in-Some.place c.args.name.now c.at.result (ascending-distinct c.args.names.now c.len.ensures.ascending) c.in-Some.ensures.some c.at.ensures)

pub returns-in-None : goal.returns-in-None
returns-in-None c =
    let out = λ (h : Has c.args.names.now c.args.name.now). c.in-None.ensures.none (Contains-Has c.args.names.now c.args.name.now h) in
    sym (mapping_of-outside c.args.names.now c.args.row.now c.args.name.now out)
