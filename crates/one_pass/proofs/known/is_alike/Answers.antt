use Rattle.std.proofs.Common.{◌&&◌}
use Rattle.std.specs.Prelude.{◌==◌}
use Rattle.std.proofs.lemmas.Slice.Eq.{slice_eq-Decides}
use Rattle.one_pass.proofs.KnownLaws.{alike_is, same_edge}
use Rattle.one_pass.proofs.known.is_alike.Goals as goal

pub returns-in-Some-asked_row : goal.returns-in-Some-asked_row
returns-in-Some-asked_row c = λ yes s h.
    let asked = c.in-Some.ensures in
    let same = slice_eq-Decides {E = λ a b. (a.marks == b.marks) && (a.to == b.to)} same_edge c.in-Some.edges.now c.in-Some-asked_row.others.now c.eq.result c.eq.ensures in
    alike_is c.args.table.now c.args.set c.args.byte c.args.other s c.in-Some.edges.now c.in-Some-asked_row.others.now asked.some asked.asked c.in-Some-asked_row.ensures.some.1 (same.0 yes) h
