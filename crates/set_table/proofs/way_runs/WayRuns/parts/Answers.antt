use Rattle.std.proofs.Common.{sym, subst}
use Rattle.std.specs.Prelude.{List}
use Rattle.set_table.specs.declared.parts.Part.{Part}
use Rattle.set_table.specs.Cut.{codes_at}
use Rattle.set_table.specs.Runs.{ArePartsOf}
use Rattle.set_table.proofs.PartLaws.{parts_found}
use Rattle.set_table.proofs.way_runs.WayRuns.parts.Goals as goal

pub returns-in-Some : goal.returns-in-Some
returns-in-Some c = λ ways indexed.
    subst (λ (ps : List Part). ArePartsOf ps (codes_at ways c.args.byte c.args.state)) (sym c.as_slice.ensures.value)
    (parts_found ways c.in-Some.parts.now.items c.args.state c.args.byte c.key_of.result c.ranges.byte.fits c.key_of.ensures
    (indexed.parts c.key_of.result c.in-Some.parts.now (sym c.in-Some.ensures.value)))
