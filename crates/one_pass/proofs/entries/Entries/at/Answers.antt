use Rattle.std.proofs.Common.{ap, sym, arith, if◌then◌else◌}
use Rattle.std.specs.Prelude.{slice_index_or}
use Rattle.one_pass.specs.declared.entries.Entry.TheVariants.{Unknown}
use Rattle.one_pass.specs.Entered.{entry_place}
use Rattle.one_pass.proofs.EntryLaws.{none_past}
use Rattle.one_pass.proofs.entries.Entries.at.Goals as goal

pub returns-then-len-layer : goal.returns-then-len-layer
returns-then-len-layer c =
    let s = c.args.self.now in
    let has = s.asked.ok.0 in
    sym (ap (λ v. if v then slice_index_or s.entered.items (entry_place s.classes.count s.classes.numbers c.args.layer c.args.byte) Unknown else
    Unknown) (none_past s.asked.items c.args.layer c.args.byte (omega arith)))
