use Rattle.std.proofs.Common.{ℕ}
use Rattle.std.specs.Prelude.{◌/◌, ◌%◌}
use Rattle.std.specs.Global.{Vec}
use Rattle.set_table.specs.Cut.{codes_at}
use Rattle.set_table.specs.declared.parts.Part.{Part}
use Rattle.set_table.specs.Runs.{ArePartsOf}
use Rattle.set_table.proofs.PartLaws.{kept_more, parts_at}
use Rattle.set_table.proofs.way_runs.WayRuns.keep.Goals as goal

pub returns-in-Ok : goal.returns-in-Ok
returns-in-Ok c = λ ways indexed is. record {
  runs = indexed.runs;
  parts = kept_more c.insert-kept.result c.args.self.now.of_bytes c.insert-kept.new.self c.key_of.result
      c.in-Ok.parts (λ (k : ℕ) (parts : Vec Part). ArePartsOf parts.items (codes_at ways (k % 256) (k / 256))) c.insert-kept.ensures.updates c.insert-kept.ensures.err
      indexed.parts (parts_at ways c.in-Ok.parts.items c.args.codes.now c.args.state c.args.byte c.key_of.result c.ranges.byte.fits c.key_of.ensures is c.in-Ok.ensures);
}
