use Rattle.std.proofs.Common.{◌≤◌, ◌-◌, length, take}
use Rattle.one_pass.specs.Numbered.{IsAhead}
use Rattle.one_pass.proofs.pass.Pass.look_ahead.Given as goal

abbrev pub invariant-loop-outlook : goal.invariant-loop-outlook
invariant-loop-outlook l = record {
  ahead : IsAhead l.bytes l.table l.layer l.self (take l.outlook.count l.planned) l.outlook.layer l.outlook.bytes;
  within : l.outlook.bytes ≤ length l.bytes;
  noted : l.outlook.count ≤ length l.planned;
}

abbrev pub decreases-loop-outlook : goal.decreases-loop-outlook
decreases-loop-outlook l = length l.bytes - l.outlook.bytes
