use Rattle.std.proofs.Common.{◌≡◌, take}
use Rattle.serde_json.specs.View.{members_view}
use Rattle.row_writer.specs.JsonLines.{json_members}
use Rattle.row_writer.proofs.json_lines.json_object.Given as goal

abbrev pub invariant-loop-k : goal.invariant-loop-k
invariant-loop-k l = members_view l.members.entries ≡ json_members l.doc l.texts (take l.k l.vars) (take l.k l.row)
