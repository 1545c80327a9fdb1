use Rattle.std.proofs.lemmas.Bool.{false≢true}
use Rattle.std.proofs.Common.{Some, rules, length}
use Rattle.rm_outside.specs.MemorySink.{written_of, taken_by}
use Rattle.rm_outside.proofs.Known.{part_of}
use Rattle.rm_outside.proofs.memory_sink.MemorySinkSink.put.Goals as goal
use Rattle.rm_outside.proofs.memory_sink.MemorySinkSink.put.Goals.{else-is_none-via-then-is_none+else-bytes-room, else-is_none-via-else-is_none}

pub returns-clause-part : goal.returns-clause-part
returns-clause-part c =
    part_of (Some (written_of c.args.self.now)) (Some c.extend_from_slice.new.self.items) (taken_by c.args.self.now (length c.args.bytes.now)) c.args.bytes.now
    (search rules)

pub returns-clause-succeeds : goal.returns-clause-succeeds
returns-clause-succeeds c = (
  λ e. absurd (false≢true e),
  λ both. elim c.else-is_none.branch [
    | else-is_none-via-then-is_none+else-bytes-room w ↦
        absurd (search rules)
    | else-is_none-via-else-is_none w ↦ absurd (search rules)
  ],
)
