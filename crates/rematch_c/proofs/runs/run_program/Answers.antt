use Rattle.std.proofs.Common.{rules, ◌⊎◌, inl, inr, ◌<◌, length}
use Rattle.rm_outside.specs.MemorySink.{written_of}
use Rattle.rematch_c.proofs.RunLaws.{copied, ended_no_room, ended_other, ended_want, ended_whole, nothing_in, untouched}
use Rattle.rematch_c.proofs.runs.run_program.Goals as goal
use Rattle.rematch_c.proofs.runs.run_program.Goals.{then-row_bytes-row_room-via-then-row_bytes-row_room, then-row_bytes-row_room-via-else-row_bytes-row_room+then-note_bytes-note_room}

pub returns-in_default : goal.returns-in_default
returns-in_default c =
    ended_other c.args.held.now c.args.input.now _ c.in_default.not-Run (untouched c.args.rows.now c.args.notes.now c.args.written.now c.requires.rows c.requires.notes)

pub returns-in_default-run : goal.returns-in_default-run
returns-in_default-run c =
    ended_want c.args.held.now c.in-Run.run' c.replace-given.new.dest c.args.input.now _ c.in-Run.is
    (nothing_in c.new.result c.replace-given.new.dest c.replace-given.ensures.after c.new.ensures.words c.new.ensures.documents)
    (untouched c.args.rows.now c.args.notes.now c.args.written.now c.requires.rows c.requires.notes)

pub returns-then-row_bytes-row_room : goal.returns-then-row_bytes-row_room
returns-then-row_bytes-row_room c =
    let room : (length c.args.rows.now < length (written_of c.in-Ok.ended.rows)) ⊎ (length c.args.notes.now < length (written_of c.in-Ok.ended.notes)) =
    elim c.then-row_bytes-row_room.branch [
      | then-row_bytes-row_room-via-then-row_bytes-row_room w ↦ inl (search rules)
      | then-row_bytes-row_room-via-else-row_bytes-row_room+then-note_bytes-note_room w ↦ inr (search rules)
    ] in
    ended_no_room c.args.held.now c.in-Run.run' c.replace-given.new.dest c.args.input.now _ c.in-Run.is
    (nothing_in c.new.result c.replace-given.new.dest c.replace-given.ensures.after c.new.ensures.words c.new.ensures.documents)
    c.replace-given.result _ _ c.in-Ok.ended.status c.replace-given.ensures.value c.in-Ok.ensures room
    (untouched c.args.rows.now c.args.notes.now c.args.written.now c.requires.rows c.requires.notes)

pub returns : goal.returns
returns c =
    ended_whole c.args.held.now c.in-Run.run' c.replace-given.new.dest c.args.input.now _ c.in-Run.is
    (nothing_in c.new.result c.replace-given.new.dest c.replace-given.ensures.after c.new.ensures.words c.new.ensures.documents)
    c.replace-given.result _ _ c.in-Ok.ended.status c.replace-given.ensures.value c.in-Ok.ensures
    (copied (written_of c.in-Ok.ended.rows) c.args.rows.now c.put_front.new.to (written_of c.in-Ok.ended.notes) c.args.notes.now c.put_front-2.new.to c.bytes-row_bytes.result.now
    c.bytes-note_bytes.result.now c.bytes-row_bytes.ensures c.bytes-note_bytes.ensures c.put_front.ensures c.put_front-2.ensures)
