use Rattle.std.proofs.Common.{◌*◌, arith}
use Rattle.std.specs.Result.{is_ok}
use Rattle.std.specs.Vec.{vec_len}
use Rattle.segment_filter.proofs.DenseLaws.{told_room}
use Rattle.segment_filter.proofs.told.Told.make_room.Goals as goal

pub returns : goal.returns
returns c = λ t told.
    let s = c.args.self.now in
    let has = s.entries.ok.0 in
    told_room t s.entries.items c.resize-room.new.self.items (256 * c.args.sets) (vec_len s.entries) (is_ok c.resize-room.result) c.resize-room.ensures.items (omega arith) told
