use Rattle.std.proofs.Common.{arith, length}
use Rattle.std.specs.Result.{is_ok}
use Rattle.std.specs.Vec.{vec_len}
use Rattle.one_pass.proofs.EntryLaws.{room_some, rows_room, same_sets}
use Rattle.one_pass.proofs.entries.Entries.make_room.Goals as goal

pub invariant_of-self : goal.invariant_of-self
invariant_of-self c =
    let s = c.args.self.now in
    let has = s.asked.ok.0 in
    let later = c.resize-asked.new.self.ok.0 in
    let same = same_sets s.asked.items c.resize-asked.new.self.items c.args.layers (vec_len s.asked) (is_ok c.resize-asked.result) c.empty.result
    c.resize-asked.ensures.items c.empty.ensures (omega arith) in
    record {
      room = rows_room s.classes.count (length s.asked.items) (length s.entered.items) (length c.widen.new.entered.items) c.args.layers
          (vec_len s.asked) (length c.resize-asked.new.self.items) (is_ok c.resize-asked.result)
          (omega (arith, c.resize-asked.ensures.len)) (omega arith) s.room c.widen.ensures.longer (c.widen.ensures.room c.if-widen.true);
      some = room_some s.asked.items c.resize-asked.new.self.items s.entered.items c.widen.new.entered.items s.classes.count s.classes.numbers s.classes.within s.room same c.widen.ensures.same s.some;
    }
