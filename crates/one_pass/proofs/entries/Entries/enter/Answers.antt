use Rattle.std.proofs.Common.{◌*◌, ◌∙◌, ap, arith, sym}
use Rattle.std.proofs.lemmas.List.{length-set}
use Rattle.one_pass.proofs.EntryLaws.{entered, entered_some}
use Rattle.one_pass.proofs.entries.Entries.enter.Goals as goal

pub invariant_of-self : goal.invariant_of-self
invariant_of-self c =
    let s = c.args.self.now in
    let asked = s.asked.ok.0 in
    let entered_ok = s.entered.ok.0 in
    let rows = ap (λ n. s.classes.count * n) (length-set s.asked.items c.args.layer c.union-asked.result) in
    record {
      room = omega (arith, s.room, rows, length-set s.entered.items c.place-place.result c.args.entry);
      some =
          entered_some s.asked.items s.entered.items s.classes.count s.classes.numbers c.args.layer c.args.byte c.args.entry c.place-place.result
          c.index.result.now c.index-2.result.now c.single.result c.union-asked.result
          (omega arith) c.place-place.ensures.value c.place-place.ensures.within c.index.ensures (c.is_room_for.ensures c.if-not-is_room_for.false)
          (sym c.is_entered.ensures ∙ c.if-not-is_entered.false) c.index-2.ensures c.single.ensures c.union-asked.ensures s.some;
    }

pub returns-clause-entered : goal.returns-clause-entered
returns-clause-entered c =
    let s = c.args.self.now in
    let asked = s.asked.ok.0 in
    entered s.asked.items s.entered.items s.classes.count s.classes.numbers c.args.layer c.args.byte c.args.entry c.place-place.result
    c.index.result.now c.index-2.result.now c.single.result c.union-asked.result
    (omega arith) c.place-place.ensures.value c.place-place.ensures.within c.index.ensures (c.is_room_for.ensures c.if-not-is_room_for.false)
    (sym c.is_entered.ensures ∙ c.if-not-is_entered.false) c.index-2.ensures c.single.ensures c.union-asked.ensures s.some
