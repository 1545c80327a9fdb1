use Rattle.std.proofs.Common.{refl, length-set}
use Rattle.set_table.proofs.StayingLaws.{gathered_at, gathered_elsewhere}
use Rattle.set_table.proofs.staying.Leading.add.Goals as goal

pub returns-in-Some-clause-gathered : goal.returns-in-Some-clause-gathered
returns-in-Some-clause-gathered c =
    let x = c.args.self.now in
    gathered_at c.args.members.now c.args.way.now x _ c.in-Some.place c.index.result.now c.union-bytes.result c.requires.order
    c.in-Some.ensures.some.0 c.in-Some.ensures.some.1 c.in-Some.ensures.some.2
    c.index.ensures c.union-bytes.ensures refl refl (length-set x.to_members.items c.in-Some.place c.union-bytes.result)

pub returns-in-None-clause-gathered : goal.returns-in-None-clause-gathered
returns-in-None-clause-gathered c = gathered_elsewhere c.args.members.now c.args.way.now c.args.self.now _ c.in-None.ensures.none refl c.union-self.ensures
