use Rattle.std.proofs.Common.{◌++◌, subst, take}
use Rattle.std.proofs.lemmas.List.{take_all}
use Rattle.set_table.specs.Staying.{AreGathered}
use Rattle.set_table.proofs.StayingLaws.{gathered_more}
use Rattle.set_table.proofs.staying.Leading.add_all.Goals as goal

pub loop-way-preserved : goal.loop-way-preserved
loop-way-preserved c =
    let ways = c.args.ways.now in
    let i = c.loop-way.way-index in (
      c.add.ensures.count,
      λ before g. gathered_more c.args.members.now ways before i c.way-item.result _ c.loop-way-test.true c.way-item.is
          (c.add.ensures.gathered (before ++ take i ways) (c.loop-way.invariant.1 before g)),
    )

pub returns-clause-gathered : goal.returns-clause-gathered
returns-clause-gathered c = λ before g.
    subst (λ ws. AreGathered c.args.members.now (before ++ ws) c.loop-way.self) (take_all c.loop-way.way-index c.args.ways.now c.loop-way-test.false) (c.loop-way.invariant.1 before g)
