use Rattle.std.proofs.Common.{List, ◌++◌, subst}
use Rattle.marked_automaton.specs.declared.way.Way.{Way}
use Rattle.set_table.specs.Staying.{AreGathered}
use Rattle.set_table.proofs.staying.Leading.add_state.Goals as goal

pub returns-then-ways-le-FEW_WAYS-clause-gathered : goal.returns-then-ways-le-FEW_WAYS-clause-gathered
returns-then-ways-le-FEW_WAYS-clause-gathered c = λ before g.
    subst (λ (ys : List Way). AreGathered c.args.members.now (before ++ ys) c.add_all.new.self) c.ways_from-ways.ensures (c.add_all.ensures.gathered before g)

pub returns-in-Some-clause-gathered : goal.returns-in-Some-clause-gathered
returns-in-Some-clause-gathered c = λ before g.
    subst (λ (ys : List Way). AreGathered c.args.members.now (before ++ ys) c.add_runs.new.self) c.ways_from-ways.ensures (c.add_runs.ensures.gathered before g)

pub returns-in-None-clause-gathered : goal.returns-in-None-clause-gathered
returns-in-None-clause-gathered c = λ before g.
    subst (λ (ys : List Way). AreGathered c.args.members.now (before ++ ys) c.add_all-in-None.new.self) c.ways_from-ways.ensures (c.add_all-in-None.ensures.gathered before g)
