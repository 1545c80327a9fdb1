use Rattle.spanner_engine.proofs.beginning.begin.Goals as goal

pub returns-clause-left : goal.returns-clause-left
returns-clause-left g c =
    rw (← c.automaton.ensures.automaton)
    (rw (← c.query.ensures.query) c.begin_by.ensures.left)

pub returns-clause-fault : goal.returns-clause-fault
returns-clause-fault g c =
    rw (← c.query.ensures.query) c.begin_by.ensures.fault

pub returns-clause-weighs : goal.returns-clause-weighs
returns-clause-weighs g c =
    rw (← c.automaton.ensures.automaton)
    (rw (← c.query.ensures.query) c.begin_by.ensures.weighs)

pub returns-clause-atoms : goal.returns-clause-atoms
returns-clause-atoms g c =
    rw (← c.query.ensures.query) c.begin_by.ensures.atoms

pub returns-clause-steps : goal.returns-clause-steps
returns-clause-steps g c =
    rw (← c.query.ensures.query) c.begin_by.ensures.steps
