use Rattle.one_pass.proofs.known.Known.stand.Goals as goal

pub returns-in-Some-clause-known : goal.returns-in-Some-clause-known
returns-in-Some-clause-known c = c.locate.ensures.keeps c.args.table.now c.requires.known

pub returns-clause-known : goal.returns-clause-known
returns-clause-known c = c.locate.ensures.keeps c.args.table.now c.requires.known
