use Rattle.one_pass.proofs.known.Known.locate.Goals as goal

pub returns-in-Ok-clause-keeps : goal.returns-in-Ok-clause-keeps
returns-in-Ok-clause-keeps c = λ t known. c.number.ensures.keeps t (c.begin.ensures.keeps t known)
