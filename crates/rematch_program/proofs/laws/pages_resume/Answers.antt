use Rattle.rematch_program.proofs.ResumeLaws as law
use Rattle.rematch_program.proofs.laws.pages_resume.Goals as goal

pub returns : goal.returns
returns c = record { join = law.pages_resume; each_once = law.pages_give_each_once }
