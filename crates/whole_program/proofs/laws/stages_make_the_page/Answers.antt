use Rattle.whole_program.proofs.Headline as law
use Rattle.whole_program.proofs.laws.stages_make_the_page.Goals as goal

pub returns : goal.returns
returns c = law.headline
