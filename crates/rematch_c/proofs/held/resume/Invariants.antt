use Rattle.rematch_c.proofs.held.resume.Given as goal

abbrev pub ghosts-resume : goal.ghosts-resume
ghosts-resume a = record { name = a.blank.name; parts = a.blank.parts }
