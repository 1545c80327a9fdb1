use Rattle.rematch_c.proofs.held.open.Given as goal

abbrev pub ghosts-read : goal.ghosts-read
ghosts-read a = record { name = a.blank.name; parts = a.blank.parts }
