use Rattle.check_automata.proofs.filter.parts_touched.Given as goal

abbrev pub ghosts-touched_by : goal.ghosts-touched_by
ghosts-touched_by a = record { name = a.blank.name; parts = a.blank.parts }
