use Rattle.check_readings.proofs.chains.chains_are_freed.Given as goal

abbrev pub ghosts-all_hold : goal.ghosts-all_hold
ghosts-all_hold a = record { name = a.blank.name; parts = a.blank.parts }
