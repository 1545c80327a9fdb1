use Rattle.check_readings.proofs.repeated.kept_of_letters.Given as goal

abbrev pub ghosts-kept_of : goal.ghosts-kept_of
ghosts-kept_of a = record { name = a.blank.name; parts = a.blank.parts }
