use Rattle.check_readings.proofs.reading.check_reading.Given as goal

abbrev pub ghosts-words_read : goal.ghosts-words_read
ghosts-words_read a = record { name = a.blank.name; parts = a.blank.parts }
