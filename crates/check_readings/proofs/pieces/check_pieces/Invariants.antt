use Rattle.check_readings.proofs.pieces.check_pieces.Given as goal

abbrev pub ghosts-words_in_pieces : goal.ghosts-words_in_pieces
ghosts-words_in_pieces a = record { name = a.blank.name; parts = a.blank.parts }
