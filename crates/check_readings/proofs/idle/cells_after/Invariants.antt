use Rattle.check_readings.proofs.idle.cells_after.Given as goal

abbrev pub ghosts-live_cells : goal.ghosts-live_cells
ghosts-live_cells a = record { name = a.blank.name; parts = a.blank.parts }
