use Rattle.engine_bench.proofs.rows.measure_rows.Given as goal

abbrev pub ghosts-take_rows : goal.ghosts-take_rows
ghosts-take_rows a = record { name = a.blank.name; parts = a.blank.parts }
