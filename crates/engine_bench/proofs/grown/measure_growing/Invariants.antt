use Rattle.engine_bench.proofs.grown.measure_growing.Given as goal

abbrev pub ghosts-grow : goal.ghosts-grow
ghosts-grow a = record { name = a.blank.name; parts = a.blank.parts }
