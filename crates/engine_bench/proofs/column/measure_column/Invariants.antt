use Rattle.engine_bench.proofs.column.measure_column.Given as goal

abbrev pub ghosts-open_apart : goal.ghosts-open_apart
ghosts-open_apart a = record { name = a.blank.name; parts = a.blank.parts }

abbrev pub ghosts-open_kept : goal.ghosts-open_kept
ghosts-open_kept a = record { name = a.blank.name; parts = a.blank.parts }
