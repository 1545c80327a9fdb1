use Rattle.check_answers.proofs.examples.a_filter_leaves_the_answers_as_they_are.Given as goal

-- each counter's ledger is the one that is made for it
abbrev pub ghosts-rows_of : goal.ghosts-rows_of
ghosts-rows_of g a = record { name = a.blank.name; parts = a.blank.parts }
