use Rattle.whole_program.proofs.serving_tests.two_of_three_requests.Given as goal

abbrev pub ghosts-serves : goal.ghosts-serves
ghosts-serves g a = record { name = a.blank.name; parts = a.blank.parts }
