use Rattle.check_answers.proofs.examples.a_row_may_end_where_the_document_does.Given as goal

-- each counter's ledger is the one that is made for it
abbrev pub ghosts-rows_of : goal.ghosts-rows_of
ghosts-rows_of g a = record { name = a.blank.name; parts = a.blank.parts }
