use Rattle.packet_tests.proofs.shared_parameters.a_plan_is_shared_where_its_rows_are_the_same.Given as goal

abbrev pub ghosts-edits : goal.ghosts-edits
ghosts-edits g a = record { name = a.blank.name; parts = a.blank.parts }
