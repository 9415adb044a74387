use Rattle.part_tests.proofs.runs.bare_plans.Given as goal

abbrev pub ghosts-ident_with : goal.ghosts-ident_with
ghosts-ident_with a = record { name = a.blank.name; parts = a.blank.parts }
