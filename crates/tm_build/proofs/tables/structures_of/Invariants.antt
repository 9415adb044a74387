use Rattle.tm_build.proofs.tables.structures_of.Given as goal

abbrev pub ghosts-compile : goal.ghosts-compile
ghosts-compile a = record { name = a.blank.name; parts = a.blank.parts }
