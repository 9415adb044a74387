use Rattle.folder_edition.proofs.folder.book_edition.Given as goal

abbrev pub ghosts-compile : goal.ghosts-compile
ghosts-compile a = record { name = a.blank.name; parts = a.blank.parts }
