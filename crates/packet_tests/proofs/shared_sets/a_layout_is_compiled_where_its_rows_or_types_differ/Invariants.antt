use Rattle.packet_tests.proofs.shared_sets.a_layout_is_compiled_where_its_rows_or_types_differ.Given as goal

abbrev pub ghosts-on_a_ledger : goal.ghosts-on_a_ledger
ghosts-on_a_ledger g a = record { name = a.blank.name; parts = a.blank.parts }
