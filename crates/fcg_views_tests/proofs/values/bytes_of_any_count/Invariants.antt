use Rattle.fcg_views_tests.proofs.values.bytes_of_any_count.Given as goal

abbrev pub ghosts-bytes_of_count : goal.ghosts-bytes_of_count
ghosts-bytes_of_count a = record { name = a.blank.name; parts = a.blank.parts }
