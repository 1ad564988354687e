use Rattle.fcg_join_tests.proofs.outcomes.resolve_by_numbers.Given as goal

abbrev pub ghosts-resolve_numbered_with : goal.ghosts-resolve_numbered_with
ghosts-resolve_numbered_with a = record { name = a.blank.name; parts = a.blank.parts }
