use Rattle.fcg_join_tests.proofs.outcomes.both_fail.Given as goal

abbrev pub ghosts-fail_both : goal.ghosts-fail_both
ghosts-fail_both a = record { name = a.blank.name; parts = a.blank.parts }
