use Rattle.fcg_stitch_tests.proofs.sets.stitch_parts.Given as goal

abbrev pub ghosts-stitch_with : goal.ghosts-stitch_with
ghosts-stitch_with a = record { name = a.blank.name; parts = a.blank.parts }
