use Rattle.base_tests.proofs.reach.bounds_steps.Given as goal

abbrev pub ghosts-bounds_steps_of : goal.ghosts-bounds_steps_of
ghosts-bounds_steps_of g a = record { name = a.blank.name; parts = a.blank.parts }
