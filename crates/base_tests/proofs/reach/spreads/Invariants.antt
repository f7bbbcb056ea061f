use Rattle.base_tests.proofs.reach.spreads.Given as goal

abbrev pub ghosts-spread_of : goal.ghosts-spread_of
ghosts-spread_of g a = record { name = a.blank.name; parts = a.blank.parts }
