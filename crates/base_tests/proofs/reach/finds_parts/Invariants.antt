use Rattle.base_tests.proofs.reach.finds_parts.Given as goal

abbrev pub ghosts-parts_of : goal.ghosts-parts_of
ghosts-parts_of g a = record { name = a.blank.name; parts = a.blank.parts }
