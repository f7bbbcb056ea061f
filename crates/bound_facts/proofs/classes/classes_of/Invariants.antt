use Rattle.bound_facts.proofs.classes.classes_of.Given as goal

abbrev pub ghosts-parts_on : goal.ghosts-parts_on
ghosts-parts_on a = record { name = a.blank.name; parts = a.blank.parts }
