use Rattle.bound_facts.proofs.backward.leading.Given as goal

abbrev pub ghosts-spread_on : goal.ghosts-spread_on
ghosts-spread_on a = record { name = a.blank.name; parts = a.blank.parts }
