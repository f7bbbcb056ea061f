-- Worked examples: what is found for marks, computed.
use Rattle.std.proofs.Common.{◌≡◌, ℕ, [], ◌∷◌, refl}
use Rattle.up_base.specs.declared.issue.Issue.{Issue}
use Rattle.up_base.specs.declared.place.Place.{Place}
use Rattle.bound_tree.specs.declared.marks.Marks.{Marks}
use Rattle.bound_tree.specs.declared.rule_set.RuleSet.{RuleSet}
use Rattle.bound_tree.specs.RuleSets.{has, none, with_rule}
use Rattle.issue_sets.specs.Found.{pass_issues}
use Rattle.issue_sets.specs.Places.{Places}

abbrev at : (file line : ℕ) → Place
at file line = record { file = file; line = line }

abbrev issue : (file line rule : ℕ) → Issue
issue file line rule = record { place = at file line; rule = rule }

-- a procedure with two code lines in one physical line, two variables and a user type
abbrev places : Places
places = record { lines = (at 1 4 ∷ at 1 4 ∷ []) ∷ []; heads = at 1 3 ∷ []; vars = at 1 1 ∷ at 1 2 ∷ []; consts = []; types = at 2 7 ∷ []; enums = [] }

abbrev one : ℕ → RuleSet
one rule = with_rule none rule

-- the second list of variables is short: what stands behind its end breaks nothing
abbrev marks : Marks
marks = record { lines = (one 5 ∷ with_rule (one 5) 3 ∷ []) ∷ []; heads = none ∷ []; vars = one 24 ∷ []; consts = []; types = one 20 ∷ []; enums = one 4 ∷ [] }

-- in the order in which they are found: both code lines of a line have its place
what_is_found : pass_issues places marks ≡ issue 1 4 5 ∷ issue 1 4 3 ∷ issue 1 4 5 ∷ issue 1 1 24 ∷ issue 2 7 20 ∷ []
unfolding none with_rule has
what_is_found = refl
