use Rattle.std.proofs.Common.{◌≡◌, ◌++◌, ℕ, map, drop}
use Rattle.bound_tree.specs.View.{variable_of}
use Rattle.written_trees.specs.Prologues.{variables_from}
use Rattle.written_members.specs.Noted.{noted}
use Rattle.written_members.specs.Shown.{variable_shown}
use Rattle.written_members.proofs.statements.noted_variables.Given as goal

abbrev pub invariant-loop-i : goal.invariant-loop-i
invariant-loop-i l = (file n : ℕ) →
    map variable_shown (noted l.all file n) ++ variables_from file n l.i (map variable_of (drop l.i l.vars)) ≡ variables_from file n 0 (map variable_of l.vars)
