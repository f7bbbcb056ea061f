use Rattle.std.proofs.Common.{◌≡◌, ◌++◌, ℕ, map, drop}
use Rattle.bound_tree.specs.View.{constant_of}
use Rattle.written_trees.specs.Prologues.{constants_from}
use Rattle.written_members.specs.Noted.{noted}
use Rattle.written_members.specs.Shown.{constant_shown}
use Rattle.written_members.proofs.statements.noted_constants.Given as goal

abbrev pub invariant-loop-i : goal.invariant-loop-i
invariant-loop-i l = (file n : ℕ) →
    map constant_shown (noted l.all file n) ++ constants_from file n l.i (map constant_of (drop l.i l.consts)) ≡ constants_from file n 0 (map constant_of l.consts)
