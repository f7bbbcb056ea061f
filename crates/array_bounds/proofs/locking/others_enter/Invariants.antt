use Rattle.std.proofs.Common.{◌≡◌, drop}
use Rattle.reach_table.specs.Chains.{is_marked}
use Rattle.bound_tree.specs.View.{declarations_of, passed_of}
use Rattle.array_bounds.specs.Locking.{others_enter}
use Rattle.array_bounds.proofs.locking.others_enter.Given as goal

abbrev pub invariant-loop-j : goal.invariant-loop-j
invariant-loop-j l =
    others_enter (declarations_of l.declared) (is_marked l.flags) l.i 0 (passed_of l.args) ≡ others_enter (declarations_of l.declared) (is_marked l.flags) l.i l.j (passed_of (drop l.j l.args))
