use Rattle.std.proofs.Common.{◌≡◌, ◌++◌, map, drop}
use Rattle.binder.specs.ImplicitLocals.{all_variables, entries_from}
use Rattle.binder.specs.View.{locals_shown}
use Rattle.binder.proofs.declaring.entries_of.Given as goal

abbrev pub invariant-loop-own : goal.invariant-loop-own
invariant-loop-own l =
    l.all.items ++ entries_from l.next (all_variables (map locals_shown (drop l.own-index l.locals))) ≡ entries_from l.first (all_variables (map locals_shown l.locals))
