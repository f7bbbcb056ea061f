use Rattle.std.proofs.Common.{◌≡◌, ◌++◌, map, drop}
use Rattle.net_tree.specs.View.{exps_of}
use Rattle.support_modules.specs.Paths.{paths_of_exps, shown}
use Rattle.support_modules.proofs.paths.+paths.Given as goal

abbrev pub invariant-push_list-loop-e : goal.invariant-push_list-loop-e
invariant-push_list-loop-e l =
    map shown l.initial.to.items ++ paths_of_exps (exps_of l.list) ≡ map shown l.to.items ++ paths_of_exps (exps_of (drop l.e-index l.list))
