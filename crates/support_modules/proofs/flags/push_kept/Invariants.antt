use Rattle.std.proofs.Common.{◌≡◌, ◌++◌, map, drop}
use Rattle.net_tree.specs.View.{procedure_of}
use Rattle.support_modules.specs.Flags.{paths_of_kept}
use Rattle.support_modules.specs.Paths.{shown}
use Rattle.support_modules.proofs.flags.push_kept.Given as goal

abbrev pub invariant-loop-f : goal.invariant-loop-f
invariant-loop-f l =
    map shown l.to.items ++ paths_of_kept (map procedure_of (drop l.f-index l.all)) l.rest ≡ map shown l.initial.to.items ++ paths_of_kept (map procedure_of l.all) l.flags
