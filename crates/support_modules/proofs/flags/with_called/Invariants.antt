use Rattle.std.proofs.Common.{◌≡◌, ◌++◌, map, drop}
use Rattle.net_tree.specs.View.{procedure_of}
use Rattle.support_modules.specs.Flags.{with_called}
use Rattle.support_modules.specs.Paths.{shown}
use Rattle.support_modules.proofs.flags.with_called.Given as goal

abbrev pub invariant-loop-f : goal.invariant-loop-f
invariant-loop-f l =
    l.next.items ++ with_called (map shown l.paths) (map procedure_of (drop l.f-index l.all)) l.rest ≡ with_called (map shown l.paths) (map procedure_of l.all) l.flags
