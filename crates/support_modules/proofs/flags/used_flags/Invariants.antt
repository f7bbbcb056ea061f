use Rattle.std.proofs.Common.{◌≡◌, map, take}
use Rattle.net_tree.specs.View.{procedure_of}
use Rattle.support_modules.specs.Flags.{used_flags}
use Rattle.support_modules.specs.Paths.{shown}
use Rattle.support_modules.proofs.flags.used_flags.Given as goal

abbrev pub invariant-loop-f : goal.invariant-loop-f
invariant-loop-f l = l.flags.items ≡ used_flags (map shown l.paths) (map procedure_of (take l.f-index l.all))
