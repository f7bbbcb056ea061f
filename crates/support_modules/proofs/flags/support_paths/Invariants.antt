use Rattle.std.proofs.Common.{◌≡◌, [], map, take}
use Rattle.std.specs.List.{fold}
use Rattle.net_tree.specs.View.{module_of}
use Rattle.support_modules.specs.Flags.{with_paths_of}
use Rattle.support_modules.specs.Paths.{shown}
use Rattle.support_modules.proofs.flags.support_paths.Given as goal

abbrev pub invariant-loop-source : goal.invariant-loop-source
invariant-loop-source l = map shown l.paths.items ≡ fold with_paths_of [] (map module_of (take l.source-index l.modules))
