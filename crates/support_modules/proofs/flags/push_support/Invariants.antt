use Rattle.std.proofs.Common.{◌≡◌, map, take}
use Rattle.std.specs.List.{fold}
use Rattle.support_modules.specs.Flags.{with_path}
use Rattle.support_modules.specs.Paths.{shown}
use Rattle.support_modules.proofs.flags.push_support.Given as goal

abbrev pub invariant-loop-path : goal.invariant-loop-path
invariant-loop-path l = map shown l.to.items ≡ fold with_path (map shown l.initial.to.items) (map shown (take l.path-index l.paths))
