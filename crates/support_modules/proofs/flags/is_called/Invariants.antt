use Rattle.std.proofs.Common.{◌≡◌, map, drop}
use Rattle.written_trees.specs.Names.{alone}
use Rattle.support_modules.specs.Paths.{is_among, shown}
use Rattle.support_modules.proofs.flags.is_called.Given as goal

abbrev pub invariant-loop-path : goal.invariant-loop-path
invariant-loop-path l = is_among (map shown l.paths) (alone l.name) ≡ is_among (map shown (drop l.path-index l.paths)) (alone l.name)
