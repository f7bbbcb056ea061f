use Rattle.std.proofs.Common.{◌≡◌, ◌++◌, map, take}
use Rattle.std.specs.Prelude.{flat_map}
use Rattle.net_tree.specs.View.{dim_of}
use Rattle.support_modules.specs.Paths.{paths_of_dim, shown}
use Rattle.support_modules.proofs.paths.push_prologue.Given as goal

abbrev pub invariant-loop-dim : goal.invariant-loop-dim
invariant-loop-dim l = map shown l.to.items ≡ map shown l.initial.to.items ++ flat_map paths_of_dim (map dim_of (take l.dim-index l.prologue))
