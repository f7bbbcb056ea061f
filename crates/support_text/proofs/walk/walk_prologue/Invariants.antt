use Rattle.std.proofs.Common.{◌≡◌, map, take}
use Rattle.std.specs.List.{fold}
use Rattle.net_tree.specs.View.{dim_of}
use Rattle.support_text.specs.Noting.{noted}
use Rattle.support_text.specs.Walk.{walk_dim}
use Rattle.support_text.proofs.walk.walk_prologue.Given as goal

abbrev pub invariant-loop-dim : goal.invariant-loop-dim
invariant-loop-dim l = l.used ≡ fold (walk_dim noted) l.initial.used (map dim_of (take l.dim-index l.prologue))
