use Rattle.std.proofs.Common.{◌≡◌, ◌++◌, map, take}
use Rattle.std.specs.List.{flat_map}
use Rattle.net_tree.specs.View.{dim_of}
use Rattle.net_tree.specs.Spelling.{at_depth}
use Rattle.net_tree.specs.Declarations.{dim_text}
use Rattle.net_emitter.proofs.declarations.write_prologue.Given as goal

abbrev pub invariant-loop-dim : goal.invariant-loop-dim
invariant-loop-dim l = l.out ≡ l.initial.out ++ flat_map (λ d. at_depth l.depth (dim_text d)) (map dim_of (take l.dim-index l.prologue))
