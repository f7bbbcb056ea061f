use Rattle.std.proofs.Common.{◌≡◌, drop, map}
use Rattle.std.specs.List.{list_all}
use Rattle.net_tree.specs.Declarations.{is_writable_dim}
use Rattle.net_tree.specs.View.{dim_of}
use Rattle.net_writable.proofs.declarations.are_writable_dims.Given as goal

abbrev pub invariant-loop-dim : goal.invariant-loop-dim
invariant-loop-dim l = list_all is_writable_dim (map dim_of l.dims) ≡ list_all is_writable_dim (map dim_of (drop l.dim-index l.dims))
