use Rattle.std.proofs.Common.{◌≡◌, drop}
use Rattle.vb_tree.specs.BoundView.{type_of}
use Rattle.array_bounds.specs.LockTables.{has_type}
use Rattle.array_bounds.proofs.locks.has_type.Given as goal

abbrev pub invariant-loop-k : goal.invariant-loop-k
invariant-loop-k l = has_type l.locks (type_of l.ty) ≡ has_type (drop l.k-index l.locks) (type_of l.ty)
