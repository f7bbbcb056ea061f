use Rattle.std.proofs.Common.{◌≡◌, drop}
use Rattle.vb_tree.specs.BoundView.{type_of}
use Rattle.array_bounds.specs.LockTables.{flags_in}
use Rattle.array_bounds.proofs.locks.flags_in.Given as goal

abbrev pub invariant-loop-k : goal.invariant-loop-k
invariant-loop-k l = flags_in l.locks (type_of l.ty) ≡ flags_in (drop l.k-index l.locks) (type_of l.ty)
