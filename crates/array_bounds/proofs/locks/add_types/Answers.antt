use Rattle.std.proofs.Common.{map, take}
use Rattle.array_bounds.specs.LockTables.{has_type, shown_type}
use Rattle.array_bounds.proofs.Locked.{all_kept, all_more}
use Rattle.array_bounds.proofs.locks.add_types.Goals as goal

pub loop-ty-preserved : goal.loop-ty-preserved
loop-ty-preserved c = record {
  right = c.in_ok-add_type.ensures.right;
  all =
      all_more (has_type c.add_type.new.locks.items) shown_type c.args.types.now c.loop-ty.ty-index c.ty-item.result c.loop-ty-test.true c.ty-item.is
      (all_kept (has_type c.loop-ty.locks.items) (has_type c.add_type.new.locks.items) c.in_ok-add_type.ensures.kept (map shown_type (take c.loop-ty.ty-index c.args.types.now)) c.loop-ty.invariant.all)
      c.in_ok-add_type.ensures.here;
}
