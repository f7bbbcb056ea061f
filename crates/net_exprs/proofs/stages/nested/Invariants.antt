use Rattle.std.proofs.Common.{◌≡◌, ◌+◌, true, reverse, take}
use Rattle.net_tree.specs.Depth.{depth_type}
use Rattle.net_tree.specs.View.{type_name_of}
use Rattle.net_exprs.specs.Expressions.{with_ranks}
use Rattle.net_exprs.specs.Fitting.{fits_type}
use Rattle.net_exprs.proofs.stages.nested.Given as goal

abbrev pub invariant-loop-rank : goal.invariant-loop-rank
invariant-loop-rank l = record {
  same : type_name_of l.array ≡ with_ranks (type_name_of l.fn.ty) (reverse (take l.rank-index l.ranks));
  held : fits_type (type_name_of l.fn.ty) ≡ true → fits_type (type_name_of l.array) ≡ true;
  deep : depth_type (type_name_of l.array) ≡ l.rank-index + depth_type (type_name_of l.fn.ty);
}
