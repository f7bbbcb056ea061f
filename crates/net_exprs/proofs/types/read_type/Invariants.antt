use Rattle.std.proofs.Common.{◌≡◌, ◌<◌, ◌≤◌, true, length}
use Rattle.net_tree.specs.Depth.{depth_type}
use Rattle.net_tree.specs.View.{type_name_of}
use Rattle.net_exprs.specs.Fitting.{fits_type}
use Rattle.net_exprs.proofs.Ranks.{RanksLeft}
use Rattle.net_exprs.proofs.types.read_type.Given as goal

abbrev pub invariant-ranks : goal.invariant-ranks
invariant-ranks l = record {
  left : RanksLeft l.fn.text (type_name_of l.ty) l.rest;
  shorter : length l.rest < length l.fn.text;
  held : fits_type (type_name_of l.ty) ≡ true;
  arrays : l.arrays ≡ depth_type (type_name_of l.ty);
  most : l.arrays ≤ 1000;
}

abbrev pub decreases-ranks : goal.decreases-ranks
decreases-ranks l = length l.rest
