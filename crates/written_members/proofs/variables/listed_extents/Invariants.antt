use Rattle.std.proofs.Common.{◌≡◌, map, take}
use Rattle.net_tree.specs.View.{exp_of}
use Rattle.written_members.specs.Extents.{extent_between}
use Rattle.written_members.proofs.variables.listed_extents.Given as goal

abbrev pub invariant-loop-b : goal.invariant-loop-b
invariant-loop-b l = map exp_of l.list.items ≡ map extent_between (take l.b-index l.bounds)
