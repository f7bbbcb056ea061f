use Rattle.std.proofs.Common.{◌≡◌, drop}
use Rattle.net_tree.specs.Comments.{is_well_formed}
use Rattle.net_writable.proofs.Pairs.{formed_behind}
use Rattle.net_writable.proofs.comments.is_well_formed.Given as goal

abbrev pub invariant-loop-unit : goal.invariant-loop-unit
invariant-loop-unit l = is_well_formed l.units ≡ formed_behind l.begun (drop l.unit-index l.units)
