use Rattle.std.proofs.Common.{◌≡◌, map}
use Rattle.net_tree.specs.View.{procedure_of}
use Rattle.support_modules.specs.Flags.{flags_after}
use Rattle.support_modules.proofs.flags.flags_after.Given as goal

abbrev pub invariant-loop-left : goal.invariant-loop-left
invariant-loop-left l = flags_after (map procedure_of l.all) l.left l.flags.items ≡ flags_after (map procedure_of l.all) l.fn.rounds l.fn.flags.items

abbrev pub decreases-loop-left : goal.decreases-loop-left
decreases-loop-left l = l.left
