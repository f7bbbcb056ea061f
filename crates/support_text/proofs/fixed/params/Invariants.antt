use Rattle.std.proofs.Common.{◌≡◌, map, take}
use Rattle.net_tree.specs.View.{param_of}
use Rattle.support_text.specs.Steps.{parameter}
use Rattle.support_text.proofs.fixed.params.Given as goal

abbrev pub invariant-loop-p : goal.invariant-loop-p
invariant-loop-p l = map param_of l.list.items ≡ map parameter (take l.p-index l.given)
