use Rattle.std.proofs.Common.{◌≡◌, take}
use Rattle.std.specs.List.{fold}
use Rattle.support_text.proofs.Listed.{walked}
use Rattle.support_text.proofs.walk.+walk_expression.Given as goal

abbrev pub invariant-walk_list-loop-e : goal.invariant-walk_list-loop-e
invariant-walk_list-loop-e l = l.used ≡ fold walked l.initial.used (take l.e-index l.list)
