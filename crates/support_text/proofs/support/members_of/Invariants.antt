use Rattle.std.proofs.Common.{◌≡◌, map, take}
use Rattle.std.specs.List.{filter}
use Rattle.net_tree.specs.View.{member_of}
use Rattle.net_tree.specs.Tree.{proc}
use Rattle.support_text.specs.Noting.{has}
use Rattle.support_text.specs.Rows.{row_procedure}
use Rattle.support_text.proofs.support.members_of.Given as goal

abbrev pub invariant-loop-row : goal.invariant-loop-row
invariant-loop-row l = map member_of l.members ≡ map (λ row. proc (row_procedure row)) (filter (has l.used) (take l.row-index l.row-items))
