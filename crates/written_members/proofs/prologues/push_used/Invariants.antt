use Rattle.std.proofs.Common.{◌≡◌, ◌++◌, map, drop}
use Rattle.vb_tree.specs.Blocks.{is_code}
use Rattle.vb_tree.specs.View.{line_of}
use Rattle.net_tree.specs.View.{dim_of}
use Rattle.written_trees.specs.Prologues.{dims_from}
use Rattle.written_members.specs.View.{scope_at}
use Rattle.written_members.proofs.prologues.push_used.Given as goal

abbrev pub invariant-loop-line : goal.invariant-loop-line
invariant-loop-line l =
    map dim_of l.to.items ++ dims_from (scope_at l.site) is_code l.n (map (λ r. line_of r.now) (drop l.line-index l.lines))
    ≡ map dim_of l.initial.to.items ++ dims_from (scope_at l.site) is_code l.number (map (λ r. line_of r.now) l.lines)
