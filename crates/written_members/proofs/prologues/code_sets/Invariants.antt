use Rattle.std.proofs.Common.{◌≡◌, ◌++◌, map, drop}
use Rattle.vb_tree.specs.View.{line_of}
use Rattle.written_trees.specs.Prologues.{code_sets}
use Rattle.written_members.specs.View.{scope_at}
use Rattle.written_members.proofs.prologues.code_sets.Given as goal

abbrev pub invariant-loop-line : goal.invariant-loop-line
invariant-loop-line l =
    l.sets.items ++ code_sets (scope_at l.site) l.procedure l.n l.i (map (λ r. line_of r.now) (drop l.line-index l.lines))
    ≡ code_sets (scope_at l.site) l.procedure l.number 0 (map (λ r. line_of r.now) l.lines)
