use Rattle.std.proofs.Common.{◌≡◌, map, take}
use Rattle.vb_tree.specs.FlatLines.{code_lines}
use Rattle.vb_tree.specs.View.{line_of}
use Rattle.binder.proofs.homes.coded.Given as goal

abbrev pub invariant-loop-line : goal.invariant-loop-line
invariant-loop-line l =
    map (λ x. line_of x.now) l.code.items ≡ code_lines (map (λ x. line_of x.now) (take l.line-index l.lines))
