use Rattle.std.proofs.Common.{◌≡◌, ◌++◌, map, drop}
use Rattle.vb_tree.specs.View.{line_of}
use Rattle.binder.specs.ImplicitLocals.{placed_from}
use Rattle.binder.specs.View.{placed_of}
use Rattle.binder.proofs.homes.coded_from.Given as goal

abbrev pub invariant-loop-line : goal.invariant-loop-line
invariant-loop-line l =
    map placed_of l.code.items ++ placed_from l.next (map (λ x. line_of x.now) (drop l.line-index l.lines)) ≡ placed_from l.first (map (λ x. line_of x.now) l.lines)
