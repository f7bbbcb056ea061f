use Rattle.std.proofs.Common.{◌≡◌, map, drop}
use Rattle.array_bounds.specs.Views.{extent_of}
use Rattle.written_trees.specs.Lines.{extents_exps}
use Rattle.written_rows.specs.View.{scope_of}
use Rattle.written_lines.proofs.Lists.{with_behind}
use Rattle.written_lines.proofs.resizing.extents_exps.Given as goal

abbrev pub invariant-loop-d : goal.invariant-loop-d
invariant-loop-d l =
    with_behind l.all.items (extents_exps (scope_of l.scope) l.array l.d (map extent_of (drop l.d l.extents)))
    ≡ extents_exps (scope_of l.scope) l.array 0 (map extent_of l.extents)
