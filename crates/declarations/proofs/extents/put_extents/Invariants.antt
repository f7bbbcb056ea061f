use Rattle.std.proofs.Common.{◌≡◌, drop, map}
use Rattle.vb_tree.specs.View.{bounds_of}
use Rattle.expression_words.specs.View.{scope_of}
use Rattle.declarations.specs.Plans.{extents_by}
use Rattle.declarations.specs.View.{sizes_shown}
use Rattle.declarations.proofs.extents.put_extents.Given as goal

abbrev pub invariant-loop-b : goal.invariant-loop-b
invariant-loop-b l =
    extents_by (scope_of l.scope) l.base (sizes_shown l.to) (map bounds_of (drop l.b-index l.all))
    ≡ extents_by (scope_of l.scope) l.base (sizes_shown l.initial.to) (map bounds_of l.all)
