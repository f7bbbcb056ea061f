use Rattle.std.proofs.Common.{◌≡◌, drop}
use Rattle.vb_tree.specs.View.{middles_of}
use Rattle.expression_words.specs.View.{kept_of}
use Rattle.binder.specs.Bodies.{with_middles}
use Rattle.binder.specs.View.{inside_of}
use Rattle.binder.proofs.bodies.with_middles.Given as goal

abbrev pub invariant-loop-middle : goal.invariant-loop-middle
invariant-loop-middle l =
    with_middles (inside_of l.inside) (kept_of l.kept) l.at l.found (middles_of (drop l.middle-index l.middles)) ≡ with_middles (inside_of l.inside) (kept_of l.kept) l.n l.fn.common (middles_of l.middles)
