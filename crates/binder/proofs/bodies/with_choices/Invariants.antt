use Rattle.std.proofs.Common.{◌≡◌, map, drop}
use Rattle.expression_words.specs.View.{scope_of}
use Rattle.binder.specs.Bodies.{with_choices}
use Rattle.binder.specs.View.{part_of}
use Rattle.binder.proofs.bodies.with_choices.Given as goal

abbrev pub invariant-loop-part : goal.invariant-loop-part
invariant-loop-part l =
    with_choices (scope_of l.scope) l.found (map part_of (drop l.part-index l.parts)) ≡ with_choices (scope_of l.scope) l.fn.common (map part_of l.parts)
