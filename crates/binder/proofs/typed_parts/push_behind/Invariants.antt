use Rattle.std.proofs.Common.{◌≡◌, ◌++◌, map, take}
use Rattle.vb_tree.specs.BoundView.{type_of}
use Rattle.expression_words.specs.View.{scope_of, typed_of}
use Rattle.binder.specs.Lines.{typed_part}
use Rattle.binder.specs.View.{part_of}
use Rattle.binder.proofs.typed_parts.push_behind.Given as goal

abbrev pub invariant-loop-part : goal.invariant-loop-part
invariant-loop-part l =
    map typed_of l.to.items ≡ map typed_of l.initial.to.items ++ map (typed_part (scope_of l.scope) l.cases (type_of l.target)) (map part_of (take l.part-index l.parts))
