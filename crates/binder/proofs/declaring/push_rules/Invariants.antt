use Rattle.std.proofs.Common.{◌≡◌, ◌++◌, map, take}
use Rattle.expression_words.specs.View.{declared_in}
use Rattle.binder.specs.ImplicitLocals.{rules_of}
use Rattle.binder.specs.View.{implicit_of}
use Rattle.binder.proofs.declaring.push_rules.Given as goal

abbrev pub invariant-loop-x : goal.invariant-loop-x
invariant-loop-x l =
    l.to.items ≡ l.initial.to.items ++ map (rules_of (declared_in l.survey.context)) (map implicit_of (take l.x-index l.all))
