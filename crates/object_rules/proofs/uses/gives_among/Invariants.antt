use Rattle.std.proofs.Common.{◌≡◌, drop}
use Rattle.bound_tree.specs.View.{declarations_of, passed_of}
use Rattle.object_rules.specs.Uses.{gives_among}
use Rattle.object_rules.proofs.uses.gives_among.Given as goal

abbrev pub invariant-loop-arg : goal.invariant-loop-arg
invariant-loop-arg l = gives_among (declarations_of l.declared) (passed_of l.args) ≡ gives_among (declarations_of l.declared) (passed_of (drop l.arg-index l.args))
