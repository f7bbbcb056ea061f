use Rattle.std.proofs.Common.{◌≡◌, drop}
use Rattle.bound_tree.specs.View.{passed_of}
use Rattle.fixed_strings.specs.Given.{gives_from}
use Rattle.fixed_strings.proofs.given.gives_from.Given as goal

abbrev pub invariant-loop-i : goal.invariant-loop-i
invariant-loop-i l = gives_from l.quiet l.p 0 (passed_of l.args) ≡ gives_from l.quiet l.p l.i (passed_of (drop l.i l.args))
