use Rattle.std.proofs.Common.{◌≡◌, map, drop}
use Rattle.std.specs.Prelude.{slice_get}
use Rattle.bound_tree.specs.View.{variable_of}
use Rattle.bound_facts.specs.Members.{variables_from}
use Rattle.bound_facts.proofs.members.variable_in.Given as goal

abbrev pub invariant-loop-i : goal.invariant-loop-i
invariant-loop-i l =
    slice_get (variables_from l.file l.i (map variable_of (drop l.i l.vars))) l.left ≡ slice_get (variables_from l.file 0 (map variable_of l.vars)) l.fn.k
