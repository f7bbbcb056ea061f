use Rattle.std.proofs.Common.{◌≡◌, map, take}
use Rattle.bound_tree.specs.View.{declarations_of}
use Rattle.clean_procedures.specs.Broken.{statements}
use Rattle.clean_procedures.specs.Verdicts.{shown_marks}
use Rattle.clean_procedures.proofs.statements.statements.Given as goal

abbrev pub invariant-loop-one : goal.invariant-loop-one
invariant-loop-one l = l.all.items ≡ statements (declarations_of l.declared) (map shown_marks (take l.one-index l.marks))
