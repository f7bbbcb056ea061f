use Rattle.std.proofs.Common.{◌≡◌, map, drop}
use Rattle.vb_tree.specs.View.{module_of}
use Rattle.written_facts.specs.Statements.{files_end}
use Rattle.written_facts.proofs.statements.files_end.Given as goal

abbrev pub invariant-loop-i : goal.invariant-loop-i
invariant-loop-i l = l.end ≡ files_end (map module_of (drop l.i l.modules))
