use Rattle.std.proofs.Common.{◌≡◌, map, drop}
use Rattle.vb_tree.specs.View.{module_of}
use Rattle.written_facts.specs.Statements.{file_sets}
use Rattle.written_facts.proofs.statements.file_sets.Given as goal

abbrev pub invariant-loop-module : goal.invariant-loop-module
invariant-loop-module l = file_sets l.file (map module_of l.modules) ≡ file_sets l.file (map module_of (drop l.module-index l.modules))
