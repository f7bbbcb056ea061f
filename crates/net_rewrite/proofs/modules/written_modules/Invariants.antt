use Rattle.std.proofs.Common.{◌≡◌, ◌++◌, map, drop}
use Rattle.net_tree.specs.View.{module_of}
use Rattle.vb_tree.specs.View as source
use Rattle.written_trees.specs.Projects.{first_numbers, modules_from}
use Rattle.written_rows.specs.View.{facts_of}
use Rattle.written_members.specs.Statements.{declared_in}
use Rattle.written_members.specs.View.{numbers_of}
use Rattle.net_rewrite.specs.Modules.{program_with}
use Rattle.net_rewrite.proofs.modules.written_modules.Given as goal

abbrev pub invariant-loop-m : goal.invariant-loop-m
invariant-loop-m l =
    map module_of l.all.items ++ modules_from (program_with (declared_in l.statements) l.bodies) (facts_of l.facts) (numbers_of l.at) (map source.module_of (drop l.m-index l.modules))
    ≡ modules_from (program_with (declared_in l.statements) l.bodies) (facts_of l.facts) first_numbers (map source.module_of l.modules)
