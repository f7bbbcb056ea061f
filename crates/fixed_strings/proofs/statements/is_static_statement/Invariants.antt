use Rattle.std.proofs.Common.{◌≡◌, map, drop}
use Rattle.vb_tree.specs.View.{module_of}
use Rattle.fixed_strings.specs.Declaring.{is_static_statement}
use Rattle.fixed_strings.proofs.statements.is_static_statement.Given as goal

abbrev pub invariant-loop-module : goal.invariant-loop-module
invariant-loop-module l =
    is_static_statement l.file l.statement (map module_of l.modules) ≡ is_static_statement l.file l.statement (map module_of (drop l.module-index l.modules))
