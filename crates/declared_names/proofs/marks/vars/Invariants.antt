use Rattle.std.proofs.Common.{◌≡◌, ◌++◌, map, drop}
use Rattle.vb_tree.specs.View.{module_of}
use Rattle.declared_names.specs.Rules.{variable_rules, sets}
use Rattle.declared_names.specs.View.{names_of, variable_of}
use Rattle.declared_names.proofs.marks.vars.Given as goal

abbrev pub invariant-loop-item : goal.invariant-loop-item
invariant-loop-item l =
    l.all ++ sets (variable_rules (map module_of l.modules) (names_of l.d)) l.next (map variable_of (drop l.item-index l.d.vars))
    ≡ sets (variable_rules (map module_of l.modules) (names_of l.d)) 0 (map variable_of l.d.vars)
