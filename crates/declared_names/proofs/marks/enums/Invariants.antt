use Rattle.std.proofs.Common.{◌≡◌, ◌++◌, map, drop}
use Rattle.vb_tree.specs.View.{module_of}
use Rattle.declared_names.specs.Rules.{enum_rules, sets}
use Rattle.declared_names.specs.View.{names_of}
use Rattle.declared_names.proofs.marks.enums.Given as goal

abbrev pub invariant-loop-item : goal.invariant-loop-item
invariant-loop-item l =
    l.all ++ sets (enum_rules (map module_of l.modules) (names_of l.d)) l.next (drop l.item-index l.d.enums)
    ≡ sets (enum_rules (map module_of l.modules) (names_of l.d)) 0 (l.d.enums)
