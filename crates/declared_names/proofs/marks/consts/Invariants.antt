use Rattle.std.proofs.Common.{◌≡◌, ◌++◌, map, drop}
use Rattle.vb_tree.specs.View.{module_of}
use Rattle.declared_names.specs.Rules.{constant_rules, sets}
use Rattle.declared_names.specs.View.{names_of, constant_of}
use Rattle.declared_names.proofs.marks.consts.Given as goal

abbrev pub invariant-loop-item : goal.invariant-loop-item
invariant-loop-item l =
    l.all ++ sets (constant_rules (map module_of l.modules) (names_of l.d)) l.next (map constant_of (drop l.item-index l.d.consts))
    ≡ sets (constant_rules (map module_of l.modules) (names_of l.d)) 0 (map constant_of l.d.consts)
