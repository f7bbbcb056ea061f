use Rattle.std.proofs.Common.{◌≡◌, ◌++◌, map, drop}
use Rattle.vb_tree.specs.View.{module_of}
use Rattle.declared_names.specs.Rules.{head_rules, sets}
use Rattle.declared_names.specs.View.{names_of, procedure_of}
use Rattle.declared_names.proofs.marks.heads.Given as goal

abbrev pub invariant-loop-item : goal.invariant-loop-item
invariant-loop-item l =
    l.all ++ sets (head_rules (map module_of l.modules) (names_of l.d)) l.next (map procedure_of (drop l.item-index l.d.procs))
    ≡ sets (head_rules (map module_of l.modules) (names_of l.d)) 0 (map procedure_of l.d.procs)
