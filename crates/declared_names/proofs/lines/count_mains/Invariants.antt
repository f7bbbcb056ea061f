use Rattle.std.proofs.Common.{◌≡◌, ◌+◌, ◌≤◌, drop, filter, length, map}
use Rattle.vb_tree.specs.View.{module_of}
use Rattle.declared_names.specs.Rules.{has_main}
use Rattle.declared_names.proofs.lines.count_mains.Given as goal

abbrev pub invariant-loop-module : goal.invariant-loop-module
invariant-loop-module l =
    (l.count + length (filter has_main (map module_of (drop l.module-index l.modules))) ≡ length (filter has_main (map module_of l.modules)))
    × (l.count ≤ l.module-index)
