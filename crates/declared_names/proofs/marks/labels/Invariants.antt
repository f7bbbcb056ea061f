use Rattle.std.proofs.Common.{◌≡◌, map, take}
use Rattle.std.specs.List.{flat_map}
use Rattle.vb_tree.specs.Tree.{Module}
use Rattle.vb_tree.specs.View.{module_of}
use Rattle.bound_tree.specs.Source.{procedures_in}
use Rattle.declared_names.specs.Rules.{line_sets}
use Rattle.declared_names.proofs.marks.labels.Given as goal

abbrev pub invariant-loop-module : goal.invariant-loop-module
invariant-loop-module l =
    l.all ≡ map line_sets (flat_map (λ (m : Module). flat_map procedures_in m.members) (map module_of (take l.module-index l.modules)))
