use Rattle.std.proofs.Common.{◌≡◌, map, take}
use Rattle.std.specs.List.{flat_map}
use Rattle.vb_tree.specs.View.{module_of}
use Rattle.vb_tree.specs.Tree.{Module}
use Rattle.bound_tree.specs.Source.{procedures_in}
use Rattle.bound_tree.specs.Lines.{bodies_shown}
use Rattle.bound_tree.proofs.lines.procedures.Given as goal

abbrev pub invariant-loop-module : goal.invariant-loop-module
invariant-loop-module l =
    map bodies_shown l.all.items ≡ flat_map (λ (m : Module). flat_map procedures_in m.members) (map module_of (take l.module-index l.project.modules))
