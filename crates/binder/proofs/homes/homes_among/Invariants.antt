use Rattle.std.proofs.Common.{◌≡◌, map, take}
use Rattle.std.specs.List.{flat_map}
use Rattle.vb_tree.specs.Tree.{Module}
use Rattle.vb_tree.specs.View.{module_of}
use Rattle.binder.specs.ImplicitLocals.{homes_in}
use Rattle.binder.specs.View.{home_of}
use Rattle.binder.proofs.homes.homes_among.Given as goal

abbrev pub invariant-loop-module : goal.invariant-loop-module
invariant-loop-module l =
    map home_of l.all.items ≡ flat_map (λ (m : Module). homes_in m.file 0 m.members) (map module_of (take l.module-index l.modules))
