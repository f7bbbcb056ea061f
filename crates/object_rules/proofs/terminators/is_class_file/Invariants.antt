use Rattle.std.proofs.Common.{◌≡◌, ◌&&◌, map, drop, nat_eq}
use Rattle.std.specs.List.{list_any}
use Rattle.vb_tree.specs.Tree.{Module}
use Rattle.vb_tree.specs.View.{module_of}
use Rattle.object_rules.proofs.terminators.is_class_file.Given as goal

abbrev pub invariant-loop-module : goal.invariant-loop-module
invariant-loop-module l =
    list_any (λ (m : Module). m.class && nat_eq m.file l.file) (map module_of l.modules) ≡ list_any (λ (m : Module). m.class && nat_eq m.file l.file) (map module_of (drop l.module-index l.modules))
