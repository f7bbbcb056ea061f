use Rattle.std.proofs.Common.{◌≡◌, map, drop, filter}
use Rattle.std.specs.Prelude.{slice_get}
use Rattle.vb_tree.specs.Tree.{Module}
use Rattle.vb_tree.specs.View.{module_of}
use Rattle.bound_facts.proofs.members.class_file.Given as goal

abbrev pub invariant-loop-module : goal.invariant-loop-module
invariant-loop-module l =
    slice_get (map (λ (m : Module). m.file) (filter (λ (m : Module). m.class) (map module_of (drop l.module-index l.modules)))) l.left
    ≡ slice_get (map (λ (m : Module). m.file) (filter (λ (m : Module). m.class) (map module_of l.modules))) l.fn.c
