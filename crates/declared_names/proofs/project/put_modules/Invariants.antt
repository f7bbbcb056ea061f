use Rattle.std.proofs.Common.{◌≡◌, map, drop}
use Rattle.vb_tree.specs.View.{module_of}
use Rattle.declared_names.specs.Declaring.{project_declares, with_declared}
use Rattle.declared_names.specs.View.{names_of}
use Rattle.declared_names.proofs.project.put_modules.Given as goal

abbrev pub invariant-loop-module : goal.invariant-loop-module
invariant-loop-module l =
    with_declared (project_declares (map module_of (drop l.module-index l.modules))) (names_of l.to)
    ≡ with_declared (project_declares (map module_of l.modules)) (names_of l.initial.to)
