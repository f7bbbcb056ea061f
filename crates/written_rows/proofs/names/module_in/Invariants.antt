-- What the search of a module keeps.
use Rattle.std.proofs.Common.{◌≡◌, drop, map, nat_eq}
use Rattle.std.specs.Prelude.{find}
use Rattle.vb_tree.specs.Tree.{Module}
use Rattle.vb_tree.specs.View.{module_of}
use Rattle.written_rows.proofs.names.module_in.Given as goal

abbrev pub invariant-loop-m : goal.invariant-loop-m
invariant-loop-m l =
    find (λ (m : Module). nat_eq m.file l.file) (map module_of l.modules)
    ≡ find (λ (m : Module). nat_eq m.file l.file) (map module_of (drop l.m-index l.modules))
