use Rattle.std.proofs.Common.{◌≡◌, map, take}
use Rattle.vb_tree.specs.Tree.{Module}
use Rattle.vb_tree.specs.View.{module_of}
use Rattle.name_tables.specs.Rows.{classes_in}
use Rattle.name_tables.proofs.tables.class_files.Given as goal

abbrev pub invariant-loop-m : goal.invariant-loop-m
invariant-loop-m l = l.all.items ≡ map (λ (m : Module). m.file) (classes_in (map module_of (take l.m-index l.modules)))
