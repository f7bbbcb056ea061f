use Rattle.std.proofs.Common.{◌≡◌, map, take}
use Rattle.vb_tree.specs.View.{module_of}
use Rattle.name_tables.specs.Places.{keyed}
use Rattle.name_tables.specs.Rows.{class_row, classes_in}
use Rattle.name_tables.proofs.rows.class_rows.Given as goal

abbrev pub invariant-loop-m : goal.invariant-loop-m
invariant-loop-m l = map keyed l.all.items ≡ map class_row (classes_in (map module_of (take l.m-index l.modules)))
