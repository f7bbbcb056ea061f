use Rattle.std.proofs.Common.{◌≡◌, map, take}
use Rattle.vb_tree.specs.View.{module_of}
use Rattle.clean_procedures.specs.Classes.{files_of}
use Rattle.clean_procedures.proofs.classes.class_files.Given as goal

abbrev pub invariant-loop-module : goal.invariant-loop-module
invariant-loop-module l = l.files.items ≡ files_of (map module_of (take l.module-index l.modules))
