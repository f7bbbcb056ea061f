use Rattle.std.proofs.Common.{◌≡◌, map, take}
use Rattle.bound_tree.specs.View.{declarations_of}
use Rattle.clean_procedures.specs.Classes.{subs_in}
use Rattle.clean_procedures.proofs.classes.table.Given as goal

abbrev pub invariant-loop-file : goal.invariant-loop-file
invariant-loop-file l = l.all.items ≡ map (subs_in (declarations_of l.declared)) (take l.file-index l.files)
