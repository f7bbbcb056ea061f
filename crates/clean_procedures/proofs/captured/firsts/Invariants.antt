use Rattle.std.proofs.Common.{◌≡◌, [], map, drop}
use Rattle.vb_tree.specs.View.{module_of}
use Rattle.clean_procedures.specs.Captured.{with_names}
use Rattle.clean_procedures.proofs.captured.firsts.Given as goal

abbrev pub invariant-loop-x : goal.invariant-loop-x
invariant-loop-x l = with_names (map module_of l.modules) l.all.items (drop l.x-index l.names) ≡ with_names (map module_of l.modules) [] l.names
