-- What references to modules of the code show.
use Rattle.std.specs.Prelude.{Option, Some, None}
use Rattle.std.specs.Borrow.{Bor}
use Rattle.vb_tree.specs.declared.module.Module6.{Module6}
use Rattle.vb_tree.specs.Tree.{Module}
use Rattle.vb_tree.specs.View.{module_of}

abbrev pub module_shown : Option (Bor Module6) → Option Module
module_shown None = None
module_shown (Some m) = Some (module_of m.now)
