use Rattle.std.proofs.Common.{◌≡◌, map, drop}
use Rattle.vb_tree.specs.View.{module_of}
use Rattle.declared_names.specs.Rules.{is_class}
use Rattle.declared_names.proofs.taken.is_class.Given as goal

abbrev pub invariant-loop-module : goal.invariant-loop-module
invariant-loop-module l = is_class (map module_of l.modules) l.file ≡ is_class (map module_of (drop l.module-index l.modules)) l.file
