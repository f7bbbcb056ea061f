use Rattle.std.proofs.Common.{◌≡◌, map, drop}
use Rattle.vb_tree.specs.View.{module_of}
use Rattle.bound_facts.specs.Clean.{is_module_name}
use Rattle.clean_procedures.proofs.captured.is_module_name.Given as goal

abbrev pub invariant-loop-module : goal.invariant-loop-module
invariant-loop-module l = is_module_name (map module_of l.modules) l.name ≡ is_module_name (map module_of (drop l.module-index l.modules)) l.name
