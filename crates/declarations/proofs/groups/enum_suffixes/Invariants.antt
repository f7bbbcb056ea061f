use Rattle.std.proofs.Common.{◌≡◌, ◌++◌, drop, map}
use Rattle.vb_tree.specs.View.{module_of}
use Rattle.declarations.specs.Finals.{suffixes_of, enum_suffix}
use Rattle.declarations.proofs.groups.enum_suffixes.Given as goal

abbrev pub invariant-loop-module : goal.invariant-loop-module
invariant-loop-module l =
    l.all.items ++ suffixes_of enum_suffix (map module_of (drop l.module-index l.modules)) ≡ suffixes_of enum_suffix (map module_of l.modules)
