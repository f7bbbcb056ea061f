use Rattle.std.proofs.Common.{◌≡◌, map, take}
use Rattle.std.specs.Prelude.{flat_map}
use Rattle.bound_tree.specs.View.{procedure_of, variable_of}
use Rattle.byref_analysis.specs.FactsOf.{quiet_by}
use Rattle.byref_analysis.specs.Properties.{open_item}
use Rattle.byref_analysis.proofs.properties.open_items.Given as goal

abbrev pub invariant-loop-p : goal.invariant-loop-p
invariant-loop-p l =
    l.all.items ≡ flat_map (open_item (map variable_of l.declared.vars) (quiet_by l.declared l.facts)) (map procedure_of (take l.p-index l.procs))
