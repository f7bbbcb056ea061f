use Rattle.std.proofs.Common.{◌≡◌, map, drop}
use Rattle.std.specs.List.{list_any}
use Rattle.bound_tree.specs.View.{variable_of}
use Rattle.byref_analysis.specs.FactsOf.{quiet_by}
use Rattle.byref_analysis.specs.Properties.{is_open}
use Rattle.byref_analysis.proofs.properties.some_open.Given as goal

abbrev pub invariant-loop-w : goal.invariant-loop-w
invariant-loop-w l =
    list_any (is_open (map variable_of l.declared.vars) (quiet_by l.declared l.facts)) l.params ≡ list_any (is_open (map variable_of l.declared.vars) (quiet_by l.declared l.facts)) (drop l.w-index l.params)
