use Rattle.std.proofs.Common.{◌≡◌, map, drop}
use Rattle.std.specs.List.{list_any}
use Rattle.bound_tree.specs.View.{shown, variable_of}
use Rattle.bound_facts.specs.Effects.{is_outside}
use Rattle.bound_facts.specs.Node.{root}
use Rattle.byref_analysis.proofs.acting.some_outside.Given as goal

abbrev pub invariant-loop-e : goal.invariant-loop-e
invariant-loop-e l =
    list_any (λ e. is_outside (map variable_of l.vars) l.i (root e)) (map shown l.stores)
    ≡ list_any (λ e. is_outside (map variable_of l.vars) l.i (root e)) (map shown (drop l.e-index l.stores))
