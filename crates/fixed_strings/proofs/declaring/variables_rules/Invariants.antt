use Rattle.std.proofs.Common.{◌≡◌, map, take}
use Rattle.reach_table.specs.Chains.{is_marked}
use Rattle.bound_tree.specs.View.{declarations_of, variable_of}
use Rattle.fixed_strings.specs.Rows.{variable_rules}
use Rattle.fixed_strings.proofs.declaring.variables_rules.Given as goal

abbrev pub invariant-loop-v : goal.invariant-loop-v
invariant-loop-v l = l.sets.items ≡ map (variable_rules (declarations_of l.declared) (is_marked l.holders)) (map variable_of (take l.v-index l.vars))
