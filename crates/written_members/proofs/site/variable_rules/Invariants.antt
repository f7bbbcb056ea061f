use Rattle.std.proofs.Common.{◌≡◌, ℕ, map, drop}
use Rattle.bound_tree.specs.RuleSets.{both}
use Rattle.bound_tree.specs.Tree.{Variable}
use Rattle.written_rows.specs.View.{facts_of}
use Rattle.written_trees.specs.Facts.{variable_set}
use Rattle.written_trees.specs.Prologues.{union}
use Rattle.written_members.specs.Shown.{variable_shown}
use Rattle.written_members.proofs.site.variable_rules.Given as goal

abbrev pub invariant-loop-v : goal.invariant-loop-v
invariant-loop-v l =
    both l.rules (union (map (λ (v : ℕ × Variable). variable_set (facts_of l.facts) v.0) (map variable_shown (drop l.v-index l.vars))))
    ≡ union (map (λ (v : ℕ × Variable). variable_set (facts_of l.facts) v.0) (map variable_shown l.vars))
