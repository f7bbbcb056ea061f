use Rattle.std.proofs.Common.{◌≡◌, ℕ, map, drop}
use Rattle.bound_tree.specs.RuleSets.{both}
use Rattle.bound_tree.specs.Tree.{Constant}
use Rattle.written_rows.specs.View.{facts_of}
use Rattle.written_trees.specs.Facts.{constant_set}
use Rattle.written_trees.specs.Prologues.{union}
use Rattle.written_members.specs.Shown.{constant_shown}
use Rattle.written_members.proofs.site.constant_rules.Given as goal

abbrev pub invariant-loop-c : goal.invariant-loop-c
invariant-loop-c l =
    both l.rules (union (map (λ (v : ℕ × Constant). constant_set (facts_of l.facts) v.0) (map constant_shown (drop l.c-index l.consts))))
    ≡ union (map (λ (v : ℕ × Constant). constant_set (facts_of l.facts) v.0) (map constant_shown l.consts))
