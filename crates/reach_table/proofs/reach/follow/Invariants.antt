use Rattle.std.proofs.Common.{◌≡◌, ℕ, ◌+◌, ◌<◌, ◌≤◌, true, get_or}
use Rattle.std.specs.List.{Contains}
use Rattle.reach_table.specs.Worklists.{GrowsBy, has}
use Rattle.reach_table.proofs.reach.follow.Given as goal

abbrev pub invariant-loop-k : goal.invariant-loop-k
invariant-loop-k g l = record {
  grows : GrowsBy (λ next. Contains l.arrows.pairs (l.node, next)) l.initial.list l.list;
  reached : (j : ℕ) → l.first ≤ j → j < l.k → has l.list.nodes (get_or l.arrows.pairs j (0, 0)).1 ≡ true;
  reads : l.steps + l.first ≡ l.initial.steps + l.k;
}
