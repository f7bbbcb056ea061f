use Rattle.std.proofs.Common.{◌≡◌, ◌+◌, ◌-◌, ◌*◌, ◌<◌, ◌≤◌, true, length}
use Rattle.net_tree.specs.View.{exps_of}
use Rattle.net_tree.specs.Depth.{depth_exps}
use Rattle.net_exprs.specs.Expressions.{exp_nested, group_at}
use Rattle.net_exprs.specs.Fitting.{fits_exps}
use Rattle.net_exprs.specs.Stages.{StageLeaves, fits_stage, stage_view}
use Rattle.net_exprs.proofs.Items.{ItemsLeft}
use Rattle.net_exprs.proofs.Steps.{SuffixesLeft}
use Rattle.net_exprs.proofs.expressions.+read.Given as goal

abbrev pub decreases-expression : goal.decreases-expression
decreases-expression l = 8 * l.room

abbrev pub decreases-head : goal.decreases-head
decreases-head l = 8 * l.room + 3

abbrev pub decreases-nested : goal.decreases-nested
decreases-nested l = 8 * l.room + 2

abbrev pub decreases-parenthesized : goal.decreases-parenthesized
decreases-parenthesized l = 8 * l.room + 1

abbrev pub decreases-suffix : goal.decreases-suffix
decreases-suffix l = 8 * l.room + 4

abbrev pub decreases-called : goal.decreases-called
decreases-called l = 8 * l.room + 3

abbrev pub decreases-group : goal.decreases-group
decreases-group l = 8 * l.room + 2

abbrev pub decreases-items : goal.decreases-items
decreases-items l = 8 * l.room + 1

abbrev pub invariant-expression-suffixes : goal.invariant-expression-suffixes
invariant-expression-suffixes l = record {
  left : SuffixesLeft (group_at (exp_nested (l.room - 1))) (exp_nested l.room l.fn.text) (stage_view l.stage) l.rest;
  shorter : length l.rest < length l.fn.text;
  held : fits_stage (stage_view l.stage) ≡ true;
  leaves : StageLeaves (l.room - 1) l.stage;
}

abbrev pub decreases-expression-suffixes : goal.decreases-expression-suffixes
decreases-expression-suffixes l = length l.rest

abbrev pub invariant-items-items : goal.invariant-items-items
invariant-items-items l = record {
  left : ItemsLeft (exp_nested l.room) l.fn.text (exps_of l.items.items) l.rest;
  shorter : length l.rest ≤ length l.fn.text;
  held : fits_exps (exps_of l.items.items) ≡ true;
  leaves : l.left + depth_exps (exps_of l.items.items) ≡ l.room;
}

abbrev pub decreases-items-items : goal.decreases-items-items
decreases-items-items l = length l.rest
