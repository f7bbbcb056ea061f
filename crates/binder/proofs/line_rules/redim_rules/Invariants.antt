use Rattle.std.proofs.Common.{◌≡◌, map, drop}
use Rattle.vb_tree.specs.View.{redim_item_of}
use Rattle.bound_tree.specs.RuleSets.{none}
use Rattle.expression_words.specs.View.{scope_of}
use Rattle.binder.specs.Lines.{redim_rules}
use Rattle.binder.proofs.line_rules.redim_rules.Given as goal

abbrev pub invariant-loop-item : goal.invariant-loop-item
invariant-loop-item l =
    redim_rules (scope_of l.scope) l.rules (map redim_item_of (drop l.item-index l.items)) ≡ redim_rules (scope_of l.scope) none (map redim_item_of l.items)
