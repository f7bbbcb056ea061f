use Rattle.std.proofs.Common.{◌≡◌, drop, map}
use Rattle.std.specs.List.{list_any}
use Rattle.expression_words.specs.LibraryCalls.{is_slack}
use Rattle.expression_words.specs.View.{supplied_of}
use Rattle.expression_words.proofs.library_calls.any_slack.Given as goal

abbrev pub invariant-loop-arg : goal.invariant-loop-arg
invariant-loop-arg l = list_any is_slack (map supplied_of (drop l.arg-index l.args)) ≡ list_any is_slack (map supplied_of l.args)
