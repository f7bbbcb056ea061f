use Rattle.std.proofs.Common.{◌≡◌, map, drop}
use Rattle.expression_words.specs.Passing.{slack_after}
use Rattle.expression_words.specs.View.{supplied_of}
use Rattle.expression_words.proofs.supplied.with_slack.Given as goal

abbrev pub invariant-loop-arg : goal.invariant-loop-arg
invariant-loop-arg l = slack_after l.flaw (map supplied_of (drop l.arg-index l.args)) ≡ slack_after l.fn.flaw (map supplied_of l.args)
