use Rattle.bound_tree.specs.View.{program_of}
use Rattle.issue_sets.proofs.Listed.{are_issues}
use Rattle.issue_sets.proofs.issues.issues_of.Goals as goal

pub returns : goal.returns
returns c = are_issues (program_of c.args.bound.now) _ c.args.further.items c.push_found.new.to.items c.as_set.result c.in_ok-push_found.ensures c.as_set.ensures.ascending c.as_set.ensures.same
