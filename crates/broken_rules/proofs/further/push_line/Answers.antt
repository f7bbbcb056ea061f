use Rattle.std.proofs.Common.{◌++◌, ap, ◌∙◌}
use Rattle.vb_tree.specs.declared.form.Form6.{Form6}
use Rattle.vb_tree.specs.View.{form_of}
use Rattle.bound_tree.specs.declared.rule_set.RuleSet.{RuleSet}
use Rattle.declared_names.specs.Rules.{line_rules}
use Rattle.issue_sets.specs.Found.{set_issues}
use Rattle.broken_rules.proofs.further.push_line.Goals as goal

pub returns : goal.returns
returns c =
    c.in_ok-push_set.ensures
    ∙ ap (λ (s : RuleSet). c.args.to.now.items ++ set_issues c.args.line.now.place s)
    (c.line_rules.ensures ∙ ap (λ (f : Form6). line_rules c.args.name.now (form_of f)) c.deref.ensures)
