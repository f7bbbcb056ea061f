use Rattle.std.proofs.Common.{ap, ◌∙◌}
use Rattle.vb_tree.specs.declared.form.Form6.{Form6}
use Rattle.vb_tree.specs.View.{form_of}
use Rattle.declared_names.specs.Rules.{line_rules}
use Rattle.written_facts.proofs.statements.line_set.Goals as goal

pub returns : goal.returns
returns c = c.line_rules.ensures ∙ ap (λ (f : Form6). line_rules c.args.name.now (form_of f)) c.deref.ensures
