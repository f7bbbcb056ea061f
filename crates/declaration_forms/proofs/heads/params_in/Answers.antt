use Rattle.vb_tree.specs.View.{param_of}
use Rattle.form_parts.specs.Items.{deepest}
use Rattle.declaration_forms.specs.Heads.{IsParam, param_depth}
use Rattle.declaration_forms.proofs.Making.{items_answer}
use Rattle.declaration_forms.proofs.heads.params_in.Goals as goal

pub returns-in_default : goal.returns-in_default
returns-in_default c = items_answer IsParam param_depth param_of (deepest param_depth) c.args.inside.now c.list.result c.in_default.len_at_least c.list.ensures
