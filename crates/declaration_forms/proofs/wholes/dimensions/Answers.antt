use Rattle.vb_tree.specs.View.{bounds_of}
use Rattle.form_parts.specs.Items.{deepest}
use Rattle.form_parts.specs.Parts.{IsBounds, bounds_depth}
use Rattle.declaration_forms.proofs.Making.{items_answer}
use Rattle.declaration_forms.proofs.wholes.dimensions.Goals as goal

pub returns-in_default : goal.returns-in_default
returns-in_default c = items_answer IsBounds bounds_depth bounds_of (deepest bounds_depth) c.args.tokens.now c.items.result c.in_default.len_at_least c.items.ensures
