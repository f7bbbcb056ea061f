use Rattle.form_parts.specs.Items.{deepest}
use Rattle.form_parts.specs.Parts.{IsBounds, bounds_depth}
use Rattle.declaration_forms.specs.Wholes.{AreItems}
use Rattle.declaration_forms.proofs.Making.{optional_fails}
use Rattle.declaration_forms.proofs.wholes.optional_dimensions.Goals as goal

pub returns-in-Err : goal.returns-in-Err
returns-in-Err c = rw c.in-Some.is (optional_fails (AreItems IsBounds) (deepest bounds_depth) c.in-Some.tokens.now c.in-Err.e c.in-Err.ensures)
