use Rattle.vb_tree.specs.Expressions.{IsExpression, depth_of}
use Rattle.form_parts.specs.Parts.{IsTypeName, type_depth}
use Rattle.declaration_forms.proofs.Making.{optional_fails}
use Rattle.declaration_forms.proofs.wholes.optional_type.Goals as goal

pub returns-in-Err : goal.returns-in-Err
returns-in-Err c = rw c.in-Some.is (optional_fails IsTypeName type_depth c.in-Some.tokens.now c.in-Err.e c.in-Err.ensures)
