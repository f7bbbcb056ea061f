-- What the code's head of a procedure stands for.
use Rattle.std.specs.Prelude.{Option, option_map}
use Rattle.vb_tree.specs.Tree.{Signature, ResultType}
use Rattle.vb_tree.specs.View.{signature_of, result_of}
use Rattle.declaration_forms.specs.declared.declaration.Head.{Head}

abbrev pub head_plain : Head → Signature × Option ResultType
head_plain h = (signature_of h.signature, option_map (λ r. result_of r.value) h.ty)
