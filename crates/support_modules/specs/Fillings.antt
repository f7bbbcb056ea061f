-- What the functions on user types set fields to.
use Rattle.std.specs.Prelude.{ℕ, List, ◌++◌, Option, slice_get}
use Rattle.vb_tree.specs.BoundTree.{Ty}
use Rattle.vb_tree.specs.declared.declared.VarId.{VarId}
use Rattle.bound_tree.specs.Tree.{Variable, Declarations}
use Rattle.bound_facts.specs.Members.{class_files}
use Rattle.net_tree.specs.Tree as net
use Rattle.written_trees.specs.Facts.{Facts}
use Rattle.written_trees.specs.Supports.{autos_from, copied_field, field_line, made_field, types_from}
use Rattle.support_text.specs.FixedFunctions.{fixed_functions}
use Rattle.support_modules.specs.declared.fields.Filling.{Filling}
use Rattle.support_modules.specs.declared.fields.Filling.TheVariants.{Made, Copied}

abbrev pub field_value : Filling → Declarations → Facts → (variable : ℕ) → Variable → Ty → Option net.Exp
field_value Made D F v x ty = made_field D F v x ty
field_value Copied D F v x ty = copied_field D F v x ty

unfoldable pub lines_of_field : Filling → Declarations → Facts → VarId → List net.Line
lines_of_field filling D F f = field_line (field_value filling D F) F f.0 (slice_get D.vars f.0)

abbrev pub all_functions : Declarations → Facts → List net.Procedure
all_functions D F = fixed_functions ++ (autos_from D 0 (class_files D.project) ++ types_from D F 0 D.types)
