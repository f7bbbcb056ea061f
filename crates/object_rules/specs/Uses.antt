-- As New variables that are given by reference, and those that a With keeps.
use Rattle.std.specs.Prelude.{Bool, false, ◌||◌, ◌&&◌, is_some, List}
use Rattle.std.specs.List.{list_any}
use Rattle.vb_tree.specs.Tree.{Form, with_head}
use Rattle.bound_tree.specs.Tree.{Expr, Argument, by_value, by_reference, Passed, no_passed, next_passed, Line, Declarations}
use Rattle.bound_facts.specs.Node.{declared_at, created, args_at}
use Rattle.bound_facts.specs.Nodes.{line_nodes}

-- whether an expression is a variable or a field whose use makes an object
abbrev pub is_auto_use : Declarations → Expr → Bool
is_auto_use D e = is_some (declared_at D e) && is_some (created D e)

-- One of another type than the parameter's is converted, and so given by its value.
abbrev pub gives_auto : Declarations → Argument → Bool
gives_auto D (by_value e) = false
gives_auto D (by_reference e) = is_auto_use D e

abbrev pub gives_among : Declarations → Passed → Bool
gives_among D no_passed = false
gives_among D (next_passed a rest) = gives_auto D a || gives_among D rest

-- whether a node is a call that gives one by reference
abbrev pub gives : Declarations → Expr → Bool
gives D e = gives_among D (args_at e)

-- whether a line is a With over one
abbrev pub keeps_auto : Declarations → Form → List Expr → Bool
keeps_auto D (with_head object) es = list_any (is_auto_use D) es
keeps_auto D _ es = false

abbrev pub breaks_use : Declarations → Line → Bool
breaks_use D l = keeps_auto D l.source.form l.bindings.exprs || list_any (gives D) (line_nodes l)
