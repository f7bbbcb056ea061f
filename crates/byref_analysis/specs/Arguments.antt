-- Arguments that don't fit their reference parameters.
use Rattle.std.specs.Prelude.{ℕ, suc, Bool, true, false, not, ◌||◌, ◌&&◌, Option, Some, None, List, slice_get}
use Rattle.std.specs.List.{list_any}
use Rattle.vb_tree.specs.declared.declared.VarId.{VarId}
use Rattle.bound_tree.specs.Tree.{Expr, typed, Term, field, convert, Argument, by_value, by_reference, Passed, no_passed, next_passed, Line, Procedure}
use Rattle.bound_facts.specs.Effects.{params_of}
use Rattle.bound_facts.specs.Node.{type_at, called, args_at, is_object_type}
use Rattle.bound_facts.specs.Nodes.{line_nodes, nodes_of_argument}
use Rattle.byref_analysis.specs.Properties.{is_part}

-- ---- what is given

-- an object's field through a member access, or a field of a user type in it; an element of an array in it is none
abbrev mutual
  pub is_object_field : Expr → Bool
  is_object_field (typed ty t) = is_object_field_in t

  pub is_object_field_in : Term → Bool
  is_object_field_in (field e k) = is_object_type (type_at e) || is_object_field e
  is_object_field_in _ = false

-- a variable of another type than its parameter's
abbrev pub is_converted_in : Term → Bool
is_converted_in (convert to e) = true
is_converted_in _ = false

abbrev pub is_converted : Expr → Bool
is_converted (typed ty t) = is_converted_in t

-- whether it has no address that its parameter can take
abbrev pub is_unfit : Argument → Bool
is_unfit (by_value e) = false
is_unfit (by_reference e) = is_converted e || is_object_field e

abbrev pub is_by_reference : Argument → Bool
is_by_reference (by_value e) = false
is_by_reference (by_reference e) = true

-- ---- parameters that aren't quiet

abbrev pub is_loud_param : (quiet : ℕ → Bool) → Option VarId → Bool
is_loud_param quiet None = false
is_loud_param quiet (Some w) = not (quiet w.0)

-- whether such an argument is among those from place i on, at a parameter that isn't quiet
abbrev pub misfits_from : (quiet : ℕ → Bool) → List VarId → ℕ → Passed → Bool
misfits_from quiet params i no_passed = false
misfits_from quiet params i (next_passed a rest) = (is_unfit a && is_loud_param quiet (slice_get params i)) || misfits_from quiet params (suc i) rest

-- whether a node gives one
abbrev pub misfits : List Procedure → (quiet : ℕ → Bool) → Expr → Bool
misfits procs quiet e = misfits_from quiet (params_of procs (called e)) 0 (args_at e)

-- ---- index parameters of properties, which take the values that variables have before later arguments are evaluated

abbrev pub stirs_in : (stirs : Expr → Bool) → Argument → Bool
stirs_in stirs a = list_any stirs (nodes_of_argument a)

abbrev pub some_stir : (stirs : Expr → Bool) → Passed → Bool
some_stir stirs no_passed = false
some_stir stirs (next_passed a rest) = stirs_in stirs a || some_stir stirs rest

-- whether a variable is given by reference and a later argument has a stirring use
abbrev pub stirs_later : (stirs : Expr → Bool) → Passed → Bool
stirs_later stirs no_passed = false
stirs_later stirs (next_passed a rest) = (is_by_reference a && some_stir stirs rest) || stirs_later stirs rest

abbrev pub is_part_at : Option Procedure → Bool
is_part_at None = false
is_part_at (Some p) = is_part p.kind

abbrev pub calls_part : List Procedure → Option ℕ → Bool
calls_part procs None = false
calls_part procs (Some p) = is_part_at (slice_get procs p)

-- whether a node is the use of a part of a property with such index arguments
abbrev pub stirs_indexes : List Procedure → (stirs : Expr → Bool) → Expr → Bool
stirs_indexes procs stirs e = calls_part procs (called e) && stirs_later stirs (args_at e)

-- ---- lines

-- whether an argument of a line doesn't fit, by tests that tell which parameters are quiet and which uses are stirring
abbrev pub breaks_arguments : List Procedure → (quiet : ℕ → Bool) → (stirs : Expr → Bool) → Line → Bool
breaks_arguments procs quiet stirs l = list_any (misfits procs quiet) (line_nodes l) || list_any (stirs_indexes procs stirs) (line_nodes l)
