-- The declarations of a project with the types that they name.
use Rattle.std.specs.Prelude.{Option, Some, None, List, map, slice_get}
use Rattle.vb_tree.specs.BoundTree.{Ty, nothing, unknown}
use Rattle.vb_tree.specs.declared.declared.VarId.{VarId}
use Rattle.vb_tree.specs.Tree.{Project}
use Rattle.bound_tree.specs.Tree.{Declarations, Procedure, Variable}
use Rattle.declared_names.specs.Declaring.{Lists, NamedVariable}
use Rattle.declarations.specs.Bare.{bare, bare_of, bare_variable}
use Rattle.declarations.specs.NamedTypes.{Choice, in_array, rank_of, single}
use Rattle.declarations.specs.Places.{file_of}

abbrev pub choice_of : Declarations → NamedVariable → Choice
choice_of D x = single D (file_of D x.owner) x.name x.suffix x.auto x.ty

abbrev pub with_choice : NamedVariable → Choice → Variable
with_choice x c = record (bare_variable x) {
  ty = in_array (rank_of x.bounds) c.ty;
  named = in_array (rank_of x.bounds) c.ty;
  qualified = c.qualified;
  lettered = c.lettered;
}

abbrev pub typed_variable : Declarations → NamedVariable → Variable
typed_variable D x = with_choice x (choice_of D x)

abbrev pub named_in : Option Variable → Ty
named_in None = unknown
named_in (Some x) = x.named

-- the type of a result variable, and Nothing where there is none
abbrev pub result_of : List Variable → Option VarId → Ty
result_of vs None = nothing
result_of vs (Some w) = named_in (slice_get vs w.0)

abbrev pub with_result : List Variable → Procedure → Procedure
with_result vs p = record p { result = result_of vs p.answer }

abbrev pub typed_variables : Project → Lists → List Variable
typed_variables P L = map (typed_variable (bare P L)) L.vars

abbrev pub typed : Project → Lists → Declarations
typed P L = record (bare P L) { vars = typed_variables P L; procs = map (with_result (typed_variables P L)) (bare_of L) }
