-- What is written for the heads of procedures, and what a property has of its parts' heads.
use Rattle.std.specs.Prelude.{ℕ, Bool, true, false, cond, List, [], ◌∷◌, Option, Some, None, option_map, slice_get}
use Rattle.std.specs.List.{flat_map}
use Rattle.vb_tree.specs.BoundTree.{Ty}
use Rattle.vb_tree.specs.declared.declared.Owner.{Owner}
use Rattle.vb_tree.specs.declared.declared.Owner.TheVariants as owner
use Rattle.vb_tree.specs.declared.declared.ProcKind.{ProcKind}
use Rattle.vb_tree.specs.declared.declared.ProcKind.TheVariants as kind
use Rattle.vb_tree.specs.declared.declared.VarId.{VarId}
use Rattle.vb_tree.specs.declared.form_parts.Visibility.{Visibility}
use Rattle.vb_tree.specs.declared.form_parts.Visibility.TheVariants as seen
use Rattle.bound_tree.specs.Tree.{Variable, Procedure, Declarations}
use Rattle.net_tree.specs.declared.declaration.NetPassing.{NetPassing}
use Rattle.net_tree.specs.declared.declaration.NetPassing.TheVariants as passing
use Rattle.net_tree.specs.declared.declaration.NetVisibility.{NetVisibility}
use Rattle.net_tree.specs.declared.declaration.NetVisibility.TheVariants as net_seen
use Rattle.net_tree.specs.Tree as net
use Rattle.net_tree.specs.Types as types
use Rattle.net_tree.specs.Types.{TypeName}
use Rattle.written_trees.specs.Names.{Scope}
use Rattle.written_trees.specs.Types.{type_with, written_type, variable_type}
use Rattle.written_trees.specs.Puts.{last_of}

-- ---- heads of procedures

abbrev pub written_visibility : Visibility → NetVisibility
written_visibility seen.Public = net_seen.Public
written_visibility seen.Global = net_seen.Public
written_visibility seen.Private = net_seen.Private
written_visibility seen.Friend = net_seen.Friend

abbrev pub passing_of : Owner → NetPassing
passing_of (owner.Reference p) = passing.Reference
passing_of _ = passing.Value

-- a parameter keeps its type whatever it breaks
abbrev pub param_by : Scope → (by_value : Bool) → (variable : ℕ) → Option Variable → List net.Param
param_by S by_value v None = []
param_by S by_value v (Some x) =
    record { passing = cond by_value passing.Value (passing_of x.owner); name = x.name; ty = variable_type S.declarations S.facts S.file v x } ∷ []

abbrev pub params_of : Scope → (by_value : Bool) → List VarId → List net.Param
params_of S by_value vs = flat_map (λ (v : VarId). param_by S by_value v.0 (slice_get S.declarations.vars v.0)) vs

abbrev pub variable_of : Declarations → Option VarId → Option (ℕ × Variable)
variable_of D None = None
variable_of D (Some v) = option_map (λ (x : Variable). (v.0, x)) (slice_get D.vars v.0)

-- the type of a result, which the head names for the result variable
abbrev pub result_by : Scope → Ty → Option (ℕ × Variable) → TypeName
result_by S ty None = written_type S ty
result_by S ty (Some v) = type_with S.declarations S.file v.1.qualified (S.facts.rank v.0) ty

abbrev pub result_type : Scope → Procedure → TypeName
result_type S q = result_by S q.result (variable_of S.declarations q.answer)

abbrev pub is_function : ProcKind → Bool
is_function kind.Function = true
is_function kind.Get = true
is_function _ = false

abbrev pub head_of : Scope → Procedure → List ℕ → net.Head
head_of S q name =
    cond (is_function q.kind)
    (net.function (written_visibility q.visibility) name (params_of S false q.params) (result_type S q))
    (net.sub (written_visibility q.visibility) name (params_of S false q.params))

-- ---- properties

-- the last parameter of a Let or Set takes the value
abbrev pub without_last : List VarId → List VarId
without_last [] = []
without_last (v ∷ []) = []
without_last (v ∷ w ∷ vs) = v ∷ without_last (w ∷ vs)

abbrev pub index_params : Procedure → List VarId
index_params q = cond (is_function q.kind) q.params (without_last q.params)

abbrev pub value_name : Option (ℕ × Variable) → List ℕ
value_name None = []
value_name (Some v) = v.1.name

abbrev pub value_type : Scope → Option (ℕ × Variable) → TypeName
value_type S None = types.object
value_type S (Some v) = variable_type S.declarations S.facts S.file v.0 v.1

abbrev pub value_parameter : Scope → Procedure → Option (ℕ × Variable)
value_parameter S q = variable_of S.declarations (last_of q.params)

abbrev pub property_type : Scope → Procedure → TypeName
property_type S q = cond (is_function q.kind) (result_type S q) (value_type S (value_parameter S q))

abbrev pub set_head : Scope → Procedure → net.Head
set_head S q = net.set_part (value_name (value_parameter S q)) (value_type S (value_parameter S q))
