-- What is written for an argument of a call, which is already written as an expression: as it stands, as a temporary in parentheses, or
-- as a copy.
use Rattle.std.specs.Prelude.{ℕ, Bool, true, false, cond, not, ◌&&◌, ◌||◌, Option, Some, None, slice_get}
use Rattle.vb_tree.specs.BoundTree as vb
use Rattle.vb_tree.specs.BoundTree.{Ty}
use Rattle.vb_tree.specs.declared.bound.LibCall.{LibCall}
use Rattle.vb_tree.specs.declared.declared.Owner.{Owner}
use Rattle.vb_tree.specs.declared.declared.Owner.TheVariants as owner
use Rattle.vb_tree.specs.declared.declared.ProcKind.{ProcKind}
use Rattle.vb_tree.specs.declared.declared.ProcKind.TheVariants as kind
use Rattle.vb_tree.specs.declared.declared.VarId.{VarId}
use Rattle.bound_tree.specs.Tree.{Variable, Procedure, Declarations, Expr, typed, Term, variable, field, element, call, library, convert, Exprs, no_exprs, next_expr, Argument, by_value, by_reference}
use Rattle.bound_facts.specs.Node.{type_at, is_array_type, is_object_type}
use Rattle.net_tree.specs.Tree as net
use Rattle.written_trees.specs.Facts.{Facts, holds_array}
use Rattle.written_trees.specs.Names.{Scope, copy_name}
use Rattle.written_trees.specs.Conversions.{one, support_call, writes_nothing}
use Rattle.written_trees.specs.Library.{conversion_of}

-- ---- what is given

abbrev pub is_property_kind : ProcKind → Bool
is_property_kind kind.Sub = false
is_property_kind kind.Function = false
is_property_kind kind.Get = true
is_property_kind kind.Let = true
is_property_kind kind.Set = true

abbrev pub is_property_at : Option Procedure → Bool
is_property_at None = false
is_property_at (Some p) = is_property_kind p.kind

-- a part of a property
abbrev pub is_property : Declarations → (procedure : ℕ) → Bool
is_property D p = is_property_at (slice_get D.procs p)

abbrev pub kept_if : Bool → (whole part : Expr) → Expr
kept_if nothing whole part = cond nothing part whole

-- what stands behind conversions that write nothing, calls of the library among them
abbrev mutual
  pub kept : Expr → Expr
  kept (typed ty t) = kept_in ty t

  pub kept_in : Ty → Term → Expr
  kept_in ty (convert to e) = kept_if (writes_nothing (type_at e) to) (typed ty (convert to e)) (kept e)
  kept_in ty (library f args) = kept_call ty f (conversion_of f) args
  kept_in ty t = typed ty t

  pub kept_call : Ty → LibCall → Option Ty → Exprs → Expr
  kept_call ty f None args = typed ty (library f args)
  kept_call ty f (Some to) no_exprs = typed ty (library f no_exprs)
  kept_call ty f (Some to) (next_expr e no_exprs) = kept_if (writes_nothing (type_at e) to) (typed ty (library f (next_expr e no_exprs))) (kept e)
  kept_call ty f (Some to) (next_expr e (next_expr g rest)) = typed ty (library f (next_expr e (next_expr g rest)))

-- .NET would take its address: a variable, an element, a field or a property
abbrev pub has_address_in : Declarations → Term → Bool
has_address_in D (variable v qualified) = true
has_address_in D (field e k) = true
has_address_in D (element e indexes) = true
has_address_in D (call p qualified of args) = is_property D p.0
has_address_in D _ = false

abbrev pub has_address : Declarations → Expr → Bool
has_address D (typed ty t) = has_address_in D t

abbrev pub is_copied_in : Term → Bool
is_copied_in (variable v qualified) = true
is_copied_in (field e k) = true
is_copied_in _ = false

-- a variable or a field
abbrev pub is_copied : Expr → Bool
is_copied (typed ty t) = is_copied_in t

-- an object's field through a member access, or a field of a user type in it; an element of an array in it is none
abbrev mutual
  pub is_object_field : Expr → Bool
  is_object_field (typed ty t) = is_object_field_in t

  pub is_object_field_in : Term → Bool
  is_object_field_in (field e k) = is_object_type (type_at e) || is_object_field e
  is_object_field_in _ = false

abbrev pub is_conversion_in : Term → Bool
is_conversion_in (convert to e) = true
is_conversion_in _ = false

abbrev pub is_conversion : Expr → Bool
is_conversion (typed ty t) = is_conversion_in t

-- what goes by reference has an address that VB6 takes: no converted variable, and no field of an object but an array
abbrev pub has_reference : Expr → Bool
has_reference e = is_array_type (type_at e) || not (is_conversion e || is_object_field e)

-- ---- what is written

abbrev pub copy_by : Ty → net.Exp → net.Exp
copy_by (vb.user t) a = support_call (copy_name t) (one a)
copy_by ty a = a

abbrev pub needs_copy : Facts → Expr → Bool
needs_copy F e = holds_array F (type_at e) && is_copied e

-- a value: a user type that holds an array is copied with it
abbrev pub value_exp : Facts → Expr → net.Exp → net.Exp
value_exp F e a = cond (needs_copy F e) (copy_by (type_at e) a) a

abbrev pub in_parentheses : Bool → net.Exp → net.Exp
in_parentheses test a = cond test (net.paren a) a

-- a temporary at a reference parameter
abbrev pub temporary_exp : Scope → Expr → net.Exp → net.Exp
temporary_exp S e a =
    cond (needs_copy S.facts e) (copy_by (type_at e) a) (in_parentheses (has_address S.declarations (kept e)) a)

abbrev pub reference_exp : Scope → Expr → net.Exp → net.Exp
reference_exp S e a = cond (has_reference e) a (temporary_exp S e a)

abbrev pub is_reference_owner : Owner → Bool
is_reference_owner (owner.Reference p) = true
is_reference_owner _ = false

abbrev pub takes_reference_at : Option Variable → Bool
takes_reference_at None = false
takes_reference_at (Some v) = is_reference_owner v.owner

abbrev pub takes_reference_of : Declarations → Option VarId → Bool
takes_reference_of D None = false
takes_reference_of D (Some v) = takes_reference_at (slice_get D.vars v.0)

abbrev pub parameter_in : Option Procedure → ℕ → Option VarId
parameter_in None i = None
parameter_in (Some p) i = slice_get p.params i

-- whether the parameter at a place takes a reference in VB6, which an index parameter may do too
abbrev pub takes_reference : Declarations → (procedure place : ℕ) → Bool
takes_reference D p i = takes_reference_of D (parameter_in (slice_get D.procs p) i)

-- an argument that is written `a`
abbrev pub argument_exp : Scope → (by_address : Bool) → Argument → net.Exp → net.Exp
argument_exp S by_address (by_value e) a = cond by_address (temporary_exp S e a) (value_exp S.facts e a)
argument_exp S by_address (by_reference e) a = reference_exp S e a
