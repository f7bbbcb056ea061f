-- Declarations of arrays without one lower bound (rule 9) or of a form that isn't translated, and heads of procedures whose
-- result or value is an array or holds one (rule 11).
use Rattle.std.specs.Prelude.{ℕ, Bool, false, ◌||◌, ◌&&◌, Option, Some, None, List, [], ◌∷◌, slice_get}
use Rattle.vb_tree.specs.BoundTree.{Ty, array}
use Rattle.vb_tree.specs.declared.declared.ProcKind.{ProcKind}
use Rattle.vb_tree.specs.declared.declared.ProcKind.TheVariants as kind
use Rattle.vb_tree.specs.declared.declared.VarId.{VarId}
use Rattle.bound_tree.specs.Tree.{Variable, Procedure, Declarations}
use Rattle.bound_facts.specs.Node.{is_array_type}
use Rattle.array_bounds.specs.Known.{Known}
use Rattle.array_bounds.specs.Types.{is_user_that}

-- ---- variables

abbrev pub splits_variable : Known → ℕ → Variable → Bool
splits_variable F k v = is_array_type v.ty && F.splits k

-- an array of a user type that holds an array or a fixed string
abbrev pub is_array_of_made : Known → Ty → Bool
is_array_of_made F (array ty rank) = is_user_that F.holds_made ty
is_array_of_made F _ = false

abbrev pub breaks_variable : Known → ℕ → Variable → Bool
breaks_variable F k v = (is_array_type v.ty && F.tears k) || is_array_of_made F v.ty

-- ---- heads

abbrev pub last_or : Option VarId → List VarId → Option VarId
last_or o [] = o
last_or o (v ∷ vs) = last_or (Some v) vs

abbrev pub last_of : List VarId → Option VarId
last_of vs = last_or None vs

abbrev pub type_in : Option Variable → Option Ty
type_in None = None
type_in (Some v) = Some v.ty

abbrev pub variable_type : Declarations → Option VarId → Option Ty
variable_type D None = None
variable_type D (Some v) = type_in (slice_get D.vars v.0)

-- the type of a function or of a part of a property: that of its result, or of the value that it takes
abbrev pub type_of_kind : Declarations → Procedure → ProcKind → Option Ty
type_of_kind D p kind.Sub = None
type_of_kind D p kind.Function = Some p.result
type_of_kind D p kind.Get = Some p.result
type_of_kind D p kind.Let = variable_type D (last_of p.params)
type_of_kind D p kind.Set = variable_type D (last_of p.params)

abbrev pub is_array_or_holds : Known → Option Ty → Bool
is_array_or_holds F None = false
is_array_or_holds F (Some ty) = is_array_type ty || is_user_that F.holds_array ty

abbrev pub breaks_head : Declarations → Known → Procedure → Bool
breaks_head D F p = is_array_or_holds F (type_of_kind D p p.kind)
