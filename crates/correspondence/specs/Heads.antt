-- When the head of a written procedure stands for that of one of the source.
use Rattle.std.specs.Prelude.{◌≡◌, ℕ, Bool, true, false, cond, not, ◌&&◌, List, [], ◌∷◌, Option, Some, None, slice_get}
use Rattle.std.specs.List.{flat_map}
use Rattle.vb_tree.specs.declared.declared.Owner.{Owner}
use Rattle.vb_tree.specs.declared.declared.Owner.TheVariants as owner
use Rattle.vb_tree.specs.declared.declared.ProcKind.{ProcKind}
use Rattle.vb_tree.specs.declared.declared.ProcKind.TheVariants as kind
use Rattle.vb_tree.specs.declared.declared.VarId.{VarId}
use Rattle.bound_tree.specs.Tree.{Variable, Procedure, Declarations}
use Rattle.net_tree.specs.declared.declaration.NetPassing.TheVariants as passing
use Rattle.net_tree.specs.Tree as net
use Rattle.net_run.specs.Members.{Code, params_of}
use Rattle.written_trees.specs.Heads.{written_visibility, result_type}
use Rattle.written_trees.specs.Names.{Scope}
use Rattle.written_trees.specs.Types.{variable_type}
use Rattle.run_statements.specs.Written.{first_type}
use Rattle.correspondence.specs.Lists.{Pairwise}

-- ---- parameters

abbrev pub numbered : ℕ → Option Variable → List (ℕ × Variable)
numbered v None = []
numbered v (Some x) = (v, x) ∷ []

-- the variables of these numbers; a bound program has one of each parameter
abbrev pub variables_at : Declarations → List VarId → List (ℕ × Variable)
variables_at D vs = flat_map (λ (v : VarId). numbered v.0 (slice_get D.vars v.0)) vs

abbrev pub goes_by_reference : Owner → Bool
goes_by_reference (owner.Module file) = false
goes_by_reference (owner.Local p) = false
goes_by_reference (owner.Static p) = false
goes_by_reference (owner.Value p) = false
goes_by_reference (owner.Reference p) = true
goes_by_reference (owner.Answer p) = false
goes_by_reference (owner.Field t) = false

-- A parameter has its name, its mode and the type that is written for its type. All of a property go by value.
pub record ParamCorresponds (S : Scope) (by_value : Bool) (v : ℕ × Variable) (w : net.Param) : Type 0 where
  pub name : w.name ≡ v.1.name
  pub mode : w.passing ≡ cond (not by_value && goes_by_reference v.1.owner) passing.Reference passing.Value
  pub ty : w.ty ≡ variable_type S.declarations S.facts S.file v.0 v.1

-- ---- heads

-- a Sub is written as one, and a Function as one: with the name, the visibility, the parameters and the result of the procedure
abbrev pub HeadCorresponds : Scope → Procedure → ProcKind → net.Head → Type 0
HeadCorresponds S x kind.Sub (net.sub visibility name params) =
    (visibility ≡ written_visibility x.visibility) × (name ≡ x.name) × Pairwise (ParamCorresponds S false) (variables_at S.declarations x.params) params
HeadCorresponds S x kind.Function (net.function visibility name params ty) =
    (visibility ≡ written_visibility x.visibility) × (name ≡ x.name) × Pairwise (ParamCorresponds S false) (variables_at S.declarations x.params) params
    × (ty ≡ result_type S x)
HeadCorresponds S x _ w = ⊥

-- ---- parts of properties

-- a Get is written as one, a Let or a Set as the Set
abbrev pub IsPartHead : ProcKind → net.Head → Type 0
IsPartHead kind.Get net.get_part = Unit {0}
IsPartHead kind.Let (net.set_part name ty) = Unit {0}
IsPartHead kind.Set (net.set_part name ty) = Unit {0}
IsPartHead k w = ⊥

-- The property that is written has the name of this part, and as its type what the head of the first part says. What the part takes, it takes
-- by value.
pub record PartHeadCorresponds (S : Scope) (x : Procedure) (w : net.Property) (code : Code) : Type 0 where
  pub name : w.name ≡ x.name
  pub head : IsPartHead x.kind code.procedure.head
  pub params : Pairwise (ParamCorresponds S true) (variables_at S.declarations x.params) (params_of code)
  pub ty : x.kind ≡ kind.Get → w.ty ≡ first_type S (slice_get S.declarations.procs x.first.0)
