-- Properties with an index parameter by reference that isn't quiet.
use Rattle.std.specs.Prelude.{ℕ, Bool, true, false, cond, not, ◌&&◌, nat_lt, Option, Some, None, List, [], ◌∷◌, length, slice_get}
use Rattle.std.specs.List.{flat_map, list_any}
use Rattle.vb_tree.specs.declared.declared.Owner.{Owner}
use Rattle.vb_tree.specs.declared.declared.Owner.TheVariants as owner
use Rattle.vb_tree.specs.declared.declared.ProcKind.{ProcKind}
use Rattle.vb_tree.specs.declared.declared.ProcKind.TheVariants as kind
use Rattle.vb_tree.specs.declared.declared.VarId.{VarId}
use Rattle.bound_tree.specs.Tree.{Variable, Procedure, Declarations}
use Rattle.bound_facts.specs.Leading.{is_in}

-- whether a procedure is a part of a property
abbrev pub is_part : ProcKind → Bool
is_part kind.Get = true
is_part kind.Let = true
is_part kind.Set = true
is_part _ = false

abbrev pub is_reference_owner : Owner → Bool
is_reference_owner (owner.Reference p) = true
is_reference_owner _ = false

abbrev pub is_reference : Option Variable → Bool
is_reference None = false
is_reference (Some v) = is_reference_owner v.owner

-- whether a parameter takes a reference and isn't quiet; the value of a Let or a Set takes a value whatever is written
abbrev pub is_open : List Variable → (quiet : ℕ → Bool) → VarId → Bool
is_open vars quiet w = is_reference (slice_get vars w.0) && not (quiet w.0)

-- whether a procedure is a part of a property with such an index parameter
abbrev pub is_open_part : List Variable → (quiet : ℕ → Bool) → Procedure → Bool
is_open_part vars quiet p = is_part p.kind && list_any (is_open vars quiet) p.params

abbrev pub open_item : List Variable → (quiet : ℕ → Bool) → Procedure → List ℕ
open_item vars quiet p = cond (is_open_part vars quiet p) (p.first.0 ∷ []) []

-- the properties that have such a part, each by the number of its first part
abbrev pub open_properties : Declarations → (quiet : ℕ → Bool) → List ℕ
open_properties D quiet = flat_map (open_item D.vars quiet) D.procs

-- whether a property has such a part
abbrev pub is_open_property : Declarations → (quiet : ℕ → Bool) → ℕ → Bool
is_open_property D quiet first = nat_lt first (length D.procs) && is_in (open_properties D quiet) first

-- all heads of a property that has one break the rule
abbrev pub breaks_head : (opens : ℕ → Bool) → Procedure → Bool
breaks_head opens p = is_part p.kind && opens p.first.0
