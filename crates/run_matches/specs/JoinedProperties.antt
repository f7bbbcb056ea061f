-- Properties whose parts are written as one.
use Rattle.std.specs.Prelude.{ℕ, Bool, true, false, cond, not, ◌&&◌, ◌||◌, nat_eq, Option, Some, None, is_some, List, [], ◌∷◌, slice_get}
use Rattle.std.specs.Cmp.Lexicographic.{pointwise}
use Rattle.std.specs.List.{list_all}
use Rattle.vb_tree.specs.declared.declared.ProcKind.TheVariants as kind
use Rattle.vb_tree.specs.declared.declared.VarId.{VarId}
use Rattle.bound_tree.specs.Tree.{Variable, Procedure, Declarations}
use Rattle.bound_facts.specs.Locks.{is_same_type}
use Rattle.written_trees.specs.Arguments.{is_property_kind}
use Rattle.written_trees.specs.Heads.{index_params, is_function}
use Rattle.written_trees.specs.Names.{procedure_name}
use Rattle.written_trees.specs.Properties.{is_counted, is_kind, part_number}
use Rattle.written_trees.specs.Puts.{last_of}
use Rattle.run_matches.specs.CoveredVariables.{covers_type}

abbrev pub is_empty : {A : Type 0} → List A → Bool
is_empty [] = true
is_empty (x ∷ xs) = false

abbrev pub has_no_index : Procedure → Bool
has_no_index q = is_empty (index_params q)

-- all that has this first part is a part of the property
abbrev pub are_parts : Declarations → (first : ℕ) → Bool
are_parts D first = list_all (λ (q : Procedure). cond (nat_eq q.first.0 first) (is_property_kind q.kind) true) D.procs

-- an index parameter is a scalar, and the first part has one of its name and type in its place
abbrev pub is_like_param : Option Variable → Option Variable → Bool
is_like_param None y = false
is_like_param (Some x) None = false
is_like_param (Some x) (Some y) = covers_type x.ty && (is_same_type x.ty y.ty && pointwise nat_eq x.name y.name)

abbrev pub are_like_params : Declarations → List VarId → List VarId → Bool
are_like_params D [] [] = true
are_like_params D [] (w ∷ ws) = false
are_like_params D (v ∷ vs) [] = false
are_like_params D (v ∷ vs) (w ∷ ws) = is_like_param (slice_get D.vars v.0) (slice_get D.vars w.0) && are_like_params D vs ws

-- what a part gives or takes: the result variable of a Get, and the last parameter of a Let or Set
abbrev pub part_value : Procedure → Option VarId
part_value q = cond (is_function q.kind) q.answer (last_of q.params)

abbrev pub have_same_type : Option Variable → Option Variable → Bool
have_same_type None y = false
have_same_type (Some x) None = false
have_same_type (Some x) (Some y) = is_same_type x.ty y.ty

abbrev pub variable_at : Declarations → Option VarId → Option Variable
variable_at D None = None
variable_at D (Some v) = slice_get D.vars v.0

abbrev pub is_like_first : Declarations → Procedure → Option Procedure → Bool
is_like_first D q None = false
is_like_first D q (Some first) =
    have_same_type (variable_at D (part_value q)) (variable_at D (part_value first)) && are_like_params D (index_params q) (index_params first)

-- the part of its kind; a Set is one where there is no Let
abbrev pub is_placed_part : Declarations → (procedure : ℕ) → Procedure → Bool
is_placed_part D p q = is_counted D p q && (not (is_kind kind.Set q.kind) || not (is_some (part_number D kind.Let q.first.0)))

-- a part of a property that goes by its own name, with a value and index parameters like those of the first part
abbrev pub is_joined : Declarations → (procedure : ℕ) → Procedure → Bool
is_joined D p q =
    (are_parts D q.first.0 && is_placed_part D p q)
    && (pointwise nat_eq (procedure_name D q.first.0) q.name && is_like_first D q (slice_get D.procs q.first.0))
