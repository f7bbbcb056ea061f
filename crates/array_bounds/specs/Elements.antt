-- Uses of arrays that don't fit their rank or their bounds (rule 11): an element with another number of indexes, the bound of a
-- dimension above the rank, and a fixed array that is given to a parameter which is made anew, erased or assigned whole.
use Rattle.std.specs.Prelude.{ℕ, suc, ◌+◌, Bool, true, false, not, ◌||◌, ◌&&◌, nat_eq, nat_lt, Option, Some, None, List, slice_get}
use Rattle.std.specs.List.{list_any}
use Rattle.vb_tree.specs.declared.bound.LibCall.{LibCall}
use Rattle.vb_tree.specs.declared.bound.LibCall.TheVariants as lib
use Rattle.vb_tree.specs.declared.declared.VarId.{VarId}
use Rattle.vb_tree.specs.declared.value.Value6.{Value6}
use Rattle.bound_tree.specs.Tree.{Expr, typed, Term, element, library, Exprs, no_exprs, next_expr, Argument, by_value, by_reference, Passed, no_passed, next_passed, Line, Declarations}
use Rattle.bound_facts.specs.Bounds.{array_at}
use Rattle.bound_facts.specs.Effects.{params_of}
use Rattle.bound_facts.specs.Folded.{folded}
use Rattle.bound_facts.specs.Node.{type_at, called, args_at}
use Rattle.bound_facts.specs.Nodes.{line_nodes}
use Rattle.typing_rows.specs.Library.{dimension_of}
use Rattle.array_bounds.specs.Known.{Known}
use Rattle.array_bounds.specs.Resizing.{breaks_form}
use Rattle.array_bounds.specs.Types.{is_fixed_array}

-- the rank of an array; 1 of what no declaration stands for
abbrev pub rank_at : Known → Option ℕ → ℕ
rank_at F None = 1
rank_at F (Some a) = F.rank a

abbrev pub count : Exprs → ℕ
count no_exprs = 0
count (next_expr e rest) = suc (count rest)

-- ---- the bounds of a dimension

abbrev pub is_bound_lib : LibCall → Bool
is_bound_lib lib.UBound = true
is_bound_lib lib.LBound = true
is_bound_lib _ = false

abbrev pub dimension_in : Option Value6 → Option ℕ
dimension_in None = None
dimension_in (Some x) = dimension_of x

abbrev pub is_above : Option ℕ → (rank : ℕ) → Bool
is_above None r = false
is_above (Some d) r = nat_lt r d

abbrev pub asks_above : Declarations → Known → Exprs → Bool
asks_above D F (next_expr e (next_expr d rest)) = is_above (dimension_in (folded d)) (rank_at F (array_at D e))
asks_above D F _ = false

-- ---- fixed arrays as arguments

abbrev pub given_expr : Argument → Expr
given_expr (by_value e) = e
given_expr (by_reference e) = e

abbrev pub is_resized_at : Known → Option VarId → Bool
is_resized_at F None = false
is_resized_at F (Some w) = F.resized w.0

-- a fixed array among arguments, to the parameters from one on
abbrev pub gives_fixed : Known → List VarId → ℕ → Passed → Bool
gives_fixed F params i no_passed = false
gives_fixed F params i (next_passed a rest) = (is_fixed_array (type_at (given_expr a)) && is_resized_at F (slice_get params i)) || gives_fixed F params (i + 1) rest

-- ---- nodes

abbrev pub misfits_in : Declarations → Known → Term → Bool
misfits_in D F (element e indexes) = not (nat_eq (count indexes) (rank_at F (array_at D e)))
misfits_in D F (library function args) = is_bound_lib function && asks_above D F args
misfits_in D F _ = false

abbrev pub misfits : Declarations → Known → Expr → Bool
misfits D F (typed ty t) = misfits_in D F t

-- whether a node uses an array so
abbrev pub breaks_node : Declarations → Known → Expr → Bool
breaks_node D F e = misfits D F e || gives_fixed F (params_of D.procs (called e)) 0 (args_at e)

abbrev pub breaks_forms : Declarations → Known → Line → Bool
breaks_forms D F l = breaks_form l.source.form l.bindings.exprs || list_any (breaks_node D F) (line_nodes l)
