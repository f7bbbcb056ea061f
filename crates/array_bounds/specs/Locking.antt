-- Elements of arrays that are given to reference parameters while the array may be given other elements as a whole (rule 10).
use Rattle.std.specs.Prelude.{ℕ, ◌+◌, Bool, false, cond, not, ◌||◌, ◌&&◌, nat_eq, Option, Some, None, List, [], ◌++◌, option_to_list}
use Rattle.std.specs.List.{flat_map, list_any}
use Rattle.vb_tree.specs.BoundTree.{Ty}
use Rattle.bound_tree.specs.Tree.{Expr, typed, Term, field, element, Argument, by_value, by_reference, Passed, no_passed, next_passed, Line, Declarations, Program}
use Rattle.bound_facts.specs.Calls.{initialized}
use Rattle.bound_facts.specs.Facts.{some_is}
use Rattle.bound_facts.specs.Node.{type_at, called, args_at, is_object_type}
use Rattle.bound_facts.specs.Nodes.{nodes, line_nodes}
use Rattle.array_bounds.specs.Elements.{given_expr}
use Rattle.array_bounds.specs.Known.{Known}

-- the type of the element that an expression is or is a part of, by fields of user types
abbrev mutual
  pub element_type : Expr → Option Ty
  element_type (typed ty t) = element_type_in ty t

  pub element_type_in : Ty → Term → Option Ty
  element_type_in ty (element e indexes) = Some ty
  element_type_in ty (field e k) = cond (is_object_type (type_at e)) None (element_type e)
  element_type_in ty _ = None

-- that of an element that is given by reference
abbrev pub bound_element : Argument → Option Ty
bound_element (by_value e) = None
bound_element (by_reference e) = element_type e

-- whether a node enters a procedure that passes
abbrev pub enters : Declarations → (ℕ → Bool) → Expr → Bool
enters D locks e = some_is locks (called e) || some_is locks (initialized D e)

abbrev pub enters_by : Declarations → (ℕ → Bool) → Argument → Bool
enters_by D locks a = list_any (enters D locks) (nodes (given_expr a))

-- whether an argument but the i-th does, of arguments that are numbered from j
abbrev pub others_enter : Declarations → (ℕ → Bool) → (i j : ℕ) → Passed → Bool
others_enter D locks i j no_passed = false
others_enter D locks i j (next_passed a rest) = (not (nat_eq j i) && enters_by D locks a) || others_enter D locks i (j + 1) rest

-- whether arrays of the type of an element may be made anew while it is bound: by the procedure or by another argument
abbrev pub may_lock : Declarations → Known → (procedure : ℕ) → Passed → ℕ → Option Ty → Bool
may_lock D F p all i None = false
may_lock D F p all i (Some ty) = F.locks ty p || others_enter D (F.locks ty) i 0 all

abbrev pub locks_from : Declarations → Known → (procedure : ℕ) → (all : Passed) → ℕ → Passed → Bool
locks_from D F p all i no_passed = false
locks_from D F p all i (next_passed a rest) = may_lock D F p all i (bound_element a) || locks_from D F p all (i + 1) rest

abbrev pub locks_by : Declarations → Known → Option ℕ → Passed → Bool
locks_by D F None args = false
locks_by D F (Some p) args = locks_from D F p args 0 args

abbrev pub breaks_locks : Declarations → Known → Line → Bool
breaks_locks D F l = list_any (λ e. locks_by D F (called e) (args_at e)) (line_nodes l)

-- ---- the types that are asked for

abbrev pub bound_elements : Passed → List Ty
bound_elements no_passed = []
bound_elements (next_passed a rest) = option_to_list (bound_element a) ++ bound_elements rest

abbrev pub line_elements : Line → List Ty
line_elements l = flat_map (λ e. bound_elements (args_at e)) (line_nodes l)

-- the types of the elements that lines give by reference
abbrev pub elements : Program → List Ty
elements P = flat_map (flat_map line_elements) P.bodies
