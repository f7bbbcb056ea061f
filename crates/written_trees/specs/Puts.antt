-- Assignments: the value in the form of its target, and the function that evaluates it before the target.
use Rattle.std.specs.Prelude.{ℕ, Bool, true, false, cond, ◌&&◌, List, [], ◌∷◌, ◌++◌, codes, Option, Some, None}
use Rattle.std.specs.List.{list_any}
use Rattle.vb_tree.specs.BoundTree as vb
use Rattle.vb_tree.specs.BoundTree.{Ty}
use Rattle.vb_tree.specs.declared.declared.VarId.{VarId}
use Rattle.bound_tree.specs.Tree.{Declarations, Expr, typed, Term, field, element}
use Rattle.bound_facts.specs.CanRaise.{raises, can_raise}
use Rattle.bound_facts.specs.Effects.{params_of}
use Rattle.bound_facts.specs.Node.{type_at, called, declared_at, is_object_type}
use Rattle.bound_facts.specs.Nodes.{nodes, nodes_in, nodes_of_all}
use Rattle.net_tree.specs.Tree as net
use Rattle.net_tree.specs.Types.{TypeName}
use Rattle.written_trees.specs.Facts.{Facts}
use Rattle.written_trees.specs.Names.{Scope, member, support, copy_name}
use Rattle.written_trees.specs.Types.{type_with}
use Rattle.written_trees.specs.Literals.{number}
use Rattle.written_trees.specs.Conversions.{one, two, support_call}
use Rattle.written_trees.specs.Exprs.{exp_of}

-- ---- the value in the form of its target

abbrev pub last_of : List VarId → Option VarId
last_of [] = None
last_of (v ∷ []) = Some v
last_of (v ∷ w ∷ vs) = last_of (w ∷ vs)

abbrev pub number_of : Option VarId → Option ℕ
number_of None = None
number_of (Some v) = Some v.0

abbrev pub or_else : Option ℕ → Option ℕ → Option ℕ
or_else (Some v) other = Some v
or_else None other = other

-- the variable that declares what a target is: the last parameter of the part of a property takes its value
abbrev pub target_variable : Declarations → Expr → Option ℕ
target_variable D e = or_else (declared_at D e) (number_of (last_of (params_of D.procs (called e))))

abbrev pub rank_of : Facts → Option ℕ → ℕ
rank_of F None = 1
rank_of F (Some v) = F.rank v

abbrev pub target_rank : Scope → (target : Expr) → ℕ
target_rank S e = rank_of S.facts (target_variable S.declarations e)

-- an array is copied as a whole
abbrev pub array_copy : TypeName → net.Exp → net.Exp
array_copy ty a = net.ctype (net.call_of (member a (codes "Clone")) net.no_exps) ty

abbrev pub user_copy : (holds : Bool) → (user_type : ℕ) → net.Exp → net.Exp
user_copy holds t a = cond holds (support_call (copy_name t) (one a)) a

abbrev pub formed : Scope → (rank : ℕ) → Ty → net.Exp → net.Exp
formed S rank (vb.array e declared) a = array_copy (type_with S.declarations S.file false rank (vb.array e declared)) a
formed S rank (vb.fixed units) a = support_call (codes "Fix") (two a (number units))
formed S rank (vb.user t) a = user_copy (S.facts.holds_array t) t a
formed S rank ty a = a

-- a value that goes to a target; one without a type takes its form too
abbrev pub stored_value : Scope → (target value : Expr) → net.Exp
stored_value S to e = formed S (target_rank S to) (type_at to) (exp_of S e)

-- ---- Put functions

-- what .NET evaluates of a target before the right side: the indexes and the array variable of an element, and the object before a
-- member. The last index and the last object are checked at the store.
abbrev mutual
  pub before_store : Expr → List Expr
  before_store (typed ty t) = before_store_in t

  pub before_store_in : Term → List Expr
  before_store_in (field e k) = cond (is_object_type (type_at e)) (nodes e) (before_store e)
  before_store_in (element e indexes) = nodes e ++ nodes_of_all indexes
  before_store_in t = nodes_in t

-- the type by which the function is named
abbrev pub put_type : Ty → Option (List ℕ)
put_type vb.boolean = Some (codes "Boolean")
put_type vb.byte = Some (codes "Byte")
put_type vb.integer = Some (codes "Short")
put_type vb.long = Some (codes "Integer")
put_type vb.currency = Some (codes "Decimal")
put_type vb.str = Some (codes "String")
put_type (vb.fixed units) = Some (codes "String")
put_type vb.variant = Some (codes "Object")
put_type _ = None

abbrev pub is_part_in : Term → Bool
is_part_in (field e k) = true
is_part_in (element e indexes) = true
is_part_in _ = false

-- an element or a field
abbrev pub is_part : Expr → Bool
is_part (typed ty t) = is_part_in t

-- whether both the target and the value can raise, so that their order shows
abbrev pub order_shows : Declarations → (target value : Expr) → Bool
order_shows D to e = is_part to && list_any (raises D) (before_store to) && can_raise D e

abbrev pub put_line : (ty : List ℕ) → (target value : net.Exp) → net.Line
put_line ty t a = net.call (net.path (support (codes "Put" ++ ty))) (two a t)

abbrev pub store_by : Bool → Option (List ℕ) → (target value : net.Exp) → net.Line
store_by shows None t a = net.assign t a
store_by shows (Some ty) t a = cond shows (put_line ty t a) (net.assign t a)

-- an assignment
abbrev pub store_line : Scope → (target value : Expr) → net.Line
store_line S to e = store_by (order_shows S.declarations to e) (put_type (type_at to)) (exp_of S to) (stored_value S to e)
