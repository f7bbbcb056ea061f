-- Lines that give arrays of an element type other elements as a whole, and the procedures that reach one: while an element of
-- such an array is bound to a parameter, the array is locked.
use Rattle.std.specs.Prelude.{◌↔◌, IsTrue, ℕ, suc, Bool, true, false, cond, nat_eq, Option, Some, None, List, [], ◌∷◌, ◌++◌, map, slice_get, length, option_to_list}
use Rattle.std.specs.List.{list_any, flat_map}
use Rattle.vb_tree.specs.BoundTree.{Ty, boolean, byte, integer, long, currency, str, fixed, user, class, object, variant, array, nothing, unknown}
use Rattle.vb_tree.specs.declared.declared.VarId.{VarId}
use Rattle.bound_tree.specs.declared.declared.TypeDecl.{TypeDecl}
use Rattle.bound_tree.specs.Tree.{Expr, Line, Variable, Declarations, Program}
use Rattle.bound_facts.specs.Calls.{ReachesOne}
use Rattle.bound_facts.specs.Effects.{resized_stores}
use Rattle.bound_facts.specs.Items.{project_items}
use Rattle.bound_facts.specs.Leading.{LeadsTo}
use Rattle.bound_facts.specs.Node.{type_at}

-- equal types; of arrays the element types alone are compared
abbrev pub is_same_type : Ty → Ty → Bool
is_same_type boolean boolean = true
is_same_type byte byte = true
is_same_type integer integer = true
is_same_type long long = true
is_same_type currency currency = true
is_same_type str str = true
is_same_type (fixed m) (fixed n) = nat_eq m n
is_same_type (user m) (user n) = nat_eq m n
is_same_type (class m) (class n) = nat_eq m n
is_same_type object object = true
is_same_type variant variant = true
is_same_type (array x m) (array y n) = is_same_type x y
is_same_type nothing nothing = true
is_same_type unknown unknown = true
is_same_type _ _ = false

abbrev pub is_array_of : Ty → Ty → Bool
is_array_of e (array x rank) = is_same_type e x
is_array_of e _ = false

-- ---- arrays in user types, at any depth

abbrev pub user_in : Ty → Option ℕ
user_in (user t) = Some t
user_in (array (user t) rank) = Some t
user_in _ = None

abbrev pub type_of_variable : Option Variable → List Ty
type_of_variable None = []
type_of_variable (Some v) = v.ty ∷ []

abbrev pub field_types : Declarations → TypeDecl → List Ty
field_types D d = flat_map (λ (f : VarId). type_of_variable (slice_get D.vars f.0)) d.fields

-- the pairs of a user type, numbered from t, and one that a field of it has or has an array of
abbrev pub pairs_from : Declarations → ℕ → List TypeDecl → List (ℕ × ℕ)
pairs_from D t [] = []
pairs_from D t (d ∷ ds) = map (λ u. (t, u)) (flat_map (λ ty. option_to_list (user_in ty)) (field_types D d)) ++ pairs_from D (suc t) ds

abbrev pub type_pairs : Declarations → List (ℕ × ℕ)
type_pairs D = pairs_from D 0 D.types

-- the user types, numbered from t, with a field that is an array of the type e
abbrev pub holders_from : Declarations → Ty → ℕ → List TypeDecl → List ℕ
holders_from D e t [] = []
holders_from D e t (d ∷ ds) = cond (list_any (is_array_of e) (field_types D d)) (t ∷ []) [] ++ holders_from D e (suc t) ds

-- a user type holds an array of the type e, in itself or in the types of its fields
abbrev pub HoldsArray : Declarations → Ty → ℕ → Type 0
HoldsArray D e t = LeadsTo (length D.types) (type_pairs D) (holders_from D e 0 D.types) t

-- ---- lines

abbrev pub makes_anew : (holds : ℕ → Bool) → Ty → Ty → Bool
makes_anew holds e (array x rank) = is_same_type e x
makes_anew holds e (user t) = holds t
makes_anew holds e _ = false

-- whether a line gives an array of elements of the type e other elements as a whole, by itself or in a user type
abbrev pub is_locking_line : (holds : ℕ → Bool) → Ty → Line → Bool
is_locking_line holds e l = list_any (λ x. makes_anew holds e (type_at x)) (resized_stores l.source.form l.bindings.exprs)

abbrev pub lock_items : (holds : ℕ → Bool) → Ty → ℕ → Line → List ℕ
lock_items holds e i l = cond (is_locking_line holds e l) (i ∷ []) []

-- the procedures with such a line
abbrev pub lockers : Program → (holds : ℕ → Bool) → Ty → List ℕ
lockers P holds e = project_items (lock_items holds e) P.bodies

-- a chain of calls leads from a procedure to one with such a line
pub record Locks (P : Program) (e : Ty) (p : ℕ) : Type 0 where
  pub holds : ℕ → Bool
  pub are_held : (t : ℕ) → IsTrue (holds t) ↔ HoldsArray P.declarations e t
  pub reaches : ReachesOne P (lockers P holds e) p

-- neither the procedure nor anything that it reaches has one: it keeps the arrays of elements of the type
abbrev pub Keeps : Program → ℕ → Ty → Type 0
Keeps P p e = Locks P e p → ⊥
