-- What the binder asks of declarations by their numbers: the parts of properties, what they take and give, default members, and
-- the places of variables in their classes.
use Rattle.std.specs.Prelude.{ℕ, suc, Bool, true, false, cond, ◌&&◌, nat_eq, Option, Some, None, List, [], ◌∷◌, map, length, position, slice_get}
use Rattle.vb_tree.specs.BoundTree.{Ty, class, object, nothing, unknown}
use Rattle.vb_tree.specs.declared.declared.ProcId.{ProcId}
use Rattle.vb_tree.specs.declared.declared.ProcKind.{ProcKind}
use Rattle.vb_tree.specs.declared.declared.ProcKind.TheVariants as kind
use Rattle.vb_tree.specs.declared.declared.VarId.{VarId}
use Rattle.bound_tree.specs.Tree.{Variable, Procedure, Declarations}
use Rattle.bound_facts.specs.Members.{class_files, variables_from}

-- ---- properties

abbrev pub is_kind : ProcKind → ProcKind → Bool
is_kind kind.Sub kind.Sub = true
is_kind kind.Function kind.Function = true
is_kind kind.Get kind.Get = true
is_kind kind.Let kind.Let = true
is_kind kind.Set kind.Set = true
is_kind _ _ = false

abbrev pub is_property : ProcKind → Bool
is_property kind.Sub = false
is_property kind.Function = false
is_property kind.Get = true
is_property kind.Let = true
is_property kind.Set = true

abbrev pub is_part : (first : ℕ) → ProcKind → Procedure → Bool
is_part first k q = nat_eq q.first.0 first && is_kind k q.kind

-- the part of a kind of the property with this first part; of two the first
abbrev pub part : Declarations → ProcKind → (first : ℕ) → Option ℕ
part D k first = position (is_part first k) D.procs

-- the procedure that gives the value of a procedure or of a property
abbrev pub value_part_of : Declarations → ℕ → Option Procedure → Option ℕ
value_part_of D p None = None
value_part_of D p (Some q) = cond (is_property q.kind) (part D kind.Get q.first.0) (Some p)

abbrev pub value_part : Declarations → ℕ → Option ℕ
value_part D p = value_part_of D p (slice_get D.procs p)

-- the part of a property that is given a value
abbrev pub store_part_of : Declarations → ProcKind → Option Procedure → Option ℕ
store_part_of D k None = None
store_part_of D k (Some q) = cond (is_property q.kind) (part D k q.first.0) None

abbrev pub store_part : Declarations → ProcKind → ℕ → Option ℕ
store_part D k p = store_part_of D k (slice_get D.procs p)

abbrev pub has_kind : ProcKind → Option Procedure → Bool
has_kind k None = false
has_kind k (Some q) = is_kind k q.kind

abbrev pub is_a_property : Option Procedure → Bool
is_a_property None = false
is_a_property (Some q) = is_property q.kind

-- ---- what procedures take and give

abbrev pub result_in : Option Procedure → Ty
result_in None = unknown
result_in (Some q) = q.result

-- the type of what a procedure gives; Unknown where its head breaks a rule that leaves it without a type, and Nothing where there is none
abbrev pub result_of : Declarations → Option ℕ → Ty
result_of D None = nothing
result_of D (Some p) = result_in (slice_get D.procs p)

abbrev pub params_in : Option Procedure → List VarId
params_in None = []
params_in (Some q) = q.params

abbrev pub params_of : Declarations → ℕ → List VarId
params_of D p = params_in (slice_get D.procs p)

abbrev pub type_in : Option Variable → Ty
type_in None = unknown
type_in (Some v) = v.ty

abbrev pub type_of_variable : Declarations → VarId → Ty
type_of_variable D v = type_in (slice_get D.vars v.0)

-- the last of the parameters of a Let or Set is given the value
abbrev pub without_last : List VarId → List VarId
without_last [] = []
without_last (v ∷ []) = []
without_last (v ∷ w ∷ vs) = v ∷ without_last (w ∷ vs)

abbrev pub last_type : Declarations → List VarId → Ty
last_type D [] = unknown
last_type D (v ∷ []) = type_of_variable D v
last_type D (v ∷ w ∷ vs) = last_type D (w ∷ vs)

-- the type of the value that a Let or Set takes
abbrev pub taken_by : Declarations → ℕ → Ty
taken_by D p = last_type D (params_of D p)

-- ---- classes

abbrev pub count_classes : Declarations → ℕ
count_classes D = length (class_files D.project)

-- the number of the class whose module has this file
abbrev pub class_of_file : Declarations → ℕ → Option ℕ
class_of_file D file = position (nat_eq file) (class_files D.project)

abbrev pub or_no_default : Option (Option ProcId) → Option ℕ
or_no_default None = None
or_no_default (Some None) = None
or_no_default (Some (Some p)) = Some p.0

abbrev pub default_of : Declarations → ℕ → Option ℕ
default_of D c = or_no_default (slice_get D.defaults c)

-- the place of a variable among those of its class
abbrev pub place_in : Declarations → ℕ → Option ℕ → Option ℕ
place_in D v None = None
place_in D v (Some file) = position (nat_eq v) (variables_from file 0 D.vars)

abbrev pub place_of : Declarations → ℕ → ℕ → Option ℕ
place_of D c v = place_in D v (slice_get (class_files D.project) c)
