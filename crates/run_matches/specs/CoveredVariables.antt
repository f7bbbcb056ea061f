-- Which types and variables are covered.
use Rattle.std.specs.Prelude.{ℕ, ℤ, suc, Bool, true, false, cond, not, ◌&&◌, ◌||◌, int_le, nat_eq, Option, Some, None, List, [], ◌∷◌, length, slice_get, nat_lt, zero, position, is_some}
use Rattle.std.specs.Cmp.Lexicographic.{pointwise}
use Rattle.std.specs.List.{flat_map, list_all, list_any}
use Rattle.up_base.specs.Names.{is_same_name}
use Rattle.vb_tree.specs.BoundTree as types
use Rattle.vb_tree.specs.BoundTree.{Ty}
use Rattle.vb_tree.specs.declared.declared.Owner.{Owner}
use Rattle.vb_tree.specs.declared.declared.Owner.TheVariants as owner
use Rattle.vb_tree.specs.declared.declared.VarId.{VarId}
use Rattle.vb_tree.specs.Tree.{Module}
use Rattle.bound_tree.specs.declared.body.Mention.{Mention}
use Rattle.bound_tree.specs.declared.body.Mention.TheVariants as mention
use Rattle.bound_tree.specs.declared.declared.TypeDecl.{TypeDecl}
use Rattle.bound_tree.specs.Tree.{Variable, Procedure, Declarations, Program}
use Rattle.bound_facts.specs.Bounds.{ranks}
use Rattle.bound_facts.specs.Calls.{count_variables}
use Rattle.bound_facts.specs.Effects.{params_at, touched}
use Rattle.bound_facts.specs.Facts.{acts}
use Rattle.bound_facts.specs.Leading.{is_in}
use Rattle.bound_facts.specs.Locks.{is_same_type}
use Rattle.bound_facts.specs.Members.{field_of, class_files, terminator, variables_from}
use Rattle.written_trees.specs.Placing.{Placed}
use Rattle.written_trees.specs.Types.{element_type}
use Rattle.written_trees.specs.Names.{is_standard_module, module_at, module_name}
use Rattle.vb6_run.specs.Runnables.{is_class_file}
use Rattle.run_matches.specs.Callees.{is_first_module, is_once, is_source_name, names_in}
use Rattle.run_matches.specs.Shared.{names_lead, field_leads, is_alone_field, is_alone_static, is_of_module, member_owns, others_differ, placed_module}
use Rattle.run_matches.specs.Sites.{variable_numbers}
use Rattle.run_matches.specs.Upgrades.{is_unknown, type_of_some}
use Rattle.run_matches.specs.UserTypes.{type_leads, field_names, is_class_type, is_user, is_user_of}

-- ---- types

-- Boolean, Byte, Integer, Long, Currency and String
abbrev pub covers_type : Ty → Bool
covers_type types.boolean = true
covers_type types.byte = true
covers_type types.integer = true
covers_type types.long = true
covers_type types.currency = true
covers_type types.str = true
covers_type (types.fixed units) = false
covers_type (types.user t) = false
covers_type (types.class c) = false
covers_type types.object = false
covers_type types.variant = false
covers_type (types.array e rank) = false
covers_type types.nothing = false
covers_type types.unknown = false

-- ---- variables

-- local variables and Statics, parameters, result variables, and variables of modules
abbrev pub covers_owner : Owner → Bool
covers_owner (owner.Module file) = true
covers_owner (owner.Local p) = true
covers_owner (owner.Static p) = true
covers_owner (owner.Value p) = true
covers_owner (owner.Reference p) = true
covers_owner (owner.Answer p) = true
covers_owner (owner.Field t) = false

abbrev pub covers_variable : Variable → Bool
covers_variable x = covers_owner x.owner && (covers_type x.ty && not x.auto)

abbrev pub belongs_to : (procedure : ℕ) → Owner → Bool
belongs_to p (owner.Module file) = false
belongs_to p (owner.Local q) = nat_eq p q.0
belongs_to p (owner.Static q) = nat_eq p q.0
belongs_to p (owner.Value q) = nat_eq p q.0
belongs_to p (owner.Reference q) = nat_eq p q.0
belongs_to p (owner.Answer q) = nat_eq p q.0
belongs_to p (owner.Field t) = false

-- no variable of the procedure has the name
abbrev pub is_foreign_name : Declarations → (procedure : ℕ) → (name : List ℕ) → Bool
is_foreign_name D p name = list_all (λ (x : Variable). not (belongs_to p x.owner && is_same_name x.name name)) D.vars

-- a variable of the procedure, or one of a standard module or of its own class to which names lead
abbrev pub is_reached : Declarations → (procedure variable : ℕ) → (name : List ℕ) → Owner → Bool
is_reached D p v name (owner.Module file) = (names_lead D p v name file || field_leads D p v name file) && is_foreign_name D p name
is_reached D p v name (owner.Static q) = nat_eq p q.0 && is_alone_static D p v name
is_reached D p v name of = belongs_to p of

abbrev pub is_of_class : Declarations → Owner → Bool
is_of_class D (owner.Module file) = is_class_file D file
is_of_class D of = false

abbrev pub is_class_member : Declarations → Option Variable → Bool
is_class_member D None = false
is_class_member D (Some x) = is_of_class D x.owner

-- a variable of a class is named by itself, and not behind the name of the class
abbrev pub is_named_so : Declarations → VarId → (qualified : Bool) → Bool
is_named_so D v qualified = not (qualified && is_class_member D (slice_get D.vars v.0))

abbrev pub covers_some : Declarations → (procedure variable : ℕ) → Option Variable → Bool
covers_some D p v None = false
covers_some D p v (Some x) = is_reached D p v x.name x.owner && covers_variable x

abbrev pub is_mention_of : VarId → Mention → Bool
is_mention_of v (mention.Var u) = nat_eq v.0 u.0
is_mention_of v _ = false

-- a variable that is changed or passed on by reference
abbrev pub is_touched : Program → (variable : ℕ) → Bool
is_touched P v = nat_lt v (count_variables P) && is_in (touched P) v

-- No quiet parameter: one by reference is touched, or its procedure has a line that makes it outward.
abbrev pub is_loud_owner : Program → (variable : ℕ) → Owner → Bool
is_loud_owner P v (owner.Reference p) = is_touched P v || acts P p.0
is_loud_owner P v _ = true

abbrev pub is_loud : Program → (variable : ℕ) → Option Variable → Bool
is_loud P v None = false
is_loud P v (Some x) = is_loud_owner P v x.owner

-- a scalar, or no quiet parameter: an array, a user type and an object as a quiet one are given by reference alone
abbrev pub is_scalar_or_loud : Program → (variable : ℕ) → Option Variable → Bool
is_scalar_or_loud P v None = false
is_scalar_or_loud P v (Some x) = covers_type x.ty || is_loud_owner P v x.owner

abbrev pub takes_value_by : Program → Option VarId → Bool
takes_value_by P None = false
takes_value_by P (Some v) = is_scalar_or_loud P v.0 (slice_get P.declarations.vars v.0)

-- the parameter at a place may be given a value
abbrev pub takes_value_at : Program → (procedure place : ℕ) → Bool
takes_value_at P q i = takes_value_by P (slice_get (params_at (slice_get P.declarations.procs q)) i)

-- Variables of the procedure, and those of standard modules and of its own class to which names lead; the line that uses them mentions them.
abbrev pub covers_use : Program → (procedure : ℕ) → List Mention → VarId → Bool
covers_use P p mentions v = list_any (is_mention_of v) mentions && covers_some P.declarations p v.0 (slice_get P.declarations.vars v.0)

-- ---- arrays

-- an array of elements of a type
abbrev pub is_array_of : (element : Ty) → Ty → Bool
is_array_of e (types.array f rank) = is_same_type e f
is_array_of e _ = false

-- arrays of modules, local ones and Statics, and parameters by reference
abbrev pub covers_array_owner : Owner → Bool
covers_array_owner (owner.Module file) = true
covers_array_owner (owner.Local p) = true
covers_array_owner (owner.Static p) = true
covers_array_owner (owner.Value p) = false
covers_array_owner (owner.Reference p) = true
covers_array_owner (owner.Answer p) = false
covers_array_owner (owner.Field t) = false

abbrev pub is_in_order : ℤ × ℤ → Bool
is_in_order b = int_le b.0 b.1

-- a fixed array has bounds of all dimensions, of which none ends before it begins; a dynamic one has none
abbrev pub covers_bounds : Ty → List (ℤ × ℤ) → Bool
covers_bounds (types.array f rank) bounds = nat_eq (length bounds) rank && list_all is_in_order bounds
covers_bounds ty bounds = false

abbrev pub covers_array_variable : (element : Ty) → Variable → Bool
covers_array_variable e x =
    covers_array_owner x.owner && (covers_type e && (is_array_of e x.ty && (covers_bounds x.ty x.bounds && not x.auto)))

-- before indexes the name of a Function would lead to the Function
abbrev pub is_named_apart : Option Procedure → (name : List ℕ) → Bool
is_named_apart None name = false
is_named_apart (Some q) name = not (is_same_name q.name name)

abbrev pub covers_some_array : Declarations → (procedure variable : ℕ) → (element : Ty) → Option Variable → Bool
covers_some_array D p v e None = false
covers_some_array D p v e (Some x) =
    is_reached D p v x.name x.owner && (covers_array_variable e x && is_named_apart (slice_get D.procs p) x.name)

abbrev pub has_rank : ℕ × ℕ → Bool
has_rank x = nat_lt 0 x.1

-- each ReDim of the project gives its arrays a dimension
abbrev pub has_extents : Program → Bool
has_extents P = list_all has_rank (ranks P)

-- array variables of the procedure, and of standard modules, as scalars are, which don't have its name
abbrev pub covers_array_use : Program → (procedure : ℕ) → List Mention → VarId → (element : Ty) → Bool
covers_array_use P p mentions v e =
    list_any (is_mention_of v) mentions && covers_some_array P.declarations p v.0 e (slice_get P.declarations.vars v.0)

-- ---- user types

abbrev pub is_named_in : List ℕ → List (List ℕ) → Bool
is_named_in name names = list_any (is_same_name name) names

abbrev pub are_different : List (List ℕ) → Bool
are_different [] = true
are_different (name ∷ names) = not (is_named_in name names) && are_different names

-- a scalar, or a user type of those that pass
abbrev pub covers_field_type : (users : ℕ → Bool) → Ty → Bool
covers_field_type users ty = covers_type ty || is_user_of users ty

abbrev pub covers_field : (users : ℕ → Bool) → Option Variable → Bool
covers_field users None = false
covers_field users (Some x) = covers_field_type users x.ty

abbrev pub covers_user_by : Declarations → (users : ℕ → Bool) → (user_type : ℕ) → Option TypeDecl → Bool
covers_user_by D users t None = false
covers_user_by D users t (Some d) =
    type_leads D t d
    && (are_different (field_names D d) && list_all (λ (v : VarId). covers_field users (slice_get D.vars v.0)) d.fields)

-- user types down to a depth
abbrev pub covers_user_within : Declarations → (depth user_type : ℕ) → Bool
covers_user_within D zero t = false
covers_user_within D (suc depth) t = covers_user_by D (covers_user_within D depth) t (slice_get D.types t)

-- a user type to which names lead, with fields of different names that are scalars or such user types
abbrev pub covers_user : Declarations → (user_type : ℕ) → Bool
covers_user D t = covers_user_within D (length D.types) t

-- ---- classes

abbrev pub is_named_first : Declarations → (name : List ℕ) → Option ℕ → Bool
is_named_first D name None = false
is_named_first D name (Some home) = is_first_module D name home

abbrev pub covers_class_file : Declarations → Option ℕ → Bool
covers_class_file D None = false
covers_class_file D (Some file) =
    (is_source_name (module_name D file) && not (is_standard_module (module_at D.project file)))
    && (is_named_first D (module_name D file) (position (λ (m : Module). nat_eq m.file file) D.project.modules)
    && list_all (λ (t : TypeDecl). not (is_same_name t.name (module_name D file))) D.types)

-- a class without Class_Terminate, to which its name leads: no module before it and no user type has that name
abbrev pub covers_class : Declarations → (class : ℕ) → Bool
covers_class D c = covers_class_file D (slice_get (class_files D.project) c) && not (is_some (terminator D c))

-- ---- groups

-- what is assigned by a copy of it or by Set: a user type, or an object of a class
abbrev pub covers_group_type : Declarations → Ty → Bool
covers_group_type D (types.user t) = covers_user D t
covers_group_type D (types.class c) = covers_class D c
covers_group_type D ty = false

-- what a place may hold that is no array
abbrev pub covers_place_type : Declarations → Ty → Bool
covers_place_type D ty = covers_type ty || covers_group_type D ty

abbrev pub covers_group_variable : Declarations → Variable → Bool
covers_group_variable D x = covers_owner x.owner && (covers_group_type D x.ty && not x.auto)

abbrev pub covers_some_group : Declarations → (procedure variable : ℕ) → Ty → Option Variable → Bool
covers_some_group D p v ty None = false
covers_some_group D p v ty (Some x) = is_reached D p v x.name x.owner && (is_same_type ty x.ty && covers_group_variable D x)

-- variables of user types and of classes, as arrays are
abbrev pub covers_group_use : Program → (procedure : ℕ) → List Mention → VarId → Ty → Bool
covers_group_use P p mentions v ty =
    list_any (is_mention_of v) mentions && covers_some_group P.declarations p v.0 ty (slice_get P.declarations.vars v.0)

-- ---- As New

-- those of modules, local ones and Statics
abbrev pub covers_auto_owner : Owner → Bool
covers_auto_owner (owner.Module file) = true
covers_auto_owner (owner.Local p) = true
covers_auto_owner (owner.Static p) = true
covers_auto_owner (owner.Value p) = false
covers_auto_owner (owner.Reference p) = false
covers_auto_owner (owner.Answer p) = false
covers_auto_owner (owner.Field t) = false

-- an As New variable of a class
abbrev pub covers_auto_variable : Declarations → Variable → Bool
covers_auto_variable D x = covers_auto_owner x.owner && ((is_class_type x.ty && covers_group_type D x.ty) && x.auto)

abbrev pub covers_some_auto : Declarations → (procedure variable : ℕ) → Ty → Option Variable → Bool
covers_some_auto D p v ty None = false
covers_some_auto D p v ty (Some x) = is_reached D p v x.name x.owner && (is_same_type ty x.ty && covers_auto_variable D x)

abbrev pub field_type_of : Declarations → List Mention → Option ℕ → Option Ty
field_type_of D mentions None = None
field_type_of D mentions (Some v) =
    cond (list_any (is_mention_of (record { 0 = v })) mentions && not (is_unknown (type_of_some (slice_get D.vars v))))
    (type_of_some (slice_get D.vars v)) None

-- the type of a field of a user type that is mentioned, but for Unknown
abbrev pub field_type_in : Declarations → List Mention → (user_type field : ℕ) → Option Ty
field_type_in D mentions t k = field_type_of D mentions (field_of D (types.user t) k)

-- ---- variables of objects

-- a variable of a class that is found by its name behind an object, of a type that a place may hold, and no As New one
abbrev pub is_member : Declarations → (file variable : ℕ) → Option Variable → Bool
is_member D file v None = false
is_member D file v (Some x) = is_alone_field D v x.name file && (covers_place_type D x.ty && not x.auto)

abbrev pub member_type_of : Declarations → List Mention → (file : Option ℕ) → Option ℕ → Option Ty
member_type_of D mentions file None = None
member_type_of D mentions None (Some v) = None
member_type_of D mentions (Some file) (Some v) =
    cond (list_any (is_mention_of (record { 0 = v })) mentions && is_member D file v (slice_get D.vars v)) (type_of_some (slice_get D.vars v)) None

-- the type of a variable that objects of a class have, and that is mentioned
abbrev pub member_type_in : Declarations → List Mention → (class field : ℕ) → Option Ty
member_type_in D mentions c k = member_type_of D mentions (slice_get (class_files D.project) c) (field_of D (types.class c) k)

-- a scalar, an array of scalars, a user type of scalars and such user types, or an object, which may be As New
abbrev pub covers_declared : Declarations → Variable → Bool
covers_declared D x =
    covers_variable x || (covers_array_variable (element_type x.ty) x || (covers_group_variable D x || covers_auto_variable D x))

-- no user types: a field of one may carry an issue
abbrev pub covers_made_variable : Declarations → Variable → Bool
covers_made_variable D x = covers_declared D x && not (is_user x.ty)

abbrev pub covers_made_file : Declarations → Option ℕ → Bool
covers_made_file D None = false
covers_made_file D (Some file) = list_all (λ (x : Variable). cond (is_of_module file x.owner) (covers_made_variable D x) true) D.vars

-- the variables that the lines of a module declare, in order
abbrev pub declared_numbers : Declarations → Module × List Placed → List ℕ
declared_numbers D m = flat_map (λ (p : Placed). variable_numbers (member_owns D m.0.file p p.member)) m.1

abbrev pub declares_in_order : Declarations → (file : ℕ) → Option (Module × List Placed) → Bool
declares_in_order D file None = false
declares_in_order D file (Some m) = pointwise nat_eq (declared_numbers D m) (variables_from file 0 D.vars)

-- nothing else that the module declares has the name of the variable
abbrev pub has_own_name : Declarations → (file home variable : ℕ) → Option Variable → Bool
has_own_name D file home v None = false
has_own_name D file home v (Some x) = is_once x.name (names_in D home) && others_differ (is_of_module file) v x.name 0 D.vars

abbrev pub declares_variables_at : Declarations → (file : ℕ) → Option ℕ → Bool
declares_variables_at D file None = false
declares_variables_at D file (Some home) =
    declares_in_order D file (placed_module D home)
    && list_all (λ (v : ℕ). has_own_name D file home v (slice_get D.vars v)) (variables_from file 0 D.vars)

abbrev pub declares_variables_in : Declarations → Option ℕ → Bool
declares_variables_in D None = false
declares_variables_in D (Some file) = declares_variables_at D file (position (λ (m : Module). nat_eq m.file file) D.project.modules)

-- the lines of a class declare its variables in their order, each under a name of its own
abbrev pub declares_variables : Declarations → (class : ℕ) → Bool
declares_variables D c = declares_variables_in D (slice_get (class_files D.project) c)

-- a class of which objects may be made: each of its variables is covered, and its lines declare them
abbrev pub covers_made : Program → (class : ℕ) → Bool
covers_made P c =
    covers_class P.declarations c
    && (covers_made_file P.declarations (slice_get (class_files P.declarations.project) c) && (declares_variables P.declarations c && has_extents P))

abbrev pub is_made_type : Program → Ty → Bool
is_made_type P (types.class c) = covers_made P c
is_made_type P ty = false

-- As New variables of the procedure, and of modules, of a class of which objects may be made, as scalars are
abbrev pub covers_auto_use : Program → (procedure : ℕ) → List Mention → VarId → Ty → Bool
covers_auto_use P p mentions v ty =
    list_any (is_mention_of v) mentions
    && (covers_some_auto P.declarations p v.0 ty (slice_get P.declarations.vars v.0) && is_made_type P ty)
