-- Where names lead to what is written for a user type: tests on the program alone, which pass wherever no rule on names is broken.
use Rattle.std.specs.Prelude.{ℕ, suc, Bool, true, false, not, ◌&&◌, ◌||◌, nat_eq, position, Option, Some, None, List, [], ◌∷◌, ◌++◌, map, slice_get}
use Rattle.std.specs.Cmp.Lexicographic.{pointwise}
use Rattle.std.specs.List.{list_all, list_any}
use Rattle.up_base.specs.Names.{is_same_name}
use Rattle.vb_tree.specs.BoundTree.{Ty, class, user}
use Rattle.vb_tree.specs.declared.declared.VarId.{VarId}
use Rattle.vb_tree.specs.Tree.{Module, Member, alone, group, proc}
use Rattle.vb_tree.specs.Tree as source
use Rattle.bound_tree.specs.declared.declared.TypeDecl.{TypeDecl}
use Rattle.bound_tree.specs.Tree.{Variable, Declarations}
use Rattle.written_trees.specs.DeclaredMembers.{type_name}
use Rattle.written_trees.specs.Names.{module_at, is_standard_module, variable_name_of}
use Rattle.written_trees.specs.Placing.{Placed, is_type_head}
use Rattle.written_trees.specs.Prologues.{variables_of}
use Rattle.net_run.specs.Shapes.{first_from}
use Rattle.run_matches.specs.Shared.{is_module, placed_module}

-- ---- the lines of a Type

-- the variables that lines declare, which are numbered from n
abbrev pub fields_declared : Declarations → (file statement : ℕ) → List source.Line → List ℕ
fields_declared D file n [] = []
fields_declared D file n (l ∷ ls) = map (λ (v : ℕ × Variable). v.0) (variables_of D file n) ++ fields_declared D file (suc n) ls

-- the fields of a Type are those of its lines, in their order
abbrev pub has_fields : Declarations → (file statement : ℕ) → List source.Line → TypeDecl → Bool
has_fields D file n lines d = pointwise nat_eq (fields_declared D file n lines) (map (λ (v : VarId). v.0) d.fields)

-- the Type of a number with its fields, or another name
abbrev pub is_type_or_other : Declarations → (user_type : ℕ) → TypeDecl → (other : ℕ) → (fields : Bool) → Bool
is_type_or_other D t d u fields = (nat_eq t u && fields) || not (is_same_name (type_name (slice_get D.types u)) d.name)

abbrev pub suits_type : Declarations → (user_type : ℕ) → TypeDecl → Placed → Member → Bool
suits_type D t d p (alone l) = true
suits_type D t d p (group head lines close) =
    not (is_type_head head.form) || is_type_or_other D t d p.at.user_type (has_fields D d.module (suc p.at.statement) lines d)
suits_type D t d p (proc head body close) = true

abbrev pub is_type_of : (user_type : ℕ) → Placed → Member → Bool
is_type_of t p (alone l) = false
is_type_of t p (group head lines close) = is_type_head head.form && nat_eq t p.at.user_type
is_type_of t p (proc head body close) = false

-- ---- the module of a Type

-- the module declares the Type, and no other of its name
abbrev pub declares_type : Declarations → (user_type : ℕ) → TypeDecl → List Placed → Bool
declares_type D t d ps = list_any (λ (p : Placed). is_type_of t p p.member) ps && list_all (λ (p : Placed). suits_type D t d p p.member) ps

abbrev pub type_leads_in : Declarations → (user_type : ℕ) → TypeDecl → (home : ℕ) → Option (Module × List Placed) → Bool
type_leads_in D t d home None = false
type_leads_in D t d home (Some m) =
    not m.0.class
    && (is_module home (first_from (λ (n : Module). is_same_name n.name m.0.name) 0 D.project.modules) && declares_type D t d m.1)

abbrev pub type_leads_home : Declarations → (user_type : ℕ) → TypeDecl → Option ℕ → Bool
type_leads_home D t d None = false
type_leads_home D t d (Some home) = type_leads_in D t d home (placed_module D home)

-- From every module, names lead to the user type of a standard module: its own alone, and behind that of its module.
abbrev pub type_leads : Declarations → (user_type : ℕ) → TypeDecl → Bool
type_leads D t d =
    is_standard_module (module_at D.project d.module)
    && type_leads_home D t d (position (λ (m : Module). nat_eq m.file d.module) D.project.modules)

-- ---- fields

abbrev pub field_names : Declarations → TypeDecl → List (List ℕ)
field_names D d = map (λ (v : VarId). variable_name_of (slice_get D.vars v.0)) d.fields

-- a user type that is one of those that pass
abbrev pub is_user_of : (ℕ → Bool) → Ty → Bool
is_user_of test (user t) = test t
is_user_of test ty = false

abbrev pub is_user : Ty → Bool
is_user ty = is_user_of (λ t. true) ty

abbrev pub is_class_type : Ty → Bool
is_class_type (class c) = true
is_class_type ty = false

-- what is assigned by a copy of it or by Set
abbrev pub is_group_type : Ty → Bool
is_group_type ty = is_user ty || is_class_type ty
