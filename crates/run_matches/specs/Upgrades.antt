-- A program with what is written for it: which written procedure, class, user type and variable stands for which of the source.
use Rattle.std.specs.Prelude.{◌≡◌, ℕ, Bool, true, false, not, nat_eq, ◌&&◌, ◌||◌, position, Option, Some, None, is_some, option_map, option_and_then, List, [], ◌∷◌, slice_get}
use Rattle.vb_tree.specs.BoundTree.{Ty, user, array, unknown}
use Rattle.vb_tree.specs.declared.declared.Owner.{Owner}
use Rattle.vb_tree.specs.declared.declared.Owner.TheVariants as owner
use Rattle.vb_tree.specs.declared.declared.VarId.{VarId}
use Rattle.vb_tree.specs.Tree.{Module}
use Rattle.bound_tree.specs.declared.declared.TypeDecl.{TypeDecl}
use Rattle.bound_tree.specs.Tree.{Variable, Declarations, Program}
use Rattle.bound_facts.specs.Effects.{params_at}
use Rattle.bound_facts.specs.Facts as found
use Rattle.bound_facts.specs.Facts.{Known, is_quiet}
use Rattle.bound_facts.specs.Members.{class_files, field_of}
use Rattle.bound_facts.specs.Node.{auto_class}
use Rattle.net_tree.specs.Tree as net
use Rattle.up_base.specs.Names.{is_same_name}
use Rattle.written_trees.specs.Facts as deciding
use Rattle.written_trees.specs.Facts.{Facts, is_array_variable, is_flagged_variable}
use Rattle.written_trees.specs.Names.{variable_name}
use Rattle.written_trees.specs.Order.{written_order}
use Rattle.written_trees.specs.Projects.{written_project}
use Rattle.run_base.specs.Positions.{Key}
use Rattle.vb6_run.specs.Runnables.{Runnable}
use Rattle.net_run.specs.Members.{Code, code_at, member_named}
use Rattle.net_run.specs.Names.{key_of}
use Rattle.net_run.specs.Program.{static_key}
use Rattle.net_run.specs.Shapes.{first_from, is_structure_named, module_at, members_of}

-- A program with what analyses know of it, the facts that decide what is written, and what is written.
pub record Upgrade : Type 0 where
  pub program : Program
  pub known : Known
  pub facts : Facts
  pub written : net.Project

abbrev pub declarations_in : Upgrade → Declarations
declarations_in U = U.program.declarations

-- ---- the program as it runs

abbrev pub is_quiet_id : Declarations → Known → Option VarId → Bool
is_quiet_id D F None = false
is_quiet_id D F (Some v) = is_quiet D F v.0

-- whether the parameter at a place of a procedure is quiet
abbrev pub is_quiet_place : Declarations → Known → (procedure place : ℕ) → Bool
is_quiet_place D F p i = is_quiet_id D F (slice_get (params_at (slice_get D.procs p)) i)

abbrev pub runnable_of : Upgrade → Runnable
runnable_of U = record { program = U.program; quiet = is_quiet_place U.program.declarations U.known; low = U.facts.low }

-- ---- procedures

abbrev pub is_that : ℕ → Option ℕ → Bool
is_that p None = false
is_that p (Some q) = nat_eq p q

-- The number of the written procedure that a procedure becomes: the parts of a property stand together, and a class with
-- Class_Initialize has a Sub New before all others.
abbrev pub written_number : Upgrade → (procedure : ℕ) → Option ℕ
written_number U p = position (is_that p) (written_order U.program U.facts)

abbrev pub code_of : Upgrade → (procedure : ℕ) → Option Code
code_of U p = option_and_then (code_at U.written) (written_number U p)

-- ---- modules, classes and user types

-- modules are written in order, each as one
abbrev pub home_of : Upgrade → (file : ℕ) → Option ℕ
home_of U file = position (λ (m : Module). nat_eq m.file file) U.program.declarations.project.modules

-- the module that a class is written as
abbrev pub class_home : Upgrade → (class : ℕ) → Option ℕ
class_home U c = option_and_then (home_of U) (slice_get (class_files U.program.declarations.project) c)

-- the number of a structure in a module
abbrev pub structure_number : Upgrade → (name : List ℕ) → (home : ℕ) → Option (ℕ × ℕ)
structure_number U name home =
    option_map (λ (found : ℕ × net.Member). (home, found.0)) (first_from (is_structure_named name) 0 (members_of (module_at U.written home)))

abbrev pub structure_for : Upgrade → TypeDecl → Option (ℕ × ℕ)
structure_for U t = option_and_then (structure_number U t.name) (home_of U t.module)

-- the module and the member there that a user type is written as
abbrev pub structure_place : Upgrade → (user_type : ℕ) → Option (ℕ × ℕ)
structure_place U t = option_and_then (structure_for U) (slice_get U.program.declarations.types t)

-- ---- variables of modules and Statics

-- a variable of a module is written as the first member of its name
abbrev pub member_key : Upgrade → (name : List ℕ) → (home : ℕ) → Option Key
member_key U name home =
    option_map (λ (found : ℕ × net.Member). key_of home found.0) (member_named name (members_of (module_at U.written home)))

abbrev pub is_dim_named : List ℕ → net.Dim → Bool
is_dim_named name (net.local v) = is_same_name v.name name
is_dim_named name (net.static_local v) = is_same_name v.name name
is_dim_named name (net.constant c) = is_same_name c.name name

-- a Static is written at the first place of its name among the declarations of its procedure
abbrev pub static_key_in : (name : List ℕ) → Code → Option Key
static_key_in name c = option_map (static_key c) (position (is_dim_named name) c.procedure.prologue)

abbrev pub owned_key : Upgrade → (name : List ℕ) → Owner → Option Key
owned_key U name (owner.Module file) = option_and_then (member_key U name) (home_of U file)
owned_key U name (owner.Local p) = None
owned_key U name (owner.Static p) = option_and_then (static_key_in name) (code_of U p.0)
owned_key U name (owner.Value p) = None
owned_key U name (owner.Reference p) = None
owned_key U name (owner.Answer p) = None
owned_key U name (owner.Field t) = None

abbrev pub declared_key : Upgrade → Option Variable → Option Key
declared_key U None = None
declared_key U (Some x) = owned_key U x.name x.owner

-- where the written project keeps a variable of a module or a Static; the other variables have places of their own
abbrev pub variable_key : Upgrade → (variable : ℕ) → Option Key
variable_key U v = declared_key U (slice_get U.program.declarations.vars v)

-- ---- what a declaration is

abbrev pub is_unknown : Option Ty → Bool
is_unknown None = false
is_unknown (Some unknown) = true
is_unknown (Some (array e rank)) = is_unknown (Some e)
is_unknown (Some ty) = false

abbrev pub type_of_some : Option Variable → Option Ty
type_of_some None = None
type_of_some (Some x) = Some x.ty

abbrev pub type_of : Upgrade → (variable : ℕ) → Option Ty
type_of U v = type_of_some (slice_get U.program.declarations.vars v)

-- A declaration that carries an issue, or whose type is Unknown for that of a Def line: nothing is said of its variables.
abbrev pub is_flagged : Upgrade → (variable : ℕ) → Bool
is_flagged U v = is_flagged_variable U.facts v || is_unknown (type_of U v)

-- the variable that declares a field of a user type
abbrev pub field_variable : Upgrade → (user_type field : ℕ) → Option ℕ
field_variable U t k = field_of U.program.declarations (user t) k

abbrev pub is_flagged_some : Upgrade → Option ℕ → Bool
is_flagged_some U None = false
is_flagged_some U (Some v) = is_flagged U v

-- a field whose declaration carries an issue
abbrev pub is_flagged_field : Upgrade → (user_type field : ℕ) → Bool
is_flagged_field U t k = is_flagged_some U (field_variable U t k)

abbrev pub field_name : Upgrade → (user_type field : ℕ) → List ℕ
field_name U t k = variable_name U.program.declarations (field_variable U t k)

abbrev pub rank_of_some : Upgrade → Option ℕ → ℕ
rank_of_some U None = 0
rank_of_some U (Some v) = U.facts.rank v

abbrev pub rank_of_id : Upgrade → Option VarId → ℕ
rank_of_id U None = 0
rank_of_id U (Some v) = U.facts.rank v.0

-- the rank of the parameter at a place of a procedure
abbrev pub parameter_rank : Upgrade → (procedure place : ℕ) → ℕ
parameter_rank U p i = rank_of_id U (slice_get (params_at (slice_get U.program.declarations.procs p)) i)

abbrev pub is_array_id : Declarations → Option VarId → Bool
is_array_id D None = false
is_array_id D (Some v) = is_array_variable (slice_get D.vars v.0)

-- a procedure takes an array at a place
abbrev pub takes_array : Declarations → (procedure place : ℕ) → Bool
takes_array D p i = is_array_id D (slice_get (params_at (slice_get D.procs p)) i)

abbrev pub field_rank : Upgrade → (user_type field : ℕ) → ℕ
field_rank U t k = rank_of_some U (field_variable U t k)

abbrev pub part_of_type : Upgrade → (field : ℕ) → Option Ty → Option ℕ
part_of_type U k None = None
part_of_type U k (Some ty) = field_of U.program.declarations ty k

-- the variable that declares the part of a variable at a path of fields, the innermost first
abbrev pub part_variable : Upgrade → (variable : ℕ) → (path : List ℕ) → Option ℕ
part_variable U v [] = Some v
part_variable U v (k ∷ path) = part_of_type U k (option_and_then (type_of U) (part_variable U v path))

-- no declaration of the variable and of the fields that lead to the part carries an issue
abbrev pub is_sound : Upgrade → (variable : ℕ) → (path : List ℕ) → Bool
is_sound U v [] = not (is_flagged U v)
is_sound U v (k ∷ path) = is_sound U v path && not (is_flagged_some U (part_variable U v (k ∷ path)))

-- a variable that makes its object where it is used
abbrev pub is_auto : Upgrade → (variable : ℕ) → Bool
is_auto U v = is_some (auto_class (slice_get U.program.declarations.vars v))

abbrev pub has_bounds : Option Variable → Bool
has_bounds None = false
has_bounds (Some x) = is_some (slice_get x.bounds 0)

-- a fixed array
abbrev pub is_fixed : Upgrade → (variable : ℕ) → Bool
is_fixed U v = has_bounds (slice_get U.program.declarations.vars v)

-- ---- premises

-- What is known and the facts are right, and the written project is what is written by them. Variables whose declarations carry no issue
-- stand in different places of it.
pub record IsUpgrade (U : Upgrade) : Type 0 where
  pub known_are : found.AreFacts U.program U.known
  pub facts_are : deciding.AreFacts U.program U.facts
  pub is_written : U.written ≡ written_project U.program U.facts
  pub own_keys :
      (v u : ℕ) (key : Key) → variable_key U v ≡ Some key → variable_key U u ≡ Some key → is_flagged U v ≡ false → is_flagged U u ≡ false → v ≡ u
