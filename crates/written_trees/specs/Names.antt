-- Names and the paths by which they are written.
use Rattle.std.specs.Prelude.{ℕ, suc, Bool, false, not, cond, ◌&&◌, ◌||◌, nat_eq, Option, Some, None, List, [], ◌∷◌, ◌++◌, codes, find, slice_get}
use Rattle.std.specs.Fmt.{decimal}
use Rattle.vb_tree.specs.declared.declared.Owner.{Owner}
use Rattle.vb_tree.specs.declared.declared.Owner.TheVariants as owner
use Rattle.vb_tree.specs.Tree.{Module, Project}
use Rattle.bound_tree.specs.declared.declared.TypeDecl.{TypeDecl}
use Rattle.bound_tree.specs.Tree.{Variable, Procedure, Declarations}
use Rattle.bound_facts.specs.Members.{class_files}
use Rattle.net_tree.specs.Tree as net
use Rattle.written_trees.specs.Facts.{Facts}

-- where something is written: in the module of a file, and in a procedure
pub record Scope : Type 0 where
  pub declarations : Declarations
  pub facts : Facts
  pub file : ℕ
  pub procedure : Option ℕ

-- ---- paths

abbrev pub Path : Type 0
Path = List (List ℕ)

abbrev pub alone : List ℕ → Path
alone name = name ∷ []

-- a function of the support module
abbrev pub support : List ℕ → Path
support name = codes "UpgradeSupport" ∷ name ∷ []

-- a function of the run-time library on texts
abbrev pub strings : List ℕ → Path
strings name = codes "Microsoft" ∷ codes "VisualBasic" ∷ codes "Strings" ∷ name ∷ []

-- a member of what is written as an expression; a longer path stands in the place of a member of a path
abbrev pub member : net.Exp → List ℕ → net.Exp
member (net.path names) name = net.path (names ++ name ∷ [])
member e name = net.dot e name

-- ---- modules

abbrev pub module_at : Project → (file : ℕ) → Option Module
module_at P file = find (λ (m : Module). nat_eq m.file file) P.modules

abbrev pub name_in : Option Module → List ℕ
name_in None = []
name_in (Some m) = m.name

abbrev pub module_name : Declarations → (file : ℕ) → List ℕ
module_name D file = name_in (module_at D.project file)

abbrev pub is_standard_module : Option Module → Bool
is_standard_module None = false
is_standard_module (Some m) = not m.class

-- what a standard module declares, seen from the module of another file
abbrev pub is_foreign : Declarations → (file home : ℕ) → Bool
is_foreign D file home = not (nat_eq file home) && is_standard_module (module_at D.project home)

-- a name that the module of the file `home` declares: behind the name of its module where that is another standard module, or
-- where the source qualifies it
abbrev pub declared_path : Declarations → (file : ℕ) → (qualified : Bool) → (home : ℕ) → List ℕ → Path
declared_path D file qualified home name = cond (qualified || is_foreign D file home) (module_name D home ∷ name ∷ []) (alone name)

abbrev pub class_name_of : Declarations → Option ℕ → List ℕ
class_name_of D None = []
class_name_of D (Some file) = module_name D file

-- a class has the name of its module
abbrev pub class_name : Declarations → (class : ℕ) → List ℕ
class_name D c = class_name_of D (slice_get (class_files D.project) c)

abbrev pub class_path : Declarations → (class : ℕ) → Path
class_path D c = alone (class_name D c)

-- ---- user types

abbrev pub type_path_of : Declarations → (file : ℕ) → (qualified : Bool) → Option TypeDecl → Path
type_path_of D file qualified None = []
type_path_of D file qualified (Some t) = declared_path D file qualified t.module t.name

abbrev pub type_path : Declarations → (file : ℕ) → (qualified : Bool) → (user_type : ℕ) → Path
type_path D file qualified t = type_path_of D file qualified (slice_get D.types t)

-- the functions that make a user type, copy it, and make an object of a class where there is none
abbrev pub new_name : (user_type : ℕ) → List ℕ
new_name t = codes "New" ++ decimal (suc t)

abbrev pub copy_name : (user_type : ℕ) → List ℕ
copy_name t = codes "Copy" ++ decimal (suc t)

abbrev pub auto_name : Declarations → (class : ℕ) → List ℕ
auto_name D c = codes "Auto_" ++ class_name D c

-- ---- variables and procedures

abbrev pub owner_path : Scope → (qualified : Bool) → List ℕ → Owner → Path
owner_path S qualified name (owner.Module home) = declared_path S.declarations S.file qualified home name
owner_path S qualified name _ = alone name

abbrev pub variable_path_of : Scope → (qualified : Bool) → Option Variable → Path
variable_path_of S qualified None = []
variable_path_of S qualified (Some v) = owner_path S qualified v.name v.owner

abbrev pub variable_path : Scope → (qualified : Bool) → (variable : ℕ) → Path
variable_path S qualified v = variable_path_of S qualified (slice_get S.declarations.vars v)

abbrev pub variable_name_of : Option Variable → List ℕ
variable_name_of None = []
variable_name_of (Some v) = v.name

abbrev pub variable_name : Declarations → Option ℕ → List ℕ
variable_name D None = []
variable_name D (Some v) = variable_name_of (slice_get D.vars v)

abbrev pub procedure_name_of : Option Procedure → List ℕ
procedure_name_of None = []
procedure_name_of (Some p) = p.name

abbrev pub first_name : Declarations → Option Procedure → List ℕ
first_name D None = []
first_name D (Some p) = procedure_name_of (slice_get D.procs p.first.0)

-- the parts of a property have the name of the first
abbrev pub procedure_name : Declarations → (procedure : ℕ) → List ℕ
procedure_name D p = first_name D (slice_get D.procs p)

abbrev pub procedure_path_of : Scope → (qualified : Bool) → Option Procedure → Path
procedure_path_of S qualified None = []
procedure_path_of S qualified (Some p) = declared_path S.declarations S.file qualified p.module_number (first_name S.declarations (Some p))

abbrev pub procedure_path : Scope → (qualified : Bool) → (procedure : ℕ) → Path
procedure_path S qualified p = procedure_path_of S qualified (slice_get S.declarations.procs p)
