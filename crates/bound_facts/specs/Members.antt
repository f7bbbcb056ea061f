-- What a project's classes and user types have: the fields that expressions number, and the procedures that creations enter.
use Rattle.std.specs.Prelude.{ℕ, suc, Bool, true, false, cond, ◌&&◌, nat_eq, Option, Some, None, List, [], ◌∷◌, codes, map, filter, slice_get}
use Rattle.std.specs.List.{flat_map}
use Rattle.up_base.specs.Names.{is_same_name}
use Rattle.vb_tree.specs.BoundTree.{Ty, user, class}
use Rattle.vb_tree.specs.declared.declared.Owner.{Owner}
use Rattle.vb_tree.specs.declared.declared.Owner.TheVariants as owner
use Rattle.vb_tree.specs.declared.declared.ProcKind.{ProcKind}
use Rattle.vb_tree.specs.declared.declared.ProcKind.TheVariants as kind
use Rattle.vb_tree.specs.Tree.{Module, Project}
use Rattle.bound_tree.specs.declared.declared.TypeDecl.{TypeDecl}
use Rattle.bound_tree.specs.Tree.{Variable, Procedure, Declarations, Program}

-- the file numbers of the class modules in project order, by which classes are numbered from 0
abbrev pub class_files : Project → List ℕ
class_files P = map (λ (m : Module). m.file) (filter (λ (m : Module). m.class) P.modules)

abbrev pub is_of_module : ℕ → Owner → Bool
is_of_module file (owner.Module m) = nat_eq file m
is_of_module file _ = false

-- the numbers of the variables of a module in order, of variables that are numbered from k
abbrev pub variables_from : (file k : ℕ) → List Variable → List ℕ
variables_from file k [] = []
variables_from file k (v ∷ vs) = cond (is_of_module file v.owner) (k ∷ variables_from file (suc k) vs) (variables_from file (suc k) vs)

abbrev pub or_none : {X : Type 0} → Option (Option X) → Option X
or_none None = None
or_none (Some x) = x

abbrev pub at_option : {X : Type 0} → Option (List X) → ℕ → Option X
at_option None k = None
at_option (Some xs) k = slice_get xs k

abbrev pub class_variables : Declarations → Option ℕ → Option (List ℕ)
class_variables D None = None
class_variables D (Some file) = Some (variables_from file 0 D.vars)

abbrev pub type_fields : Option TypeDecl → Option (List ℕ)
type_fields None = None
type_fields (Some t) = Some (map (λ f. f.0) t.fields)

-- the variable that declares the field with a number of a user type or of a class
abbrev pub field_of : Declarations → Ty → ℕ → Option ℕ
field_of D (user t) k = at_option (type_fields (slice_get D.types t)) k
field_of D (class c) k = at_option (class_variables D (slice_get (class_files D.project) c)) k
field_of D _ k = None

-- ---- the procedures that begin and end an object
abbrev pub is_sub : ProcKind → Bool
is_sub kind.Sub = true
is_sub _ = false

abbrev pub is_sub_named : (file : ℕ) → (name : List ℕ) → Procedure → Bool
is_sub_named file name p = nat_eq p.module_number file && (is_sub p.kind && is_same_name p.name name)

-- the first of the procedures, which are numbered from k, that is the Sub of this name in the module
abbrev pub sub_from : (file : ℕ) → (name : List ℕ) → (k : ℕ) → List Procedure → Option ℕ
sub_from file name k [] = None
sub_from file name k (p ∷ ps) = cond (is_sub_named file name p) (Some k) (sub_from file name (suc k) ps)

abbrev pub class_sub : Declarations → (name : List ℕ) → Option ℕ → Option ℕ
class_sub D name None = None
class_sub D name (Some file) = sub_from file name 0 D.procs

-- Class_Initialize and Class_Terminate of a class
abbrev pub initializer : Declarations → ℕ → Option ℕ
initializer D c = class_sub D (codes "Class_Initialize") (slice_get (class_files D.project) c)

abbrev pub terminator : Declarations → ℕ → Option ℕ
terminator D c = class_sub D (codes "Class_Terminate") (slice_get (class_files D.project) c)
