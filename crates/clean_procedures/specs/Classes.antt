-- The procedures that begin and end objects, by class.
use Rattle.std.specs.Prelude.{◌≡◌, ℕ, cond, Option, Some, None, List, [], ◌∷◌, map, codes}
use Rattle.std.specs.List.{flat_map}
use Rattle.vb_tree.specs.Tree.{Module}
use Rattle.bound_tree.specs.Tree.{Declarations}
use Rattle.bound_tree.specs.View.{declarations_of}
use Rattle.bound_facts.specs.Members.{class_files, sub_from}
use Rattle.clean_procedures.specs.declared.classes.ClassSubs.{ClassSubs}
use Rattle.clean_procedures.specs.declared.classes.Home.{Home}
use Rattle.clean_procedures.specs.declared.classes.When.{When}
use Rattle.clean_procedures.specs.declared.classes.When.TheVariants.{Begin, End}

abbrev pub sub_name : When → List ℕ
sub_name Begin = codes "Class_Initialize"
sub_name End = codes "Class_Terminate"

abbrev pub subs_in : Declarations → (file : ℕ) → ClassSubs
subs_in D file = record { initializer = sub_from file (sub_name Begin) 0 D.procs; terminator = sub_from file (sub_name End) 0 D.procs }

-- the files of the class modules
abbrev pub class_file : Module → List ℕ
class_file m = cond m.class (m.file ∷ []) []

abbrev pub files_of : List Module → List ℕ
files_of ms = flat_map class_file ms

-- those of each class
abbrev pub class_table : Declarations → List ClassSubs
class_table D = map (subs_in D) (class_files D.project)

abbrev pub initializer_in : Option ClassSubs → Option ℕ
initializer_in None = None
initializer_in (Some s) = s.initializer

abbrev pub terminator_in : Option ClassSubs → Option ℕ
terminator_in None = None
terminator_in (Some s) = s.terminator

-- what a home shows, and that its table is that of its classes
abbrev pub seen : Home → Declarations
seen h = declarations_of h.declared.now

abbrev pub IsHome : Home → Type 0
IsHome h = h.subs.now ≡ class_table (seen h)
