-- What the tables of a project's members hold, so that no look-up of a part of a property or of a variable of a class searches a list
-- that grows with the project.
use Rattle.std.specs.Prelude.{◌≡◌, ℕ, nat_eq, Option, unwrap_or, List, map, filter, position}
use Rattle.vb_tree.specs.declared.declared.ProcKind.{ProcKind}
use Rattle.vb_tree.specs.declared.declared.ProcKind.TheVariants as kind
use Rattle.vb_tree.specs.Tree.{Module}
use Rattle.bound_tree.specs.Tree.{Declarations}
use Rattle.bound_facts.specs.Members.{class_files, variables_from}
use Rattle.indexmap.specs.IndexMap.{IndexMap, get}
use Rattle.name_tables.specs.Places.{is_same_pair}
use Rattle.expression_words.specs.declared.member_tables.MemberTables.{MemberTables}
use Rattle.expression_words.specs.Members.{class_of_file, part}

-- the part of a kind that tables have for a first part
abbrev pub noted_part : MemberTables → ProcKind → ℕ → Option ℕ
noted_part t kind.Sub first = get nat_eq t.subs first
noted_part t kind.Function first = get nat_eq t.functions first
noted_part t kind.Get first = get nat_eq t.gets first
noted_part t kind.Let first = get nat_eq t.lets first
noted_part t kind.Set first = get nat_eq t.sets first

-- the files of the class modules among some
abbrev pub class_files_in : List Module → List ℕ
class_files_in modules = map (λ (m : Module). m.file) (filter (λ (m : Module). m.class) modules)

-- by the file the number of each class
abbrev pub AreClasses : {S : Type 0} → IndexMap ℕ ℕ S → Declarations → Type 0
AreClasses m D = (file : ℕ) → get nat_eq m file ≡ class_of_file D file

-- how many variables of a file were counted
abbrev pub counted : {S : Type 0} → IndexMap ℕ ℕ S → ℕ → ℕ
counted m file = unwrap_or (get nat_eq m file) 0

-- by a file and a variable the place of the variable among those of that module
abbrev pub ArePlaces : {S : Type 0} → IndexMap (ℕ × ℕ) ℕ S → Declarations → Type 0
ArePlaces m D = (file v : ℕ) → get is_same_pair m (file, v) ≡ position (nat_eq v) (variables_from file 0 D.vars)

-- whether tables are those of declarations
pub record AreMemberTables (t : MemberTables) (D : Declarations) : Type 0 where
  pub parts : (k : ProcKind) (first : ℕ) → noted_part t k first ≡ part D k first
  pub class_files : t.class_files.items ≡ class_files D.project
  pub classes : AreClasses t.classes D
  pub places : ArePlaces t.places D
