-- What a name stands for: the first declaration of a fitting kind, scope by scope. A key is a name in small letters.
use Rattle.std.specs.Prelude.{ℕ, ◌+◌, Bool, true, false, ◌==◌, ◌&&◌, ◌||◌, not, nat_eq, nat_lt, List, [], ◌∷◌, filter, Option, Some, None, option_map, is_some, find, filter_map, position, slice_get, take, drop, if◌then◌else◌}
use Rattle.std.specs.List.{list_any}
use Rattle.std.specs.Cmp.Lexicographic.{pointwise}
use Rattle.up_base.specs.Names.{lower_case}
use Rattle.vb_tree.specs.declared.declared.ClassId.{ClassId}
use Rattle.vb_tree.specs.declared.declared.ProcId.{ProcId}
use Rattle.vb_tree.specs.declared.declared.VarId.{VarId}
use Rattle.vb_tree.specs.declared.declared.ProcKind.{ProcKind}
use Rattle.vb_tree.specs.declared.declared.ProcKind.TheVariants as proc
use Rattle.vb_tree.specs.declared.form_parts.Label6.{Label6}
use Rattle.vb_tree.specs.Tree.{Module, Project, Line}
use Rattle.bound_tree.specs.declared.declared.ConstId.{ConstId}
use Rattle.bound_tree.specs.declared.declared.EnumDecl.{EnumDecl}
use Rattle.bound_tree.specs.declared.declared.Named.{Named}
use Rattle.bound_tree.specs.declared.declared.Named.TheVariants as named
use Rattle.bound_tree.specs.declared.declared.NamedEntry.{NamedEntry}
use Rattle.bound_tree.specs.declared.declared.Scope.{Scope}
use Rattle.bound_tree.specs.declared.declared.Scope.TheVariants as scope
use Rattle.bound_tree.specs.declared.declared.TypeDecl.{TypeDecl}
use Rattle.bound_tree.specs.Tree.{Declarations, Variable, Constant, Procedure}
use Rattle.bound_tree.specs.Labels.{labels, label_of, label_at}
use Rattle.name_tables.specs.declared.uses.Kinds.{Kinds}
use Rattle.name_tables.specs.declared.uses.Kinds.TheVariants as kinds
use Rattle.name_tables.specs.declared.uses.Site.{Site}
use Rattle.name_tables.specs.declared.uses.Spelling.{Spelling}
use Rattle.name_tables.specs.declared.uses.Use6.{Use6}
use Rattle.name_tables.specs.declared.uses.Use6.TheVariants as use6
use Rattle.name_tables.specs.declared.uses.Wanted.{Wanted}
use Rattle.name_tables.specs.declared.uses.Wanted.TheVariants as wanted
use Rattle.name_tables.specs.Events.{Event, events_of}
use Rattle.name_tables.specs.Library.{is_library}

-- whether a name is the one of a key
abbrev pub has_key : List ℕ → List ℕ → Bool
has_key key name = pointwise nat_eq (lower_case name) key

-- the first of two answers that there is
abbrev pub first_of : {X : Type 0} → Option X → Option X → Option X
first_of (Some x) y = Some x
first_of None y = y

abbrev pub or_else : {X : Type 0} → Option X → X → X
or_else (Some x) y = x
or_else None y = y

-- Kinds of declarations.

abbrev pub kinds_of : Wanted → Kinds
kinds_of wanted.Callee = kinds.Callees
kinds_of wanted.Value = kinds.Values
kinds_of wanted.Indexed = kinds.Values
kinds_of wanted.Qualifier = kinds.Values

-- whether the result variable of a procedure fits
abbrev pub is_plain : Wanted → Bool
is_plain wanted.Value = true
is_plain wanted.Qualifier = true
is_plain wanted.Indexed = false
is_plain wanted.Callee = false

abbrev pub var_fits : Kinds → Bool
var_fits kinds.Values = true
var_fits kinds.Members = true
var_fits kinds.Callees = false
var_fits kinds.Enums = false
var_fits kinds.Types = false

abbrev pub const_fits : Kinds → Bool
const_fits kinds.Values = true
const_fits kinds.Members = false
const_fits kinds.Callees = false
const_fits kinds.Enums = false
const_fits kinds.Types = false

abbrev pub type_fits : Kinds → Bool
type_fits kinds.Types = true
type_fits kinds.Values = false
type_fits kinds.Members = false
type_fits kinds.Callees = false
type_fits kinds.Enums = false

abbrev pub enum_fits : Kinds → Bool
enum_fits kinds.Types = true
enum_fits kinds.Enums = true
enum_fits kinds.Values = false
enum_fits kinds.Members = false
enum_fits kinds.Callees = false

abbrev pub is_sub : ProcKind → Bool
is_sub proc.Sub = true
is_sub proc.Function = false
is_sub proc.Get = false
is_sub proc.Let = false
is_sub proc.Set = false

abbrev pub is_callee : ProcKind → Bool
is_callee proc.Sub = true
is_callee proc.Function = true
is_callee proc.Get = false
is_callee proc.Let = false
is_callee proc.Set = false

abbrev pub proc_fits : Kinds → ProcKind → Bool
proc_fits kinds.Values p = not (is_sub p)
proc_fits kinds.Callees p = is_callee p
proc_fits kinds.Members p = true
proc_fits kinds.Enums p = false
proc_fits kinds.Types p = false

abbrev pub some_proc_fits : Kinds → Option Procedure → Bool
some_proc_fits k None = false
some_proc_fits k (Some p) = proc_fits k p.kind

abbrev pub fits : Declarations → Kinds → Named → Bool
fits D k (named.Var v) = var_fits k
fits D k (named.Const c) = const_fits k
fits D k (named.Proc p) = some_proc_fits k (slice_get D.procs p.0)
fits D k (named.Type t) = type_fits k
fits D k (named.Enum e) = enum_fits k

-- a declaration, where its kind fits
abbrev pub if_fits : Declarations → Kinds → Option Named → Option Named
if_fits D k None = None
if_fits D k (Some n) = if fits D k n then Some n else None

-- Scopes.

abbrev pub in_procedure : ProcId → Scope → Bool
in_procedure p (scope.Local q) = q.0 == p.0
in_procedure p (scope.Public f) = false
in_procedure p (scope.Private f) = false

abbrev pub in_module : ℕ → Scope → Bool
in_module file (scope.Public f) = f == file
in_module file (scope.Private f) = f == file
in_module file (scope.Local p) = false

abbrev pub is_public_in : ℕ → Scope → Bool
is_public_in file (scope.Public f) = f == file
is_public_in file (scope.Private f) = false
is_public_in file (scope.Local p) = false

-- what is declared in a module, as far as it can be seen from the module of the file `from`
abbrev pub seen_in : ℕ → ℕ → Scope → Bool
seen_in from file s = if from == file then in_module file s else is_public_in file s

abbrev pub is_local : ProcId → List ℕ → NamedEntry → Bool
is_local p key e = in_procedure p e.scope && has_key key e.name

abbrev pub is_seen : ℕ → ℕ → List ℕ → NamedEntry → Bool
is_seen from file key e = seen_in from file e.scope && has_key key e.name

-- what the first name that passes a test is declared as
abbrev pub first_named : (NamedEntry → Bool) → List NamedEntry → Option Named
first_named test names = option_map (λ (e : NamedEntry). e.named) (find test names)

abbrev pub local_named : Declarations → ProcId → List ℕ → Option Named
local_named D p key = first_named (is_local p key) D.names

-- the declaration of a module, seen from the module of the file `from`
abbrev pub member_named : Declarations → ℕ → ℕ → List ℕ → Option Named
member_named D from file key = first_named (is_seen from file key) D.names

-- Modules.

abbrev pub is_standard_name : List ℕ → Module → Bool
is_standard_name key m = has_key key m.name && not m.class

-- the file number of the standard module with a name
abbrev pub standard_named : Declarations → List ℕ → Option ℕ
standard_named D key = option_map (λ (m : Module). m.file) (find (is_standard_name key) D.project.modules)

abbrev pub classes_of : Project → List Module
classes_of P = filter (λ (m : Module). m.class) P.modules

abbrev pub class_id : ℕ → ClassId
class_id n = record { 0 = n }

-- a class has a number of 32 bits
abbrev pub class_numbered : Option ℕ → Option ClassId
class_numbered None = None
class_numbered (Some n) = if nat_lt n 4294967296 then Some (class_id n) else None

abbrev pub class_named : Declarations → List ℕ → Option ClassId
class_named D key = class_numbered (position (λ (m : Module). has_key key m.name) (classes_of D.project))

abbrev pub class_file : Declarations → ClassId → Option ℕ
class_file D c = option_map (λ (m : Module). m.file) (slice_get (classes_of D.project) c.0)

-- Declarations of other standard modules.

-- what fits in a module, where it is another standard module
abbrev pub foreign_in : Declarations → Kinds → ℕ → List ℕ → Module → Option Use6
foreign_in D k from key m =
    if m.class || m.file == from then None else option_map (use6.Foreign m.file) (if_fits D k (member_named D from m.file key))

-- the only one of several
abbrev pub the_only : List Use6 → Option Use6
the_only [] = None
the_only (u ∷ []) = Some u
the_only (u ∷ v ∷ us) = Some use6.Ambiguous

abbrev pub joined : Option Use6 → Option Use6 → Option Use6
joined None u = u
joined (Some u) None = Some u
joined (Some u) (Some v) = Some use6.Ambiguous

-- the declaration of another standard module, where not two of them have one
abbrev pub foreign_use : Declarations → Kinds → ℕ → List ℕ → Option Use6
foreign_use D k from key = the_only (filter_map (foreign_in D k from key) D.project.modules)

-- Names that are known and are no values.

abbrev pub unusable_if : Bool → Option Use6
unusable_if b = if b then Some use6.Unusable else None

abbrev pub is_own_event : ℕ → List ℕ → Event → Bool
is_own_event file key e = (e.file == file) && has_key key e.name

abbrev pub is_seen_event : List ℕ → Event → Bool
is_seen_event key e = e.seen && has_key key e.name

abbrev pub has_own_event : Declarations → ℕ → List ℕ → Bool
has_own_event D file key = list_any (is_own_event file key) (events_of D.project)

abbrev pub has_seen_event : Declarations → List ℕ → Bool
has_seen_event D key = list_any (is_seen_event key) (events_of D.project)

abbrev pub has_member : ConstId → EnumDecl → Bool
has_member c e = list_any (λ (m : ConstId). m.0 == c.0) e.members

abbrev pub is_enum_member : Declarations → Named → Bool
is_enum_member D (named.Const c) = list_any (has_member c) D.enums
is_enum_member D (named.Var v) = false
is_enum_member D (named.Proc p) = false
is_enum_member D (named.Type t) = false
is_enum_member D (named.Enum e) = false

abbrev pub some_enum_member : Declarations → Option Named → Bool
some_enum_member D None = false
some_enum_member D (Some n) = is_enum_member D n

-- whether a module is another class module with a member of an Enum that can be seen
abbrev pub has_constant_in : Declarations → ℕ → List ℕ → Module → Bool
has_constant_in D from key m = (m.class && not (m.file == from)) && some_enum_member D (member_named D from m.file key)

abbrev pub has_class_constant : Declarations → ℕ → List ℕ → Bool
has_class_constant D from key = list_any (has_constant_in D from key) D.project.modules

-- Values.

abbrev pub is_variable : VarId → Option VarId → Bool
is_variable v None = false
is_variable v (Some w) = v.0 == w.0

-- whether a declaration is the result variable of a procedure
abbrev pub is_answer : Option Procedure → Named → Bool
is_answer None n = false
is_answer (Some p) (named.Var v) = is_variable v p.answer
is_answer (Some p) (named.Const c) = false
is_answer (Some p) (named.Proc q) = false
is_answer (Some p) (named.Type t) = false
is_answer (Some p) (named.Enum e) = false

-- a local; the result variable of the procedure is meant by its name without arguments alone
abbrev pub unless_answer : Wanted → Option Procedure → Option Named → Option Named
unless_answer w p None = None
unless_answer w p (Some n) = if not (is_plain w) && is_answer p n then None else Some n

abbrev pub local_in : Declarations → Wanted → List ℕ → Option ProcId → Option Named
local_in D w key None = None
local_in D w key (Some p) = unless_answer w (slice_get D.procs p.0) (if_fits D (kinds_of w) (local_named D p key))

abbrev pub local_use : Declarations → Site → Wanted → List ℕ → Option Use6
local_use D s w key = option_map use6.Local (local_in D w key s.procedure)

-- what a declaration of the module of the file number `file` is, seen from the file `from`
abbrev pub use_in : ℕ → ℕ → Named → Use6
use_in from file n = if from == file then use6.Own n else use6.Foreign file n

abbrev pub own_use : Declarations → Site → Kinds → List ℕ → Option Use6
own_use D s k key = option_map use6.Own (if_fits D k (member_named D s.file s.file key))

-- what a word stands for as a value or a callee: a local, a declaration of its module, a public one of another standard module
abbrev pub value_use : Declarations → Site → Wanted → List ℕ → Option Use6
value_use D s w key =
    first_of (local_use D s w key)
    (first_of (own_use D s (kinds_of w) key)
    (first_of (unusable_if (has_own_event D s.file key))
    (first_of (foreign_use D (kinds_of w) s.file key) (unusable_if (has_seen_event D key || has_class_constant D s.file key)))))

abbrev pub enum_use : Declarations → Site → List ℕ → Option Use6
enum_use D s key = first_of (own_use D s kinds.Enums key) (foreign_use D kinds.Enums s.file key)

abbrev pub unknown : Spelling → List ℕ → Use6
unknown spelling key = if is_library spelling key then use6.Library else use6.Undeclared

-- a word that is no value, without a full stop behind it: an Enum's name can't be used, a module's is as any other
abbrev pub unvalued : Spelling → List ℕ → (standard enum : Bool) → Use6
unvalued spelling key standard enum = if enum && not standard then use6.Unusable else unknown spelling key

-- a word that is no value, before a full stop: a standard module, else an Enum
abbrev pub qualifier : Declarations → Site → Spelling → List ℕ → Use6
qualifier D s spelling key = or_else (first_of (option_map use6.Module (standard_named D key)) (enum_use D s key)) (unknown spelling key)

abbrev pub other_use : Declarations → Site → Wanted → Spelling → List ℕ → Use6
other_use D s wanted.Qualifier spelling key = qualifier D s spelling key
other_use D s wanted.Value spelling key = unvalued spelling key (is_some (standard_named D key)) (is_some (enum_use D s key))
other_use D s wanted.Indexed spelling key = unvalued spelling key (is_some (standard_named D key)) (is_some (enum_use D s key))
other_use D s wanted.Callee spelling key = unvalued spelling key (is_some (standard_named D key)) (is_some (enum_use D s key))

-- what a word stands for that is used as a value, as a callee or before a full stop
abbrev pub found : Declarations → Site → Wanted → Spelling → List ℕ → Use6
found D s w spelling key = or_else (value_use D s w key) (other_use D s w spelling key)

-- Behind a full stop.

-- what a name behind an object of a class stands for; private ones are seen in the class alone
abbrev pub found_in_file : Declarations → Site → List ℕ → Option ℕ → Option Named
found_in_file D s key None = None
found_in_file D s key (Some file) = if_fits D kinds.Members (member_named D s.file file key)

abbrev pub found_member : Declarations → Site → ClassId → List ℕ → Option Named
found_member D s c key = found_in_file D s key (class_file D c)

-- an Enum before another full stop, or a value or callee
abbrev pub in_module_fits : Declarations → Wanted → Option Named → Option Named
in_module_fits D wanted.Qualifier n = first_of (if_fits D kinds.Values n) (if_fits D kinds.Enums n)
in_module_fits D wanted.Value n = if_fits D kinds.Values n
in_module_fits D wanted.Indexed n = if_fits D kinds.Values n
in_module_fits D wanted.Callee n = if_fits D kinds.Callees n

-- what a name behind the standard module of a file number stands for
abbrev pub found_in_module : Declarations → Site → Wanted → ℕ → List ℕ → Use6
found_in_module D s w file key = or_else (option_map (use_in s.file file) (in_module_fits D w (member_named D s.file file key))) use6.Undeclared

abbrev pub some_constant_has_key : List ℕ → Option Constant → Bool
some_constant_has_key key None = false
some_constant_has_key key (Some c) = has_key key c.name

abbrev pub constant_has_key : Declarations → List ℕ → ConstId → Bool
constant_has_key D key c = some_constant_has_key key (slice_get D.consts c.0)

-- the member of an Enum with a name
abbrev pub found_in_enum : Declarations → EnumDecl → List ℕ → Option ConstId
found_in_enum D e key = find (constant_has_key D key) e.members

abbrev pub some_variable_has_key : List ℕ → Option Variable → Bool
some_variable_has_key key None = false
some_variable_has_key key (Some v) = has_key key v.name

abbrev pub variable_has_key : Declarations → List ℕ → VarId → Bool
variable_has_key D key v = some_variable_has_key key (slice_get D.vars v.0)

-- the place of the field with a name among those of a user type
abbrev pub found_field : Declarations → TypeDecl → List ℕ → Option ℕ
found_field D t key = position (variable_has_key D key) t.fields

-- the first line with a label, of code lines that are numbered from 1
abbrev pub found_label : List Line → Label6 → Option ℕ
found_label lines label = label_at (labels lines) (label_of label)

-- Types.

abbrev pub type_use : Declarations → Site → List ℕ → Option Use6
type_use D s key =
    first_of (own_use D s kinds.Types key) (first_of (option_map use6.Class (class_named D key)) (foreign_use D kinds.Types s.file key))

-- a type of the standard module with a name
abbrev pub type_in : Declarations → Site → List ℕ → Option ℕ → Option Use6
type_in D s key None = None
type_in D s key (Some file) = option_map (use_in s.file file) (if_fits D kinds.Types (member_named D s.file file key))

-- the place of the first full stop
abbrev pub stop_in : List ℕ → Option ℕ
stop_in key = position (λ c. c == 46) key

abbrev pub split_use : Declarations → Site → List ℕ → Option ℕ → Option Use6
split_use D s key None = type_use D s key
split_use D s key (Some i) = type_in D s (drop (i + 1) key) (standard_named D (take i key))

-- what a type name stands for, `n` or `m.n`: a Type, an Enum or a class
abbrev pub found_type : Declarations → Site → List ℕ → Use6
found_type D s key = or_else (split_use D s key (stop_in key)) use6.Undeclared
