-- What the lines of a project declare: each kind of declaration in one list in project order, by which it is numbered from 0.
use Rattle.std.specs.Prelude.{ℕ, zero, suc, ◌+◌, Bool, true, false, ◌||◌, ◌&&◌, not, cond, nat_eq, Option, Some, None, option_map, List, [], ◌∷◌, ◌++◌, length}
use Rattle.up_base.specs.declared.place.Place.{Place}
use Rattle.vb_tree.specs.declared.declared.Owner.{Owner}
use Rattle.vb_tree.specs.declared.declared.Owner.TheVariants as owner
use Rattle.vb_tree.specs.declared.declared.ProcId.{ProcId}
use Rattle.vb_tree.specs.declared.declared.ProcKind.{ProcKind}
use Rattle.vb_tree.specs.declared.declared.ProcKind.TheVariants as kind
use Rattle.vb_tree.specs.declared.declared.VarId.{VarId}
use Rattle.vb_tree.specs.declared.form_parts.Passing.{Passing}
use Rattle.vb_tree.specs.declared.form_parts.Passing.TheVariants as passing
use Rattle.vb_tree.specs.declared.form_parts.VarWord.{VarWord}
use Rattle.vb_tree.specs.declared.form_parts.VarWord.TheVariants as word
use Rattle.vb_tree.specs.declared.form_parts.Visibility.{Visibility}
use Rattle.vb_tree.specs.declared.form_parts.Visibility.TheVariants as visibility
use Rattle.vb_tree.specs.declared.token.Suffix.{Suffix}
use Rattle.vb_tree.specs.FlatLines.{flat_lines, member_lines}
use Rattle.vb_tree.specs.Tree.{Exp, TypeName, Bounds, Declarator, Constant, Param, Signature, ResultType, Form, variables, constants, type_head, field, enum_head, enum_member, sub_head, function_head, get_head, let_head, set_head, static_head, Line, Member, alone, group, proc, Module, Project}
use Rattle.bound_tree.specs.declared.declared.ConstId.{ConstId}
use Rattle.bound_tree.specs.declared.declared.EnumDecl.{EnumDecl}
use Rattle.bound_tree.specs.declared.declared.Named.{Named}
use Rattle.bound_tree.specs.declared.declared.Named.TheVariants as named
use Rattle.bound_tree.specs.declared.declared.NamedEntry.{NamedEntry}
use Rattle.bound_tree.specs.declared.declared.Scope.{Scope}
use Rattle.bound_tree.specs.declared.declared.Scope.TheVariants as scope
use Rattle.bound_tree.specs.declared.declared.TypeDecl.{TypeDecl}

-- a variable, a parameter, a result variable or a field
pub record NamedVariable : Type 0 where
  pub name : List ℕ
  pub suffix : Suffix
  pub place : Place
  -- the number of its statement in its module
  pub statement : ℕ
  pub owner : Owner
  -- the bounds of an array, none of them for a dynamic one
  pub bounds : Option (List Bounds)
  pub auto : Bool
  pub ty : Option TypeName
  -- what a parameter says further
  pub passing : Passing
  pub optional : Bool
  pub param_array : Bool
  pub preset : Option Exp

-- a constant or a member of an Enum
pub record NamedConstant : Type 0 where
  pub name : List ℕ
  pub suffix : Suffix
  pub place : Place
  pub statement : ℕ
  pub owner : Owner
  pub ty : Option TypeName
  pub value : Option Exp
  -- the member before it in its Enum: a member without an expression is that one plus 1, or 0 where there is none
  pub before : Option ConstId

pub record NamedProcedure : Type 0 where
  pub name : List ℕ
  pub suffix : Suffix
  pub place : Place
  pub statement : ℕ
  pub module_number : ℕ
  pub kind : ProcKind
  -- whether the word Static stands in its head
  pub static : Bool
  pub visibility : Visibility
  pub params : List VarId
  pub result : Option ResultType
  pub answer : Option VarId

-- declarations of each kind, and the declared names in project order, fields apart
pub record Lists : Type 0 where
  pub names : List NamedEntry
  pub vars : List NamedVariable
  pub consts : List NamedConstant
  pub procs : List NamedProcedure
  pub types : List TypeDecl
  pub enums : List EnumDecl

-- the numbers of the next declarations of each kind
pub record Numbers : Type 0 where
  pub vars : ℕ
  pub consts : ℕ
  pub procs : ℕ
  pub types : ℕ
  pub enums : ℕ

-- ---- declarations behind others

abbrev pub no_lists : Lists
no_lists = record { names = []; vars = []; consts = []; procs = []; types = []; enums = [] }

abbrev pub along : Lists → Lists → Lists
along a b = record {
  names = a.names ++ b.names;
  vars = a.vars ++ b.vars;
  consts = a.consts ++ b.consts;
  procs = a.procs ++ b.procs;
  types = a.types ++ b.types;
  enums = a.enums ++ b.enums;
}

abbrev pub numbers_behind : Numbers → Lists → Numbers
numbers_behind k d = record {
  vars = k.vars + length d.vars;
  consts = k.consts + length d.consts;
  procs = k.procs + length d.procs;
  types = k.types + length d.types;
  enums = k.enums + length d.enums;
}

abbrev pub counts : Lists → Numbers
counts d = record { vars = length d.vars; consts = length d.consts; procs = length d.procs; types = length d.types; enums = length d.enums }

-- what is declared, by the numbers of the next declarations
abbrev pub Declares : Type 0
Declares = Numbers → Lists

unfoldable pub nothing : Numbers → Lists
nothing k = no_lists

-- the one and behind it the other
unfoldable pub follow : Declares → Declares → Numbers → Lists
follow f g k = along (f k) (g (numbers_behind k (f k)))

abbrev pub each : {A : Type 0} → (A → Declares) → List A → Declares
each f [] = nothing
each f (x ∷ xs) = follow (f x) (each f xs)

-- lists with what is declared behind them
unfoldable pub with_declared : Declares → Lists → Lists
with_declared f d = along d (f (counts d))

-- ---- one declaration

abbrev pub entry : List ℕ → Scope → Named → NamedEntry
entry name where_seen what = record { name = name; scope = where_seen; named = what }

unfoldable pub a_variable : Scope → NamedVariable → Numbers → Lists
a_variable s v k = record no_lists { names = entry v.name s (named.Var (record { 0 = k.vars })) ∷ []; vars = v ∷ [] }

unfoldable pub a_field : NamedVariable → Numbers → Lists
a_field v k = record no_lists { vars = v ∷ [] }

unfoldable pub a_constant : Scope → NamedConstant → Numbers → Lists
a_constant s c k = record no_lists { names = entry c.name s (named.Const (record { 0 = k.consts })) ∷ []; consts = c ∷ [] }

-- ---- who sees a declaration of the module of a file

-- variables: Dim, Static and Private are private
abbrev pub word_scope : ℕ → VarWord → Scope
word_scope file word.Public = scope.Public file
word_scope file word.Global = scope.Public file
word_scope file _ = scope.Private file

-- constants are private without a word
abbrev pub constant_scope : ℕ → Option Visibility → Scope
constant_scope file None = scope.Private file
constant_scope file (Some visibility.Private) = scope.Private file
constant_scope file (Some _) = scope.Public file

-- Types, Enums and procedures are public without a word
abbrev pub open_scope : ℕ → Option Visibility → Scope
open_scope file None = scope.Public file
open_scope file (Some visibility.Private) = scope.Private file
open_scope file (Some _) = scope.Public file

abbrev pub written_visibility : Option Visibility → Visibility
written_visibility None = visibility.Public
written_visibility (Some v) = v

-- ---- variables and constants

abbrev pub variable_in : Owner → Place → ℕ → Declarator → NamedVariable
variable_in of place n d = record {
  name = d.name;
  suffix = d.suffix;
  place = place;
  statement = n;
  owner = of;
  bounds = d.bounds;
  auto = d.auto;
  ty = d.ty;
  passing = passing.Unsaid;
  optional = false;
  param_array = false;
  preset = None;
}

abbrev pub constant_in : Owner → Place → ℕ → Constant → NamedConstant
constant_in of place n c = record {
  name = c.name;
  suffix = c.suffix;
  place = place;
  statement = n;
  owner = of;
  ty = c.ty;
  value = Some c.value;
  before = None;
}

abbrev pub variables_in : Scope → Owner → Place → ℕ → List Declarator → Declares
variables_in s of place n ds = each (λ d. a_variable s (variable_in of place n d)) ds

abbrev pub constants_in : Scope → Owner → Place → ℕ → List Constant → Declares
constants_in s of place n cs = each (λ c. a_constant s (constant_in of place n c)) cs

-- a line of the module of a file, with the number of its statement
abbrev pub line_declares : ℕ → ℕ → Place → Form → Declares
line_declares file n place (variables w ds) = variables_in (word_scope file w) (owner.Module file) place n ds
line_declares file n place (constants v cs) = constants_in (constant_scope file v) (owner.Module file) place n cs
line_declares file n place _ = nothing

-- ---- locals

-- A local keeps its value where the word Static begins its line. A head with Static carries an issue, and its procedure declares what it
-- would without the word.
abbrev pub local_owner : ProcId → VarWord → Owner
local_owner p word.Static = owner.Static p
local_owner p _ = owner.Local p

-- a line of a procedure
abbrev pub local_declares : ProcId → ℕ → Place → Form → Declares
local_declares p n place (variables w ds) = variables_in (scope.Local p) (local_owner p w) place n ds
local_declares p n place (constants v cs) = constants_in (scope.Local p) (owner.Local p) place n cs
local_declares p n place _ = nothing

-- the lines of a procedure, of which the first is the statement n
abbrev pub locals_declare : ProcId → ℕ → List Line → Declares
locals_declare p n [] = nothing
locals_declare p n (l ∷ ls) = follow (local_declares p n l.place l.form) (locals_declare p (n + 1) ls)

-- ---- procedures

-- what the head of a procedure says
pub record Head : Type 0 where
  pub kind : ProcKind
  pub static : Bool
  pub signature : Signature
  pub result : Option ResultType

abbrev pub head_of : Form → Option Head
head_of (sub_head s) = Some (record { kind = kind.Sub; static = false; signature = s; result = None })
head_of (function_head s r) = Some (record { kind = kind.Function; static = false; signature = s; result = r })
head_of (get_head s r) = Some (record { kind = kind.Get; static = false; signature = s; result = r })
head_of (let_head s) = Some (record { kind = kind.Let; static = false; signature = s; result = None })
head_of (set_head s) = Some (record { kind = kind.Set; static = false; signature = s; result = None })
head_of (static_head k s r) = Some (record { kind = k; static = true; signature = s; result = r })
head_of _ = None

-- whether the last parameter is the value that a property is given
abbrev pub takes_value : ProcKind → Bool
takes_value kind.Let = true
takes_value kind.Set = true
takes_value _ = false

abbrev pub has_result : ProcKind → Bool
has_result kind.Function = true
has_result kind.Get = true
has_result _ = false

abbrev pub is_by_value : Passing → Bool
is_by_value passing.Value = true
is_by_value _ = false

abbrev pub param_owner : ProcId → (given : Bool) → Param → Owner
param_owner p given q = cond (given || (is_by_value q.passing && not q.array)) (owner.Value p) (owner.Reference p)

abbrev pub dynamic : Bool → Option (List Bounds)
dynamic array = cond array (Some []) None

abbrev pub parameter_in : Owner → Place → ℕ → Param → NamedVariable
parameter_in of place n q = record {
  name = q.name;
  suffix = q.suffix;
  place = place;
  statement = n;
  owner = of;
  bounds = dynamic q.array;
  auto = false;
  ty = q.ty;
  passing = q.passing;
  optional = q.optional;
  param_array = q.param_array;
  preset = q.preset;
}

-- the place of the parameter that is the value that a property is given, from 1, and 0 where none is
abbrev pub given_place : Head → ℕ
given_place h = cond (takes_value h.kind) (length h.signature.params) 0

-- parameters behind i others, of which the one at a place from 1 is given a value
abbrev pub params_declare : ProcId → (given : ℕ) → Place → ℕ → (i : ℕ) → List Param → Declares
params_declare p given place n i [] = nothing
params_declare p given place n i (q ∷ qs) =
    follow (a_variable (scope.Local p) (parameter_in (param_owner p (nat_eq (i + 1) given) q) place n q)) (params_declare p given place n (i + 1) qs)

abbrev pub result_bounds : Option ResultType → Option (List Bounds)
result_bounds None = None
result_bounds (Some r) = dynamic r.array

-- the result variable
abbrev pub answer_in : ProcId → Place → ℕ → Head → NamedVariable
answer_in p place n h = record {
  name = h.signature.name;
  suffix = h.signature.suffix;
  place = place;
  statement = n;
  owner = owner.Answer p;
  bounds = result_bounds h.result;
  auto = false;
  ty = option_map (λ r. r.ty) h.result;
  passing = passing.Unsaid;
  optional = false;
  param_array = false;
  preset = None;
}

abbrev pub answer_declares : ProcId → Place → ℕ → Head → Declares
answer_declares p place n h = cond (has_result h.kind) (a_variable (scope.Local p) (answer_in p place n h)) nothing

-- the numbers of so many variables, of which the first is k
abbrev pub ids : (k : ℕ) → ℕ → List VarId
ids k zero = []
ids k (suc n) = record { 0 = k } ∷ ids (k + 1) n

-- the number of the result variable, behind the parameters, of which the first is k
abbrev pub answer_id : ℕ → Head → Option VarId
answer_id k h = cond (has_result h.kind) (Some (record { 0 = k + length h.signature.params })) None

abbrev pub procedure_in : ℕ → Place → ℕ → Head → (k : ℕ) → NamedProcedure
procedure_in file place n h k = record {
  name = h.signature.name;
  suffix = h.signature.suffix;
  place = place;
  statement = n;
  module_number = file;
  kind = h.kind;
  static = h.static;
  visibility = written_visibility h.signature.visibility;
  params = ids k (length h.signature.params);
  result = h.result;
  answer = answer_id k h;
}

unfoldable pub a_procedure : ℕ → Place → ℕ → Head → Numbers → Lists
a_procedure file place n h k = record no_lists {
  names = entry h.signature.name (open_scope file h.signature.visibility) (named.Proc (record { 0 = k.procs })) ∷ [];
  procs = procedure_in file place n h k.vars ∷ [];
}

-- what a procedure with the number p has of its own: its parameters, its result variable, and its locals as they stand
abbrev pub inside_declares : ProcId → Place → ℕ → Head → List Line → Declares
inside_declares p place n h body =
    follow (params_declare p (given_place h) place n 0 h.signature.params)
    (follow (answer_declares p place n h) (locals_declare p (n + 1) body))

unfoldable pub procedure_declares : ℕ → Place → ℕ → Head → List Line → Numbers → Lists
procedure_declares file place n h body k = follow (a_procedure file place n h) (inside_declares (record { 0 = k.procs }) place n h body) k

-- ---- Types and Enums

abbrev pub field_in : Owner → Place → ℕ → List ℕ → Suffix → Option (List Bounds) → TypeName → NamedVariable
field_in of place n name suffix bounds ty = record {
  name = name;
  suffix = suffix;
  place = place;
  statement = n;
  owner = of;
  bounds = bounds;
  auto = false;
  ty = Some ty;
  passing = passing.Unsaid;
  optional = false;
  param_array = false;
  preset = None;
}

abbrev pub field_declares : Owner → ℕ → Place → Form → Declares
field_declares of n place (field name suffix bounds ty) = a_field (field_in of place n name suffix bounds ty)
field_declares of n place _ = nothing

abbrev pub fields_declare : Owner → ℕ → List Line → Declares
fields_declare of n [] = nothing
fields_declare of n (l ∷ ls) = follow (field_declares of n l.place l.form) (fields_declare of (n + 1) ls)

abbrev pub member_in : ℕ → Option ConstId → Place → ℕ → List ℕ → Suffix → Option Exp → NamedConstant
member_in file before place n name suffix value = record {
  name = name;
  suffix = suffix;
  place = place;
  statement = n;
  owner = owner.Module file;
  ty = None;
  value = value;
  before = before;
}

abbrev pub enum_line_declares : Scope → ℕ → Option ConstId → ℕ → Place → Form → Declares
enum_line_declares s file before n place (enum_member name suffix value) = a_constant s (member_in file before place n name suffix value)
enum_line_declares s file before n place _ = nothing

unfoldable pub members_declare : Scope → ℕ → Option ConstId → ℕ → List Line → Numbers → Lists
members_declare s file before n [] k = no_lists
members_declare s file before n (l ∷ ls) k =
    follow (enum_line_declares s file before n l.place l.form) (members_declare s file (Some (record { 0 = k.consts })) (n + 1) ls) k

abbrev pub const_ids : (k : ℕ) → ℕ → List ConstId
const_ids k zero = []
const_ids k (suc n) = record { 0 = k } ∷ const_ids (k + 1) n

unfoldable pub a_type : ℕ → Place → Option Visibility → List ℕ → List Line → Numbers → Lists
a_type file place v name lines k = record no_lists {
  names = entry name (open_scope file v) (named.Type (record { 0 = k.types })) ∷ [];
  types = record { name = name; place = place; «module» = file; fields = ids k.vars (length lines) } ∷ [];
}

unfoldable pub an_enum : ℕ → Place → Option Visibility → List ℕ → List Line → Numbers → Lists
an_enum file place v name lines k = record no_lists {
  names = entry name (open_scope file v) (named.Enum (record { 0 = k.enums })) ∷ [];
  enums = record { name = name; place = place; «module» = file; members = const_ids k.consts (length lines) } ∷ [];
}

unfoldable pub type_declares : ℕ → Place → ℕ → Option Visibility → List ℕ → List Line → Numbers → Lists
type_declares file place n v name lines k =
    follow (a_type file place v name lines) (fields_declare (owner.Field (record { 0 = k.types })) (n + 1) lines) k

abbrev pub enum_declares : ℕ → Place → ℕ → Option Visibility → List ℕ → List Line → Declares
enum_declares file place n v name lines = follow (an_enum file place v name lines) (members_declare (open_scope file v) file None (n + 1) lines)

-- a Type or an Enum with the lines in it
abbrev pub group_declares : ℕ → Place → ℕ → Form → List Line → Declares
group_declares file place n (type_head v name suffix) lines = type_declares file place n v name lines
group_declares file place n (enum_head v name suffix) lines = enum_declares file place n v name lines
group_declares file place n _ lines = nothing

-- ---- modules

abbrev pub head_declares : ℕ → Place → ℕ → Option Head → List Line → Declares
head_declares file place n None body = nothing
head_declares file place n (Some h) body = procedure_declares file place n h body

-- a member of the module of a file, whose first line is the statement n
abbrev pub member_declares : ℕ → ℕ → Member → Declares
member_declares file n (alone l) = line_declares file n l.place l.form
member_declares file n (group head lines close) = group_declares file head.place n head.form lines
member_declares file n (proc head body close) = head_declares file head.place n (head_of head.form) (flat_lines body)

abbrev pub module_declares : ℕ → ℕ → List Member → Declares
module_declares file n [] = nothing
module_declares file n (m ∷ ms) = follow (member_declares file n m) (module_declares file (n + length (member_lines m)) ms)

abbrev pub project_declares : List Module → Declares
project_declares ms = each (λ (m : Module). module_declares m.file 0 m.members) ms

-- all that a project declares
abbrev pub lists_of : Project → Lists
lists_of P = with_declared (project_declares P.modules) no_lists
