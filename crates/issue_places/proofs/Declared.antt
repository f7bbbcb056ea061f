-- What lines declare stands where the lines do.
use Rattle.std.proofs.Common.{ℕ, ◌+◌, Bool, true, false, cond, List, [], ◌∷◌, length, Option, Some, None}
use Rattle.std.specs.Prelude.{nat_eq}
use Rattle.std.specs.List.{AllByRecursion as Each, flat_map}
use Rattle.up_base.specs.declared.place.Place.{Place}
use Rattle.vb_tree.specs.declared.declared.Owner.{Owner}
use Rattle.vb_tree.specs.declared.declared.Owner.TheVariants as owner
use Rattle.vb_tree.specs.declared.declared.ProcId.{ProcId}
use Rattle.vb_tree.specs.declared.form_parts.Visibility.{Visibility}
use Rattle.vb_tree.specs.FlatLines.{flat_lines, member_lines}
use Rattle.vb_tree.specs.Tree.{Declarator, Param, Form, variables, constants, type_head, field, enum_head, enum_member, Line, Member, alone, group, proc, Module, Project}
use Rattle.vb_tree.specs.Tree as source
use Rattle.bound_tree.specs.declared.declared.ConstId.{ConstId}
use Rattle.bound_tree.specs.declared.declared.EnumDecl.{EnumDecl}
use Rattle.bound_tree.specs.declared.declared.Scope.{Scope}
use Rattle.bound_tree.specs.declared.declared.Scope.TheVariants as scope
use Rattle.bound_tree.specs.declared.declared.TypeDecl.{TypeDecl}
use Rattle.declared_names.specs.Declaring.{NamedVariable, NamedConstant, NamedProcedure, Lists, Numbers, no_lists, along, numbers_behind, counts, Declares, nothing, follow, each, with_declared, a_variable, a_field, a_constant, word_scope, constant_scope, open_scope, variable_in, constant_in, variables_in, constants_in, line_declares, local_owner, local_declares, locals_declare, Head, head_of, has_result, param_owner, parameter_in, given_place, params_declare, answer_in, answer_declares, a_procedure, inside_declares, procedure_declares, field_in, field_declares, fields_declare, member_in, enum_line_declares, members_declare, a_type, an_enum, type_declares, enum_declares, group_declares, head_declares, member_declares, module_declares, project_declares, lists_of}
use Rattle.issue_places.proofs.Each.{each_append, each_left, each_right}
use Rattle.issue_places.proofs.Standing.{LinesStand, ModulesStand}

pub record ListsStand (F : Place → Type 0) (d : Lists) : Type 0 where
  pub vars : Each (λ (v : NamedVariable). F v.place) d.vars
  pub consts : Each (λ (c : NamedConstant). F c.place) d.consts
  pub procs : Each (λ (p : NamedProcedure). F p.place) d.procs
  pub types : Each (λ (t : TypeDecl). F t.place) d.types
  pub enums : Each (λ (e : EnumDecl). F e.place) d.enums

abbrev Stand : (Place → Type 0) → Declares → Type 0
Stand F f = (k : Numbers) → ListsStand F (f k)

-- ---- declarations behind others

none_stands : (F : Place → Type 0) → ListsStand F no_lists
none_stands F = record { vars = tt; consts = tt; procs = tt; types = tt; enums = tt }

along_stands : (F : Place → Type 0) (a b : Lists) → ListsStand F a → ListsStand F b → ListsStand F (along a b)
along_stands F a b h k = record {
  vars = each_append (λ (v : NamedVariable). F v.place) a.vars b.vars h.vars k.vars;
  consts = each_append (λ (c : NamedConstant). F c.place) a.consts b.consts h.consts k.consts;
  procs = each_append (λ (p : NamedProcedure). F p.place) a.procs b.procs h.procs k.procs;
  types = each_append (λ (t : TypeDecl). F t.place) a.types b.types h.types k.types;
  enums = each_append (λ (e : EnumDecl). F e.place) a.enums b.enums h.enums k.enums;
}

nothing_stands : (F : Place → Type 0) → Stand F nothing
unfolding nothing
nothing_stands F = λ k. none_stands F

follow_stands : (F : Place → Type 0) (f g : Declares) → Stand F f → Stand F g → Stand F (follow f g)
unfolding follow
follow_stands F f g h i = λ k. along_stands F (f k) (g (numbers_behind k (f k))) (h k) (i (numbers_behind k (f k)))

each_stands : {A : Type 0} (F : Place → Type 0) (f : A → Declares) → ((x : A) → Stand F (f x)) → (xs : List A) → Stand F (each f xs)
each_stands F f h [] = nothing_stands F
each_stands F f h (x ∷ xs) = follow_stands F (f x) (each f xs) (h x) (each_stands F f h xs)

either_stands : (F : Place → Type 0) (b : Bool) (f g : Declares) → Stand F f → Stand F g → Stand F (cond b f g)
either_stands F true f g h i = h
either_stands F false f g h i = i

-- ---- one declaration

variable_stands : (F : Place → Type 0) (s : Scope) (v : NamedVariable) → F v.place → Stand F (a_variable s v)
unfolding a_variable
variable_stands F s v h = λ k. record { vars = (h, tt); consts = tt; procs = tt; types = tt; enums = tt }

named_field_stands : (F : Place → Type 0) (v : NamedVariable) → F v.place → Stand F (a_field v)
unfolding a_field
named_field_stands F v h = λ k. record { vars = (h, tt); consts = tt; procs = tt; types = tt; enums = tt }

constant_stands : (F : Place → Type 0) (s : Scope) (c : NamedConstant) → F c.place → Stand F (a_constant s c)
unfolding a_constant
constant_stands F s c h = λ k. record { vars = tt; consts = (h, tt); procs = tt; types = tt; enums = tt }

-- ---- variables and constants

variables_stand : (F : Place → Type 0) (s : Scope) (of : Owner) (place : Place) (n : ℕ) (ds : List Declarator) → F place → Stand F (variables_in s of place n ds)
variables_stand F s of place n ds h =
    each_stands F (λ (d : Declarator). a_variable s (variable_in of place n d)) (λ (d : Declarator). variable_stands F s (variable_in of place n d) h) ds

constants_stand : (F : Place → Type 0) (s : Scope) (of : Owner) (place : Place) (n : ℕ) (cs : List source.Constant) → F place → Stand F (constants_in s of place n cs)
constants_stand F s of place n cs h =
    each_stands F (λ (c : source.Constant). a_constant s (constant_in of place n c)) (λ (c : source.Constant). constant_stands F s (constant_in of place n c) h) cs

line_stands : (F : Place → Type 0) (file n : ℕ) (place : Place) (f : Form) → F place → Stand F (line_declares file n place f)
line_stands F file n place (variables w ds) h = variables_stand F (word_scope file w) (owner.Module file) place n ds h
line_stands F file n place (constants v cs) h = constants_stand F (constant_scope file v) (owner.Module file) place n cs h
line_stands F file n place _ h = nothing_stands F

local_stands : (F : Place → Type 0) (p : ProcId) (n : ℕ) (place : Place) (f : Form) → F place → Stand F (local_declares p n place f)
local_stands F p n place (variables w ds) h = variables_stand F (scope.Local p) (local_owner p w) place n ds h
local_stands F p n place (constants v cs) h = constants_stand F (scope.Local p) (owner.Local p) place n cs h
local_stands F p n place _ h = nothing_stands F

locals_stand : (F : Place → Type 0) (p : ProcId) (n : ℕ) (ls : List Line) → LinesStand F ls → Stand F (locals_declare p n ls)
locals_stand F p n [] h = nothing_stands F
locals_stand F p n (l ∷ ls) h =
    follow_stands F (local_declares p n l.place l.form) (locals_declare p (n + 1) ls) (local_stands F p n l.place l.form h.0) (locals_stand F p (n + 1) ls h.1)

-- ---- procedures

params_stand : (F : Place → Type 0) (p : ProcId) (value : ℕ) (place : Place) (n i : ℕ) (qs : List Param) → F place → Stand F (params_declare p value place n i qs)
params_stand F p value place n i [] h = nothing_stands F
params_stand F p value place n i (q ∷ qs) h =
    let v = parameter_in (param_owner p (nat_eq (i + 1) value) q) place n q in
    follow_stands F (a_variable (scope.Local p) v) (params_declare p value place n (i + 1) qs) (variable_stands F (scope.Local p) v h) (params_stand F p value place n (i + 1) qs h)

answer_stands : (F : Place → Type 0) (p : ProcId) (place : Place) (n : ℕ) (d : Head) → F place → Stand F (answer_declares p place n d)
answer_stands F p place n d h =
    either_stands F (has_result d.kind) (a_variable (scope.Local p) (answer_in p place n d)) nothing (variable_stands F (scope.Local p) (answer_in p place n d) h) (nothing_stands F)

head_stands : (F : Place → Type 0) (file : ℕ) (place : Place) (n : ℕ) (d : Head) → F place → Stand F (a_procedure file place n d)
unfolding a_procedure
head_stands F file place n d h = λ k. record { vars = tt; consts = tt; procs = (h, tt); types = tt; enums = tt }

inside_stands : (F : Place → Type 0) (p : ProcId) (place : Place) (n : ℕ) (d : Head) (body : List Line) → F place → LinesStand F body → Stand F (inside_declares p place n d body)
inside_stands F p place n d body h b =
    follow_stands F (params_declare p (given_place d) place n 0 d.signature.params) (follow (answer_declares p place n d) (locals_declare p (n + 1) body))
    (params_stand F p (given_place d) place n 0 d.signature.params h)
    (follow_stands F (answer_declares p place n d) (locals_declare p (n + 1) body) (answer_stands F p place n d h) (locals_stand F p (n + 1) body b))

procedure_stands : (F : Place → Type 0) (file : ℕ) (place : Place) (n : ℕ) (d : Head) (body : List Line) → F place → LinesStand F body → Stand F (procedure_declares file place n d body)
unfolding procedure_declares
procedure_stands F file place n d body h b = λ k.
    let p : ProcId = record { 0 = k.procs } in
    follow_stands F (a_procedure file place n d) (inside_declares p place n d body) (head_stands F file place n d h) (inside_stands F p place n d body h b) k

-- ---- Types and Enums

field_stands : (F : Place → Type 0) (of : Owner) (n : ℕ) (place : Place) (f : Form) → F place → Stand F (field_declares of n place f)
field_stands F of n place (field name suffix bounds ty) h = named_field_stands F (field_in of place n name suffix bounds ty) h
field_stands F of n place _ h = nothing_stands F

fields_stand : (F : Place → Type 0) (of : Owner) (n : ℕ) (ls : List Line) → LinesStand F ls → Stand F (fields_declare of n ls)
fields_stand F of n [] h = nothing_stands F
fields_stand F of n (l ∷ ls) h =
    follow_stands F (field_declares of n l.place l.form) (fields_declare of (n + 1) ls) (field_stands F of n l.place l.form h.0) (fields_stand F of (n + 1) ls h.1)

enum_line_stands : (F : Place → Type 0) (s : Scope) (file : ℕ) (before : Option ConstId) (n : ℕ) (place : Place) (f : Form) → F place → Stand F (enum_line_declares s file before n place f)
enum_line_stands F s file before n place (enum_member name suffix value) h = constant_stands F s (member_in file before place n name suffix value) h
enum_line_stands F s file before n place _ h = nothing_stands F

enum_lines_stand : (F : Place → Type 0) (s : Scope) (file : ℕ) (before : Option ConstId) (n : ℕ) (ls : List Line) → LinesStand F ls → Stand F (members_declare s file before n ls)
unfolding members_declare
enum_lines_stand F s file before n [] h = λ k. none_stands F
enum_lines_stand F s file before n (l ∷ ls) h = λ k.
    let last : Option ConstId = Some (record { 0 = k.consts }) in
    follow_stands F (enum_line_declares s file before n l.place l.form) (members_declare s file last (n + 1) ls)
    (enum_line_stands F s file before n l.place l.form h.0) (enum_lines_stand F s file last (n + 1) ls h.1) k

type_head_stands : (F : Place → Type 0) (file : ℕ) (place : Place) (v : Option Visibility) (name : List ℕ) (ls : List Line) → F place → Stand F (a_type file place v name ls)
unfolding a_type
type_head_stands F file place v name ls h = λ k. record { vars = tt; consts = tt; procs = tt; types = (h, tt); enums = tt }

enum_head_stands : (F : Place → Type 0) (file : ℕ) (place : Place) (v : Option Visibility) (name : List ℕ) (ls : List Line) → F place → Stand F (an_enum file place v name ls)
unfolding an_enum
enum_head_stands F file place v name ls h = λ k. record { vars = tt; consts = tt; procs = tt; types = tt; enums = (h, tt) }

type_stands : (F : Place → Type 0) (file : ℕ) (place : Place) (n : ℕ) (v : Option Visibility) (name : List ℕ) (ls : List Line) → F place → LinesStand F ls → Stand F (type_declares file place n v name ls)
unfolding type_declares
type_stands F file place n v name ls h b = λ k.
    let of : Owner = owner.Field (record { 0 = k.types }) in
    follow_stands F (a_type file place v name ls) (fields_declare of (n + 1) ls) (type_head_stands F file place v name ls h) (fields_stand F of (n + 1) ls b) k

enum_stands : (F : Place → Type 0) (file : ℕ) (place : Place) (n : ℕ) (v : Option Visibility) (name : List ℕ) (ls : List Line) → F place → LinesStand F ls → Stand F (enum_declares file place n v name ls)
enum_stands F file place n v name ls h b =
    follow_stands F (an_enum file place v name ls) (members_declare (open_scope file v) file None (n + 1) ls)
    (enum_head_stands F file place v name ls h) (enum_lines_stand F (open_scope file v) file None (n + 1) ls b)

group_stands : (F : Place → Type 0) (file : ℕ) (place : Place) (n : ℕ) (f : Form) (ls : List Line) → F place → LinesStand F ls → Stand F (group_declares file place n f ls)
group_stands F file place n (type_head v name suffix) ls h b = type_stands F file place n v name ls h b
group_stands F file place n (enum_head v name suffix) ls h b = enum_stands F file place n v name ls h b
group_stands F file place n _ ls h b = nothing_stands F

-- ---- modules

headed_stands : (F : Place → Type 0) (file : ℕ) (place : Place) (n : ℕ) (o : Option Head) (body : List Line) → F place → LinesStand F body → Stand F (head_declares file place n o body)
headed_stands F file place n None body h b = nothing_stands F
headed_stands F file place n (Some d) body h b = procedure_stands F file place n d body h b

member_stands : (F : Place → Type 0) (file n : ℕ) (m : Member) → LinesStand F (member_lines m) → Stand F (member_declares file n m)
member_stands F file n (alone l) h = line_stands F file n l.place l.form h.0
member_stands F file n (group head lines close) h = group_stands F file head.place n head.form lines h.0 (each_left (λ (l : Line). F l.place) lines (close ∷ []) h.1)
member_stands F file n (proc head body close) h =
    headed_stands F file head.place n (head_of head.form) (flat_lines body) h.0 (each_left (λ (l : Line). F l.place) (flat_lines body) (close ∷ []) h.1)

module_stands : (F : Place → Type 0) (file n : ℕ) (ms : List Member) → LinesStand F (flat_map member_lines ms) → Stand F (module_declares file n ms)
module_stands F file n [] h = nothing_stands F
module_stands F file n (m ∷ ms) h =
    let later = n + length (member_lines m) in
    follow_stands F (member_declares file n m) (module_declares file later ms)
    (member_stands F file n m (each_left (λ (l : Line). F l.place) (member_lines m) (flat_map member_lines ms) h))
    (module_stands F file later ms (each_right (λ (l : Line). F l.place) (member_lines m) (flat_map member_lines ms) h))

project_stands : (F : Place → Type 0) (ms : List Module) → ModulesStand F ms → Stand F (project_declares ms)
project_stands F [] h = nothing_stands F
project_stands F (m ∷ ms) h =
    follow_stands F (module_declares m.file 0 m.members) (project_declares ms) (module_stands F m.file 0 m.members h.0) (project_stands F ms h.1)

pub lists_stand : (F : Place → Type 0) (P : Project) → ModulesStand F P.modules → ListsStand F (lists_of P)
unfolding with_declared
lists_stand F P h = along_stands F no_lists (project_declares P.modules (counts no_lists)) (none_stands F) (project_stands F P.modules h (counts no_lists))
