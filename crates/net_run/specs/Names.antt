-- What the names of a path stand for in a procedure, and what a member of a value is.
use Rattle.std.specs.Prelude.{ℕ, Bool, true, false, cond, ◌&&◌, List, [], ◌∷◌, codes, Option, Some, None}
use Rattle.up_base.specs.Names.{is_same_name}
use Rattle.vb6_meaning.specs.Answers.{Answer}
use Rattle.vb6_meaning.specs.Answers as value
use Rattle.net_tree.specs.Tree.{Constant, Member, member_comment, variable, const_member, structure, property, proc, Module, Project}
use Rattle.net_meaning.specs.declared.value.ValueN.{ValueN}
use Rattle.run_base.specs.Frames.{Given}
use Rattle.run_base.specs.Positions.{Key, shared, field, whole}
use Rattle.net_run.specs.Values.{Value, single}
use Rattle.net_run.specs.Shapes.{Shape, scalar, class, structured, array, shapeless, module_named, module_at, members_of, shape_of}
use Rattle.net_run.specs.Store.{Memory, Address, root, constant, nowhere, shape_at, looked_up, structure_field}
use Rattle.net_run.specs.Members.{member_named, code_number}
use Rattle.net_run.specs.Constants.{constant_of}

-- Where an expression stands: in a procedure of the module `home`, whose result variable has this name, if any; the variables of its frame
-- by their names; its object; and what the With round it keeps.
pub record Scope : Type 0 where
  pub project : Project
  pub home : ℕ
  pub result_name : Option (List ℕ)
  pub vars : List (List ℕ × Address)
  pub me : Option ℕ
  pub around : Address

-- What can be called: a procedure, or a property by its parts, with the object that stands before it, if any; a function of the support
-- module or of the run-time library; or the Clone of an array.
pub data Callee : Type 0 where
  to_procedure : (object : Option Value) → (number : ℕ) → Callee
  to_property : (object : Option Value) → (get set : Option ℕ) → Callee
  to_support : (name : List ℕ) → Callee
  to_library : (path : List (List ℕ)) → Callee
  to_clone : Shape → (array : Value) → Callee

-- What is known of an expression before its last check: an address; an array and indexes; an object and the key of its variable.
pub data Parts : Type 0 where
  at_address : Address → Parts
  at_element : (element : Shape) → (array : Value) → (indexes : List Value) → Parts
  at_field : Shape → (object : Value) → Key → Parts

-- What an expression leads to: parts; or what is to be called, by its name alone or with arguments.
pub data Reached : Type 0 where
  found_at : Parts → Reached
  named : Callee → Reached
  called : Callee → List (Given Value Address) → Reached

abbrev pub at_place : Address → Reached
at_place a = found_at (at_address a)

abbrev pub not_found : Reached
not_found = at_place nowhere

-- ---- the members of a module

-- the key of the variable that a member is
abbrev pub key_of : (home member : ℕ) → Key
key_of home k = home ∷ k ∷ []

-- a variable of a class stands in an object: in that of the frame where it stands by itself
abbrev pub own_field : Shape → Key → Option ℕ → Reached
own_field shape key None = not_found
own_field shape key (Some o) = at_place (root shape (whole (field o key)))

abbrev pub is_class_at : Option Module → Bool
is_class_at None = false
is_class_at (Some m) = m.class

abbrev pub is_class : Project → (home : ℕ) → Bool
is_class N home = is_class_at (module_at N home)

abbrev pub variable_reached : Scope → (object : Option Value) → Shape → (home member : ℕ) → Reached
variable_reached S (Some v) shape home k = found_at (at_field shape v (key_of home k))
variable_reached S None shape home k =
    cond (is_class S.project home) (own_field shape (key_of home k) S.me) (at_place (root shape (whole (shared (key_of home k)))))

abbrev pub constant_address : Shape → Answer ValueN → Address
constant_address shape (value.gives x) = constant shape (single x)
constant_address shape (value.raises number) = nowhere
constant_address shape value.outside = nowhere

abbrev pub declared_constant : Project → (home : ℕ) → Constant → Address
declared_constant N home c = constant_address (shape_of N home c.ty) (constant_of c.value)

abbrev pub procedure_reached : (object : Option Value) → Option ℕ → Reached
procedure_reached object None = not_found
procedure_reached object (Some p) = named (to_procedure object p)

-- what a member of a module stands for, by itself or behind an object
abbrev pub member_reached : Scope → (object : Option Value) → (home number : ℕ) → Member → Reached
member_reached S object home k (member_comment units) = not_found
member_reached S object home k (variable visibility v) = variable_reached S object (shape_of S.project home v.ty) home k
member_reached S object home k (const_member visibility c) = at_place (declared_constant S.project home c)
member_reached S object home k (structure s) = not_found
member_reached S object home k (property p) = named (to_property object (code_number S.project home k false) (code_number S.project home k true))
member_reached S object home k (proc p) = procedure_reached object (code_number S.project home k false)

abbrev pub some_member : Scope → (object : Option Value) → (home : ℕ) → Option (ℕ × Member) → Reached
some_member S object home None = not_found
some_member S object home (Some found) = member_reached S object home found.0 found.1

-- the member of a name
abbrev pub named_member : Scope → (object : Option Value) → (home : ℕ) → List ℕ → Reached
named_member S object home name = some_member S object home (member_named name (members_of (module_at S.project home)))

-- ---- members of values

abbrev pub clone_name : List ℕ
clone_name = codes "Clone"

-- a field of a structure, a member of a class, or the Clone of an array; no other value has members
abbrev pub member_by : Scope → Address → Shape → List ℕ → Memory → Reached
member_by S a (scalar ty) name w = not_found
member_by S a (class c) name w = named_member S (Some (looked_up a w)) c name
member_by S a (structured home m fs) name w = at_place (structure_field a fs name)
member_by S a (array element rank) name w = cond (is_same_name name clone_name) (named (to_clone (array element rank) (looked_up a w))) not_found
member_by S a shapeless name w = not_found

-- an object is read as it is reached
abbrev pub member_at : Scope → Address → List ℕ → Memory → Reached
member_at S a name w = member_by S a (shape_at a) name w

-- ---- the first name of a path

-- what a path stands for as far as its first names tell, and the names that are left
pub data Start : Type 0 where
  starts : Reached → (left : List (List ℕ)) → Start

-- the first variable of a name in a frame
abbrev pub var_in : List (List ℕ × Address) → List ℕ → Option Address
var_in [] name = None
var_in (x ∷ vars) name = cond (is_same_name x.0 name) (Some x.1) (var_in vars name)

abbrev pub is_result : Option (List ℕ) → List ℕ → Bool
is_result None name = false
is_result (Some result) name = is_same_name result name

abbrev pub is_last : List (List ℕ) → Bool
is_last [] = true
is_last (name ∷ names) = false

-- In a Function its name alone is its result, and before arguments the Function itself; so it is in a Get.
abbrev pub frame_var : Scope → (calls : Bool) → List ℕ → List (List ℕ) → Option Address
frame_var S calls name names = cond (calls && (is_last names && is_result S.result_name name)) None (var_in S.vars name)

abbrev pub support_name : List ℕ
support_name = codes "UpgradeSupport"

abbrev pub is_support : List ℕ → Bool
is_support name = is_same_name name support_name

-- behind the name of the support module stands one of its functions; any other path that begins with no name of the project is one of the
-- library
abbrev pub outer_start : List ℕ → List (List ℕ) → Start
outer_start name [] = starts not_found []
outer_start name (member ∷ []) = starts (named (cond (is_support name) (to_support member) (to_library (name ∷ member ∷ [])))) []
outer_start name (member ∷ more ∷ names) = starts (named (to_library (name ∷ member ∷ more ∷ names))) []

-- behind the name of a standard module stands one of its members
abbrev pub module_member : Scope → (home : ℕ) → (class : Bool) → List (List ℕ) → Start
module_member S home true names = starts not_found []
module_member S home false [] = starts not_found []
module_member S home false (name ∷ names) = starts (named_member S None home name) names

abbrev pub module_start : Scope → List ℕ → List (List ℕ) → Option (ℕ × Module) → Start
module_start S name names None = outer_start name names
module_start S name names (Some found) = module_member S found.0 found.1.class names

abbrev pub member_start : Scope → List ℕ → List (List ℕ) → Option (ℕ × Member) → Start
member_start S name names None = module_start S name names (module_named S.project name)
member_start S name names (Some found) = starts (member_reached S None S.home found.0 found.1) names

abbrev pub frame_start : Scope → List ℕ → List (List ℕ) → Option Address → Start
frame_start S name names None = member_start S name names (member_named name (members_of (module_at S.project S.home)))
frame_start S name names (Some a) = starts (at_place a) names

-- the first name is a variable of the frame, then a member of the module, then a module, then the support module or the library
abbrev pub path_start : Scope → (calls : Bool) → List (List ℕ) → Start
path_start S calls [] = starts not_found []
path_start S calls (name ∷ names) = frame_start S name names (frame_var S calls name names)
