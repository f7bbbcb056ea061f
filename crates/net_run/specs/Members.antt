-- The members of modules and the procedures of a project, with what their heads declare.
use Rattle.std.specs.Prelude.{ℕ, suc, nat_eq, Bool, true, false, ◌&&◌, List, [], ◌∷◌, ◌++◌, position, Option, Some, None, slice_get}
use Rattle.up_base.specs.Names.{is_same_name}
use Rattle.net_tree.specs.declared.declaration.NetPassing.TheVariants as passing
use Rattle.net_tree.specs.Tree.{Head, sub, function, sub_new, get_part, set_part, Param, Procedure, Property, Member, member_comment, variable, const_member, structure, property, proc, Module, Project}
use Rattle.net_tree.specs.Types.{TypeName}
use Rattle.net_run.specs.Shapes.{first_from}

-- ---- members by their names, which are compared without case

abbrev pub is_head_named : List ℕ → Head → Bool
is_head_named name (sub visibility other params) = is_same_name other name
is_head_named name (function visibility other params ty) = is_same_name other name
is_head_named name sub_new = false
is_head_named name get_part = false
is_head_named name (set_part other ty) = false

-- a structure names a type alone, and the Sub New of a class has no name
abbrev pub is_member_named : List ℕ → Member → Bool
is_member_named name (member_comment units) = false
is_member_named name (variable visibility v) = is_same_name v.name name
is_member_named name (const_member visibility c) = is_same_name c.name name
is_member_named name (structure s) = false
is_member_named name (property p) = is_same_name p.name name
is_member_named name (proc p) = is_head_named name p.head

-- the first member of a name, with its number
abbrev pub member_named : List ℕ → List Member → Option (ℕ × Member)
member_named name members = first_from (is_member_named name) 0 members

-- ---- procedures

-- A procedure of a project: the number of its module and of the member there that it is or is a part of; whether it is the Set of a
-- property, which stands beside a Get; the property of which it is a part; and itself.
pub record Code : Type 0 where
  pub home : ℕ
  pub member : ℕ
  pub sets : Bool
  pub property : Option Property
  pub procedure : Procedure

abbrev pub part_code : (home member : ℕ) → (sets : Bool) → Property → Option Procedure → List Code
part_code home k sets p None = []
part_code home k sets p (Some q) = record { home = home; member = k; sets = sets; property = Some p; procedure = q } ∷ []

abbrev pub codes_of_member : (home number : ℕ) → Member → List Code
codes_of_member home k (member_comment units) = []
codes_of_member home k (variable visibility v) = []
codes_of_member home k (const_member visibility c) = []
codes_of_member home k (structure s) = []
codes_of_member home k (property p) = part_code home k false p p.get ++ part_code home k true p p.set
codes_of_member home k (proc p) = record { home = home; member = k; sets = false; property = None; procedure = p } ∷ []

abbrev pub codes_of_members : (home number : ℕ) → List Member → List Code
codes_of_members home k [] = []
codes_of_members home k (m ∷ members) = codes_of_member home k m ++ codes_of_members home (suc k) members

abbrev pub codes_of_modules : (home : ℕ) → List Module → List Code
codes_of_modules home [] = []
codes_of_modules home (m ∷ modules) = codes_of_members home 0 m.members ++ codes_of_modules (suc home) modules

-- the procedures in project order, numbered from 0, as `procedures_of` has them
abbrev pub codes_of : Project → List Code
codes_of N = codes_of_modules 0 N.modules

abbrev pub code_at : Project → (procedure : ℕ) → Option Code
code_at N p = slice_get (codes_of N) p

abbrev pub is_same_flag : Bool → Bool → Bool
is_same_flag true b = b
is_same_flag false true = false
is_same_flag false false = true

abbrev pub is_code_of : (home member : ℕ) → (sets : Bool) → Code → Bool
is_code_of home k sets c = nat_eq c.home home && (nat_eq c.member k && is_same_flag c.sets sets)

-- the number of the procedure that a member is, or of the Get or the Set of a property
abbrev pub code_number : Project → (home member : ℕ) → (sets : Bool) → Option ℕ
code_number N home k sets = position (is_code_of home k sets) (codes_of N)

-- ---- heads

abbrev pub property_params : Option Property → List Param
property_params None = []
property_params (Some p) = p.params

-- the last parameter of a Set takes the value
abbrev pub value_param : List ℕ → TypeName → List Param
value_param name ty = record { passing = passing.Value; name = name; ty = ty } ∷ []

abbrev pub params_by : Option Property → Head → List Param
params_by of (sub visibility name params) = params
params_by of (function visibility name params ty) = params
params_by of sub_new = []
params_by of get_part = property_params of
params_by of (set_part name ty) = property_params of ++ value_param name ty

abbrev pub params_of : Code → List Param
params_of c = params_by c.property c.procedure.head

abbrev pub property_result : Option Property → Option (List ℕ × TypeName)
property_result None = None
property_result (Some p) = Some (p.name, p.ty)

abbrev pub result_by : Option Property → Head → Option (List ℕ × TypeName)
result_by of (sub visibility name params) = None
result_by of (function visibility name params ty) = Some (name, ty)
result_by of sub_new = None
result_by of get_part = property_result of
result_by of (set_part name ty) = None

-- the name and the type of the result variable, which a Function has, and the Get of a property
abbrev pub result_of : Code → Option (List ℕ × TypeName)
result_of c = result_by c.property c.procedure.head

-- the Sub New of a class
abbrev pub is_new_head : Head → Bool
is_new_head (sub visibility name params) = false
is_new_head (function visibility name params ty) = false
is_new_head sub_new = true
is_new_head get_part = false
is_new_head (set_part name ty) = false

abbrev pub is_new : Member → Bool
is_new (member_comment units) = false
is_new (variable visibility v) = false
is_new (const_member visibility c) = false
is_new (structure s) = false
is_new (property p) = false
is_new (proc p) = is_new_head p.head
