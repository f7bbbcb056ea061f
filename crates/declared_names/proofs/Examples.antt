-- What a project of two modules declares, worked out by hand.
use Rattle.std.proofs.Common.{◌≡◌, ℕ, Bool, true, false, List, [], ◌∷◌, map, Option, Some, None, refl, codes}
use Rattle.vb_tree.specs.declared.declared.Owner.{Owner}
use Rattle.vb_tree.specs.declared.declared.Owner.TheVariants as owner
use Rattle.vb_tree.specs.declared.declared.ProcId.{ProcId}
use Rattle.vb_tree.specs.declared.declared.TypeId.{TypeId}
use Rattle.vb_tree.specs.declared.declared.VarId.{VarId}
use Rattle.vb_tree.specs.declared.form_parts.Passing.{Passing}
use Rattle.vb_tree.specs.declared.form_parts.Passing.TheVariants as passing
use Rattle.vb_tree.specs.declared.form_parts.VarWord.TheVariants as word
use Rattle.vb_tree.specs.declared.form_parts.Visibility.TheVariants as visibility
use Rattle.vb_tree.specs.declared.project.ProjectKind.TheVariants.{Exe}
use Rattle.vb_tree.specs.declared.token.Suffix.TheVariants as suffix
use Rattle.vb_tree.specs.Tree.{Bounds, Declarator, Form, Line, Member, Nodes, Param, Project, Signature, TypeName, alone, constants, enum_head, enum_member, end_enum, end_function, end_property, end_type, field, function_head, get_head, group, let_head, line, me, named, next_node, no_nodes, proc, type_head, variables}
use Rattle.bound_tree.specs.declared.declared.ConstId.{ConstId}
use Rattle.bound_tree.specs.declared.declared.EnumDecl.{EnumDecl}
use Rattle.bound_tree.specs.declared.declared.Named.{Named}
use Rattle.bound_tree.specs.declared.declared.Named.TheVariants as what
use Rattle.bound_tree.specs.declared.declared.NamedEntry.{NamedEntry}
use Rattle.bound_tree.specs.declared.declared.Scope.{Scope}
use Rattle.bound_tree.specs.declared.declared.Scope.TheVariants as scope
use Rattle.bound_tree.specs.declared.declared.TypeDecl.{TypeDecl}
use Rattle.declared_names.specs.Declaring.{NamedConstant, NamedProcedure, NamedVariable, follow, lists_of, nothing, with_declared, a_variable, a_field, a_constant, a_procedure, a_type, an_enum, procedure_declares, type_declares, members_declare}
use Rattle.declared_names.specs.Parts.{first_parts}

abbrev pub at : Form → Line
at form = record { place = record { file = 1; line = 1 }; text = []; form = form }

abbrev long : Option TypeName
long = Some (named (codes "Long"))

abbrev one : Bounds
one = record { lower = None; upper = me }

abbrev pub plain : List ℕ → Option (List Bounds) → Declarator
plain name bounds = record { name = name; suffix = suffix.Absent; bounds = bounds; auto = false; ty = long }

abbrev pub param : Passing → List ℕ → (array : Bool) → Param
param how name array = record { optional = false; passing = how; param_array = false; name = name; suffix = suffix.Absent; array = array; ty = long; preset = None }

abbrev pub head : List ℕ → List Param → Signature
head name params = record { visibility = None; name = name; suffix = suffix.Absent; params = params }

abbrev pub body : List Form → Nodes
body [] = no_nodes
body (f ∷ fs) = next_node (line (at f)) (body fs)

-- Public Const Limit As Long = .. / Dim a As Long, b() As Long / Enum Color / Red / Green = .. / Blue / End Enum
-- Private Type Point / x As Long / y(..) As Long / End Type
-- Function Sum(ByVal n As Long, xs() As Long) As Long / Static t As Long / Const k = .. / End Function
-- Property Get P() As Long / End Property / Property Let P(v As Long) / End Property
abbrev members : List Member
members =
    alone (at (constants (Some visibility.Public) (record { name = codes "Limit"; suffix = suffix.Absent; ty = long; value = me } ∷ [])))
    ∷ alone (at (variables word.Dim (plain (codes "a") None ∷ plain (codes "b") (Some []) ∷ [])))
    ∷ group (at (enum_head None (codes "Color") suffix.Absent))
    (at (enum_member (codes "Red") suffix.Absent None) ∷ at (enum_member (codes "Green") suffix.Absent (Some me)) ∷ at (enum_member (codes "Blue") suffix.Absent None) ∷ [])
    (at end_enum)
    ∷ group (at (type_head (Some visibility.Private) (codes "Point") suffix.Absent))
    (at (field (codes "x") suffix.Absent None (named (codes "Long"))) ∷ at (field (codes "y") suffix.Absent (Some (one ∷ [])) (named (codes "Long"))) ∷ [])
    (at end_type)
    ∷ proc (at (function_head (head (codes "Sum") (param passing.Value (codes "n") false ∷ param passing.Value (codes "xs") true ∷ [])) (Some (record { ty = named (codes "Long"); array = false }))))
    (body (variables word.Static (plain (codes "t") None ∷ []) ∷ constants None (record { name = codes "k"; suffix = suffix.Absent; ty = None; value = me } ∷ []) ∷ []))
    (at end_function)
    ∷ proc (at (get_head (head (codes "P") []) (Some (record { ty = named (codes "Long"); array = false })))) no_nodes (at end_property)
    ∷ proc (at (let_head (head (codes "P") (param passing.Unsaid (codes "v") false ∷ [])))) no_nodes (at end_property)
    ∷ []

-- the module, and a class with one variable
abbrev example : Project
example = record {
  file = record { kind = Exe; startup = None; entries = []; dropped = [] };
  modules =
      record { file = 1; name = codes "Main1"; class = false; members = members; comments = [] }
      ∷ record { file = 2; name = codes "Thing"; class = true; members = alone (at (variables word.Public (plain (codes "N") None ∷ []))) ∷ []; comments = [] }
      ∷ [];
}

abbrev p : ℕ → ProcId
p n = record { 0 = n }

abbrev v : ℕ → VarId
v n = record { 0 = n }

abbrev c : ℕ → ConstId
c n = record { 0 = n }

abbrev t : ℕ → TypeId
t n = record { 0 = n }

-- a variable by its name, the number of its statement and what it belongs to
abbrev variable_row : NamedVariable → List ℕ × ℕ × Owner
variable_row x = (x.name, x.statement, x.owner)

variables_numbered : map variable_row (lists_of example).vars ≡
    (codes "a", 1, owner.Module 1)
    ∷ (codes "b", 1, owner.Module 1)
    ∷ (codes "x", 8, owner.Field (t 0))
    ∷ (codes "y", 9, owner.Field (t 0))
    ∷ (codes "n", 11, owner.Value (p 0))
    ∷ (codes "xs", 11, owner.Reference (p 0))
    ∷ (codes "Sum", 11, owner.Answer (p 0))
    ∷ (codes "t", 12, owner.Static (p 0))
    ∷ (codes "P", 15, owner.Answer (p 1))
    ∷ (codes "v", 17, owner.Value (p 2))
    ∷ (codes "N", 0, owner.Module 2)
    ∷ []
unfolding with_declared follow nothing a_variable a_field a_constant a_procedure a_type an_enum procedure_declares type_declares members_declare
variables_numbered = refl

abbrev constant_row : NamedConstant → List ℕ × ℕ × Owner × Option ConstId
constant_row x = (x.name, x.statement, x.owner, x.before)

constants_numbered : map constant_row (lists_of example).consts ≡
    (codes "Limit", 0, owner.Module 1, None)
    ∷ (codes "Red", 3, owner.Module 1, None)
    ∷ (codes "Green", 4, owner.Module 1, Some (c 1))
    ∷ (codes "Blue", 5, owner.Module 1, Some (c 2))
    ∷ (codes "k", 13, owner.Local (p 0), None)
    ∷ []
unfolding with_declared follow nothing a_variable a_field a_constant a_procedure a_type an_enum procedure_declares type_declares members_declare
constants_numbered = refl

abbrev procedure_row : NamedProcedure → List ℕ × ℕ × List VarId × Option VarId
procedure_row x = (x.name, x.statement, x.params, x.answer)

procedures_numbered : map procedure_row (lists_of example).procs ≡
    (codes "Sum", 11, v 4 ∷ v 5 ∷ [], Some (v 6))
    ∷ (codes "P", 15, [], Some (v 8))
    ∷ (codes "P", 17, v 9 ∷ [], None)
    ∷ []
unfolding with_declared follow nothing a_variable a_field a_constant a_procedure a_type an_enum procedure_declares type_declares members_declare
procedures_numbered = refl

parts_of_one_property : first_parts (lists_of example) ≡ p 0 ∷ p 1 ∷ p 1 ∷ []
unfolding with_declared follow nothing a_variable a_field a_constant a_procedure a_type an_enum procedure_declares type_declares members_declare
parts_of_one_property = refl

abbrev fields_row : TypeDecl → List ℕ × List VarId
fields_row x = (x.name, x.fields)

fields_numbered : map fields_row (lists_of example).types ≡ (codes "Point", v 2 ∷ v 3 ∷ []) ∷ []
unfolding with_declared follow nothing a_variable a_field a_constant a_procedure a_type an_enum procedure_declares type_declares members_declare
fields_numbered = refl

abbrev members_row : EnumDecl → List ℕ × List ConstId
members_row x = (x.name, x.members)

members_numbered : map members_row (lists_of example).enums ≡ (codes "Color", c 1 ∷ c 2 ∷ c 3 ∷ []) ∷ []
unfolding with_declared follow nothing a_variable a_field a_constant a_procedure a_type an_enum procedure_declares type_declares members_declare
members_numbered = refl

abbrev name_row : NamedEntry → List ℕ × Scope × Named
name_row x = (x.name, x.scope, x.named)

names_in_order : map name_row (lists_of example).names ≡
    (codes "Limit", scope.Public 1, what.Const (c 0))
    ∷ (codes "a", scope.Private 1, what.Var (v 0))
    ∷ (codes "b", scope.Private 1, what.Var (v 1))
    ∷ (codes "Color", scope.Public 1, what.Enum (record { 0 = 0 }))
    ∷ (codes "Red", scope.Public 1, what.Const (c 1))
    ∷ (codes "Green", scope.Public 1, what.Const (c 2))
    ∷ (codes "Blue", scope.Public 1, what.Const (c 3))
    ∷ (codes "Point", scope.Private 1, what.Type (t 0))
    ∷ (codes "Sum", scope.Public 1, what.Proc (p 0))
    ∷ (codes "n", scope.Local (p 0), what.Var (v 4))
    ∷ (codes "xs", scope.Local (p 0), what.Var (v 5))
    ∷ (codes "Sum", scope.Local (p 0), what.Var (v 6))
    ∷ (codes "t", scope.Local (p 0), what.Var (v 7))
    ∷ (codes "k", scope.Local (p 0), what.Const (c 4))
    ∷ (codes "P", scope.Public 1, what.Proc (p 1))
    ∷ (codes "P", scope.Local (p 1), what.Var (v 8))
    ∷ (codes "P", scope.Public 1, what.Proc (p 2))
    ∷ (codes "v", scope.Local (p 2), what.Var (v 9))
    ∷ (codes "N", scope.Public 2, what.Var (v 10))
    ∷ []
unfolding with_declared follow nothing a_variable a_field a_constant a_procedure a_type an_enum procedure_declares type_declares members_declare
names_in_order = refl
