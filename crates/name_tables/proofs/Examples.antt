-- Worked examples: a project with the standard modules Main and Tools and the class Car.
use Rattle.std.proofs.Common.{◌≡◌, ℕ, true, false, List, [], ◌∷◌, refl, Option, Some, None}
use Rattle.std.specs.Prelude.{codes}
use Rattle.up_base.specs.declared.place.Place.{Place}
use Rattle.vb_tree.specs.declared.declared.Owner.TheVariants as owner
use Rattle.vb_tree.specs.declared.declared.ProcKind.{ProcKind}
use Rattle.vb_tree.specs.declared.declared.ProcKind.TheVariants as proc
use Rattle.vb_tree.specs.declared.declared.VarId.{VarId}
use Rattle.vb_tree.specs.declared.form_parts.VarWord.TheVariants as var
use Rattle.vb_tree.specs.declared.form_parts.Visibility.TheVariants as seen
use Rattle.vb_tree.specs.declared.project.ProjectKind.TheVariants.{Exe}
use Rattle.vb_tree.specs.declared.token.Suffix.TheVariants.{Absent}
use Rattle.vb_tree.specs.declared.token.Token.{Token}
use Rattle.vb_tree.specs.declared.token.TokenKind.TheVariants as token
use Rattle.vb_tree.specs.BoundTree.{long, nothing}
use Rattle.vb_tree.specs.Tree.{Declarator, Form, Member, Module, alone, event_variables, opaque}
use Rattle.bound_tree.specs.declared.declared.Named.{Named}
use Rattle.bound_tree.specs.declared.declared.Named.TheVariants as named
use Rattle.bound_tree.specs.declared.declared.NamedEntry.{NamedEntry}
use Rattle.bound_tree.specs.declared.declared.Scope.{Scope}
use Rattle.bound_tree.specs.declared.declared.Scope.TheVariants as scope
use Rattle.bound_tree.specs.Tree.{Constant, Declarations, Procedure}
use Rattle.name_tables.specs.declared.uses.Site.{Site}
use Rattle.name_tables.specs.declared.uses.Spelling.TheVariants.{Plain, Suffixed, Bracketed}
use Rattle.name_tables.specs.declared.uses.Use6.TheVariants as use6
use Rattle.name_tables.specs.declared.uses.Wanted.TheVariants.{Value, Indexed, Callee, Qualifier}
use Rattle.typing_rows.specs.LibraryNames.{names_a_to_c, names_d_to_i, names_j_to_p, names_q_to_y}
use Rattle.name_tables.specs.Scopes.{found, found_member, found_in_module, found_in_enum, found_type}

abbrev nowhere : Place
nowhere = record { file = 1; line = 1 }

abbrev v : ℕ → Named
v n = named.Var (record { 0 = n })

abbrev c : ℕ → Named
c n = named.Const (record { 0 = n })

abbrev p : ℕ → Named
p n = named.Proc (record { 0 = n })

abbrev entry : List ℕ → Scope → Named → NamedEntry
entry n s d = record { name = n; scope = s; named = d }

abbrev word : List ℕ → Token
word n = record { kind = token.Word n Absent; line = 1; from = 0; to = 1 }

abbrev standing : Form → Member
standing f = alone (record { place = nowhere; text = []; form = f })

abbrev of_class : List ℕ → Declarator
of_class n = record { name = n; suffix = Absent; bounds = None; auto = false; ty = None }

-- Main: Private Declare Sub Sleep .., and Dim WithEvents Car ..; Tools: Public WithEvents Wheel .., as another module sees it
abbrev all_modules : List Module
all_modules =
    record {
      file = 1;
      name = codes "Main";
      class = false;
      comments = [];
      members =
          standing (opaque (word (codes "Private") ∷ word (codes "Declare") ∷ word (codes "Sub") ∷ word (codes "Sleep") ∷ [])) ∷ [];
    }
    ∷ record { file = 2; name = codes "Tools"; class = false; comments = []; members = standing (event_variables var.Public (of_class (codes "Wheel") ∷ [])) ∷ [] }
    ∷ record { file = 3; name = codes "Car"; class = true; comments = []; members = [] }
    ∷ record { file = 4; name = codes "Parts"; class = false; comments = []; members = [] } ∷ []

abbrev procedure : List ℕ → ℕ → ProcKind → Option VarId → Procedure
procedure n m k r = record {
  name = n;
  place = nowhere;
  module_number = m;
  kind = k;
  visibility = seen.Public;
  params = [];
  result = nothing;
  answer = r;
  first = record { 0 = 0 };
}

abbrev constant : List ℕ → Constant
constant n = record { name = n; place = nowhere; statement = 0; owner = owner.Module 2; ty = long; value = None }

abbrev all_names : List NamedEntry
all_names =
    entry (codes "Total") (scope.Private 1) (v 0)
    ∷ entry (codes "Half") (scope.Public 1) (p 0)
    ∷ entry (codes "Half") (scope.Local (record { 0 = 0 })) (v 5)
    ∷ entry (codes "TOTAL") (scope.Local (record { 0 = 0 })) (v 1)
    ∷ entry (codes "Hidden") (scope.Private 2) (v 2)
    ∷ entry (codes "Shared") (scope.Public 2) (v 3)
    ∷ entry (codes "Color") (scope.Public 2) (named.Enum (record { 0 = 0 }))
    ∷ entry (codes "Red") (scope.Public 2) (c 0)
    ∷ entry (codes "Green") (scope.Public 2) (c 1)
    ∷ entry (codes "Speed") (scope.Private 3) (v 4)
    ∷ entry (codes "Start") (scope.Public 3) (p 1)
    ∷ entry (codes "Shared") (scope.Public 4) (p 2)
    ∷ entry (codes "Point") (scope.Public 4) (named.Type (record { 0 = 0 })) ∷ []

-- Half is a Function with the result variable 5; Start and the Shared of Parts are Subs
abbrev D : Declarations
D = record {
  project = record { file = record { kind = Exe; startup = None; entries = []; dropped = [] }; modules = all_modules };
  names = all_names;
  vars = [];
  consts = constant (codes "Red") ∷ constant (codes "Green") ∷ [];
  procs = procedure (codes "Half") 1 proc.Function (Some (record { 0 = 5 })) ∷ procedure (codes "Start") 3 proc.Sub None
      ∷ procedure (codes "Shared") 4 proc.Function None ∷ [];
  types = [];
  enums = record { name = codes "Color"; place = nowhere; «module» = 2; members = record { 0 = 0 } ∷ record { 0 = 1 } ∷ [] } ∷ [];
  defaults = [];
}

abbrev half : Site
half = record { file = 1; procedure = Some (record { 0 = 0 }) }

abbrev at : ℕ → Site
at m = record { file = m; procedure = None }

-- a local hides what its module declares, and case says nothing
local_first : found D half Value Plain (codes "total") ≡ use6.Local (v 1)
local_first = refl

module_next : found D (at 1) Value Plain (codes "total") ≡ use6.Own (v 0)
module_next = refl

-- in a Function its name is the result, and with arguments a call
result : found D half Value Plain (codes "half") ≡ use6.Local (v 5)
result = refl

call : found D half Indexed Plain (codes "half") ≡ use6.Own (p 0)
call = refl

-- a private member of another module isn't seen, in no way
hidden : found D half Value Plain (codes "hidden") ≡ use6.Undeclared
unfolding names_a_to_c names_d_to_i names_j_to_p names_q_to_y
hidden = refl

hidden_in : found_in_module D half Value 2 (codes "hidden") ≡ use6.Undeclared
hidden_in = refl

own_hidden : found D (at 2) Value Plain (codes "hidden") ≡ use6.Own (v 2)
own_hidden = refl

-- two public names that fit; where one alone fits, it is meant
two : found D half Value Plain (codes "shared") ≡ use6.Ambiguous
two = refl

one : found D half Callee Plain (codes "shared") ≡ use6.Foreign 4 (p 2)
one = refl

by_module : found_in_module D half Value 2 (codes "shared") ≡ use6.Foreign 2 (v 3)
by_module = refl

-- members of an Enum, the Enum and a module before a full stop, and a bare Enum
red : found D half Value Plain (codes "red") ≡ use6.Foreign 2 (c 0)
red = refl

green : found_in_enum D (record { name = codes "Color"; place = nowhere; «module» = 2; members = record { 0 = 0 } ∷ record { 0 = 1 } ∷ [] }) (codes "green") ≡ Some (record { 0 = 1 })
green = refl

enum : found D half Qualifier Plain (codes "color") ≡ use6.Foreign 2 (named.Enum (record { 0 = 0 }))
enum = refl

bare_enum : found D half Value Plain (codes "color") ≡ use6.Unusable
bare_enum = refl

tools : found D half Qualifier Plain (codes "tools") ≡ use6.Module 2
tools = refl

bare_tools : found D half Value Plain (codes "tools") ≡ use6.Undeclared
unfolding names_a_to_c names_d_to_i names_j_to_p names_q_to_y
bare_tools = refl

-- names of lines that declare nothing
sleep : found D half Callee Plain (codes "sleep") ≡ use6.Unusable
sleep = refl

sleep_elsewhere : found D (at 2) Callee Plain (codes "sleep") ≡ use6.Undeclared
unfolding names_a_to_c names_d_to_i names_j_to_p names_q_to_y
sleep_elsewhere = refl

wheel : found D half Value Plain (codes "wheel") ≡ use6.Unusable
wheel = refl

-- names of the libraries
vb_name : found D half Value Plain (codes "vbred") ≡ use6.Library
vb_name = refl

err : found D half Qualifier Plain (codes "err") ≡ use6.Library
unfolding names_a_to_c names_d_to_i names_j_to_p names_q_to_y
err = refl

now : found D half Value Suffixed (codes "now") ≡ use6.Library
unfolding names_a_to_c names_d_to_i names_j_to_p names_q_to_y
now = refl

err_suffixed : found D half Value Suffixed (codes "err") ≡ use6.Undeclared
unfolding names_a_to_c names_d_to_i names_j_to_p names_q_to_y
err_suffixed = refl

bracketed : found D half Value Bracketed (codes "now") ≡ use6.Undeclared
bracketed = refl

-- behind an object
speed : found_member D (at 3) (record { 0 = 0 }) (codes "speed") ≡ Some (v 4)
speed = refl

speed_elsewhere : found_member D half (record { 0 = 0 }) (codes "speed") ≡ None
speed_elsewhere = refl

start : found_member D half (record { 0 = 0 }) (codes "start") ≡ Some (p 1)
start = refl

-- types
car : found_type D half (codes "car") ≡ use6.Class (record { 0 = 0 })
car = refl

point : found_type D half (codes "point") ≡ use6.Foreign 4 (named.Type (record { 0 = 0 }))
point = refl

parts_point : found_type D half (codes "parts.point") ≡ use6.Foreign 4 (named.Type (record { 0 = 0 }))
parts_point = refl

wrong_point : found_type D half (codes "tools.point") ≡ use6.Undeclared
wrong_point = refl
