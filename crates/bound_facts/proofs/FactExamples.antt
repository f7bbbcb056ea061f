-- The facts of five procedures, worked out by hand.
use Rattle.std.proofs.Common.{◌≡◌, ℕ, Bool, true, false, List, [], ◌∷◌, Option, Some, None, refl, arith, pos, codes}
use Rattle.up_base.specs.declared.place.Place.{Place}
use Rattle.reach_table.specs.Chains.{empty, longer}
use Rattle.vb_tree.specs.BoundTree.{Ty, long, class, nothing, unknown, array}
use Rattle.vb_tree.specs.declared.declared.ClassId.{ClassId}
use Rattle.vb_tree.specs.declared.declared.Owner.{Owner}
use Rattle.vb_tree.specs.declared.declared.Owner.TheVariants as owner
use Rattle.vb_tree.specs.declared.declared.ProcId.{ProcId}
use Rattle.vb_tree.specs.declared.declared.ProcKind.{ProcKind}
use Rattle.vb_tree.specs.declared.declared.ProcKind.TheVariants as kind
use Rattle.vb_tree.specs.declared.declared.VarId.{VarId}
use Rattle.vb_tree.specs.declared.form_parts.Visibility.TheVariants as visibility
use Rattle.vb_tree.specs.declared.project.ProjectFile.{ProjectFile}
use Rattle.vb_tree.specs.declared.project.ProjectKind.TheVariants.{Exe}
use Rattle.vb_tree.specs.declared.value.Value6.TheVariants as v
use Rattle.vb_tree.specs.Tree.{Form, Module, Project, me, no_args}
use Rattle.vb_tree.specs.Tree as vb
use Rattle.bound_tree.specs.declared.expression.Origin.TheVariants.{Literal}
use Rattle.bound_tree.specs.RuleSets.{none}
use Rattle.bound_tree.specs.Tree.{Variable, Procedure, Declarations, Expr, typed, constant, variable, call, new_object, loose, no_object, by_reference, by_value, no_passed, next_passed, Line, Program}
use Rattle.bound_facts.specs.Calls.{calls, line_calls, Reaches}
use Rattle.bound_facts.specs.Effects.{outward, touched}
use Rattle.bound_facts.specs.Facts.{Known, is_quiet, is_resumable, stirs}
use Rattle.bound_facts.specs.Leading.{is_in}
use Rattle.bound_facts.specs.Members.{initializer}
use Rattle.bound_facts.specs.Parts.{line_uses}
use Rattle.bound_facts.specs.SelfMade.{unplain, unplain_items}

abbrev file : ℕ → Place
file n = record { file = n; line = 1 }

abbrev var : Owner → Ty → Variable
var o ty = record { name = codes "x"; place = file 1; statement = 0; owner = o; ty = ty; named = ty; qualified = false; lettered = None; bounds = []; auto = false; preset = None }

abbrev procedure : (name : List ℕ) → (home : ℕ) → ProcKind → List VarId → Ty → Option VarId → Procedure
procedure name m k params result answer = record {
  name = name;
  place = file m;
  module_number = m;
  kind = k;
  visibility = visibility.Public;
  params = params;
  result = result;
  answer = answer;
  first = record { 0 = 0 };
}

abbrev p : ℕ → ProcId
p n = record { 0 = n }

abbrev x : ℕ → VarId
x n = record { 0 = n }

abbrev c : ℕ → ClassId
c n = record { 0 = n }

abbrev read : ℕ → Expr
read n = typed long (variable (x n) false)

abbrev one : Expr
one = typed long (constant (v.Long (pos 1)) Literal)

abbrev given : ℕ → ℕ → Ty → Expr
given q n ty = typed ty (call (p q) false no_object (next_passed (by_reference (read n)) no_passed))

abbrev at : Form → List Expr → Line
at form es = record { source = record { place = file 1; text = []; form = form }; bindings = record { exprs = es; rules = none; mentions = [] } }

abbrev store : Expr → Expr → Line
store to e = at (vb.assign me me) (to ∷ e ∷ [])

abbrev D : Declarations
D = record {
  project = record {
    file = record { kind = Exe; startup = None; entries = []; dropped = [] };
    modules = record { file = 1; name = codes "Main1"; class = false; members = []; comments = [] }
        ∷ record { file = 2; name = codes "Box"; class = true; members = []; comments = [] } ∷ [];
  };
  names = [];
  vars = var (owner.Local (p 0)) long
      ∷ var (owner.Reference (p 1)) long
      ∷ var (owner.Reference (p 2)) long
      ∷ var (owner.Answer (p 2)) long
      ∷ var (owner.Module 2) long
      ∷ var (owner.Local (p 4)) (class 0) ∷ [];
  consts = [];
  procs = procedure (codes "Main") 1 kind.Sub [] nothing None
      ∷ procedure (codes "Bump") 1 kind.Sub (x 1 ∷ []) nothing None
      ∷ procedure (codes "Peek") 1 kind.Function (x 2 ∷ []) long (Some (x 3))
      ∷ procedure (codes "Class_Initialize") 2 kind.Sub [] nothing None
      ∷ procedure (codes "Make") 1 kind.Sub [] nothing None ∷ [];
  types = [];
  enums = [];
  defaults = None ∷ [];
}

-- Main: Bump n, Debug.Print Peek(n). Bump: y = 1. Peek: Peek = y. Class_Initialize: f = 1. Make: Set o = New Box
abbrev P : Program
P = record {
  declarations = D;
  bodies = (at (vb.invoke me no_args) (given 1 0 nothing ∷ []) ∷ at (vb.debug_print [] false) (given 2 0 long ∷ []) ∷ [])
      ∷ (store (read 1) one ∷ [])
      ∷ (store (read 3) (read 2) ∷ [])
      ∷ (store (read 4) one ∷ [])
      ∷ (at (vb.set me me) (typed (class 0) (variable (x 5) false) ∷ typed (class 0) (new_object (c 0)) ∷ []) ∷ []) ∷ [];
}

initialized_by : initializer D 0 ≡ Some 3
initialized_by = refl

called_from : calls P ≡ (0, 1) ∷ (0, 2) ∷ (4, 3) ∷ []
called_from = refl

-- Main prints, Bump and Class_Initialize change what isn't their own, Make makes an object; Peek does none of these
acting : outward P ≡ 0 ∷ 1 ∷ 3 ∷ 4 ∷ []
acting = refl

-- n is passed on twice; y of Bump, the result of Peek, f and o are assigned; y of Peek is not
touching : touched P ≡ 0 ∷ 0 ∷ 1 ∷ 3 ∷ 4 ∷ 5 ∷ []
touching = refl

-- f is of the object that Class_Initialize runs for
not_plain : unplain P ≡ 0 ∷ 0 ∷ 1 ∷ 2 ∷ 4 ∷ []
not_plain = refl

-- what has no type is passed over
passed_over : unplain_items D 3 (store (typed unknown (loose me none)) one) ≡ []
passed_over = refl

-- Main reaches Peek, by one call
reaching : Reaches P 0 2
reaching = longer 0 0 2 (empty 0) (1, omega arith, refl)

abbrev F : Known
F = record { outward = is_in (0 ∷ 1 ∷ 3 ∷ 4 ∷ []); touched = is_in (touched P); resized = is_in []; unplain = is_in (unplain P) }

-- the parameter of Peek is quiet, that of Bump isn't
quiet : is_quiet D F 2 ≡ true
quiet = refl

loud : is_quiet D F 1 ≡ false
loud = refl

-- a call of Bump is stirring, one of Peek isn't, and so isn't a new Box, whose class is self-made
stirring : stirs D F (given 1 0 nothing) ≡ true
stirring = refl

calm : stirs D F (given 2 0 long) ≡ false
calm = refl

self_made : stirs D F (typed (class 0) (new_object (c 0))) ≡ false
self_made = refl

-- Main goes on at no line of an error; a procedure with On Error Resume Next or a Resume does, one with On Error GoTo alone doesn't
stops : is_resumable (at (vb.invoke me no_args) [] ∷ at vb.on_error_goto_zero [] ∷ []) ≡ false
stops = refl

goes : is_resumable (at vb.on_error_resume_next [] ∷ at (vb.invoke me no_args) [] ∷ []) ≡ true
goes = refl

-- the part of a property that a Set goes to is called; a variable that it goes to isn't used
set_calls : line_calls D 0 (at (vb.set me me) (given 1 0 nothing ∷ one ∷ [])) ≡ (0, 1) ∷ []
set_calls = refl

set_uses : line_uses (at (vb.set me me) (read 0 ∷ one ∷ [])) ≡ one ∷ []
set_uses = refl
