-- How bound programs are written down in examples, and how their runs end.
use Rattle.std.proofs.Common.{ℕ, ℤ, pos, Bool, true, false, List, [], ◌∷◌, ◌++◌, map, codes, Option, Some, None}
use Rattle.up_base.specs.declared.place.Place.{Place}
use Rattle.vb_tree.specs.BoundTree.{Ty, boolean, integer, long, str, nothing}
use Rattle.vb_tree.specs.declared.declared.ClassId.{ClassId}
use Rattle.vb_tree.specs.declared.declared.Owner.{Owner}
use Rattle.vb_tree.specs.declared.declared.Owner.TheVariants as owner
use Rattle.vb_tree.specs.declared.declared.ProcId.{ProcId}
use Rattle.vb_tree.specs.declared.declared.ProcKind.{ProcKind}
use Rattle.vb_tree.specs.declared.declared.ProcKind.TheVariants as kind
use Rattle.vb_tree.specs.declared.declared.VarId.{VarId}
use Rattle.vb_tree.specs.declared.expression.BinOp.{BinOp}
use Rattle.vb_tree.specs.declared.form_parts.Label6.{Label6}
use Rattle.vb_tree.specs.declared.form_parts.Label6.TheVariants as label
use Rattle.vb_tree.specs.declared.form_parts.Visibility.TheVariants as seen
use Rattle.vb_tree.specs.declared.project.ProjectKind.TheVariants.{Exe}
use Rattle.vb_tree.specs.declared.value.Value6.TheVariants as v
use Rattle.vb_tree.specs.Tree as source
use Rattle.vb_tree.specs.Tree.{Form}
use Rattle.bound_tree.specs.declared.declared.TypeDecl.{TypeDecl}
use Rattle.bound_tree.specs.declared.expression.Origin.TheVariants.{Literal}
use Rattle.bound_tree.specs.RuleSets.{none}
use Rattle.bound_tree.specs.Tree.{Variable, Procedure, Expr, typed, constant, variable, field, element, call, binary, Object, no_exprs, next_expr, Passed, Line, Program}
use Rattle.run_base.specs.Outcomes.{Output, printed, Outcome, gives, raises, spent, outside}
use Rattle.vb6_run.specs.Store.{Memory}
use Rattle.vb6_run.specs.Runnables.{Runnable}
use Rattle.vb6_run.specs.Programs.{run_program}

-- ---- declarations

abbrev pub var_id : ℕ → VarId
var_id n = record { 0 = n }

abbrev pub proc_id : ℕ → ProcId
proc_id n = record { 0 = n }

abbrev pub class_id : ℕ → ClassId
class_id n = record { 0 = n }

abbrev pub at_line : (file : ℕ) → Place
at_line file = record { file = file; line = 1 }

abbrev pub declared : Owner → Ty → Variable
declared of ty = record {
  name = [];
  place = at_line 1;
  statement = 0;
  owner = of;
  ty = ty;
  named = ty;
  qualified = false;
  lettered = None;
  bounds = [];
  auto = false;
  preset = None;
}

-- variables of a procedure, of a module and of a user type
abbrev pub local : (procedure : ℕ) → Ty → Variable
local p ty = declared (owner.Local (proc_id p)) ty

abbrev pub static : (procedure : ℕ) → Ty → Variable
static p ty = declared (owner.Static (proc_id p)) ty

abbrev pub by_value_in : (procedure : ℕ) → Ty → Variable
by_value_in p ty = declared (owner.Value (proc_id p)) ty

abbrev pub by_reference_in : (procedure : ℕ) → Ty → Variable
by_reference_in p ty = declared (owner.Reference (proc_id p)) ty

abbrev pub answer : (procedure : ℕ) → Ty → Variable
answer p ty = declared (owner.Answer (proc_id p)) ty

abbrev pub in_module : (file : ℕ) → Ty → Variable
in_module file ty = declared (owner.Module file) ty

abbrev pub in_type : (user_type : ℕ) → Ty → Variable
in_type t ty = declared (owner.Field (record { 0 = t })) ty

abbrev pub with_bounds : ℤ → ℤ → Variable → Variable
with_bounds low high x = record x { bounds = (low, high) ∷ x.bounds }

abbrev pub as_new : Variable → Variable
as_new x = record x { auto = true }

abbrev pub procedure : List ℕ → (file : ℕ) → ProcKind → (params : List ℕ) → (answer : Option ℕ) → Procedure
procedure name file k params r = record {
  name = name;
  place = at_line file;
  module_number = file;
  kind = k;
  visibility = seen.Public;
  params = map var_id params;
  result = nothing;
  answer = answer_id r;
  first = proc_id 0;
}
  where
    answer_id : Option ℕ → Option VarId
    answer_id None = None
    answer_id (Some n) = Some (var_id n)

abbrev pub sub : List ℕ → Procedure
sub params = procedure (codes "S") 1 kind.Sub params None

abbrev pub function : List ℕ → (answer : ℕ) → Procedure
function params r = procedure (codes "F") 1 kind.Function params (Some r)

abbrev pub user_type : List ℕ → TypeDecl
user_type fields = record { name = codes "T"; place = at_line 1; «module» = 1; fields = map var_id fields }

-- ---- programs of a standard module with the file number 1 and a class with the file number 2

abbrev pub module_of : (file : ℕ) → (class : Bool) → source.Module
module_of file is_class = record { file = file; name = codes "M"; class = is_class; members = []; comments = [] }

abbrev pub program : List Variable → List TypeDecl → List Procedure → List (List Line) → Program
program vars types procs bodies = record {
  declarations = record {
    project = record {
      file = record { kind = Exe; startup = Some (3, codes "Sub Main"); entries = []; dropped = [] };
      modules = module_of 1 false ∷ module_of 2 true ∷ [];
    };
    names = [];
    vars = vars;
    consts = [];
    procs = procs;
    types = types;
    enums = [];
    defaults = [];
  };
  bodies = bodies;
}

-- no parameter is quiet, and all arrays begin at 0
abbrev pub loud : Program → Runnable
loud P = record { program = P; quiet = λ p i. false; low = λ a d. pos 0 }

-- a procedure Main alone
abbrev pub main_alone : List Variable → List Line → Runnable
main_alone vars lines = loud (program vars [] (sub [] ∷ []) (lines ∷ []))

-- ---- lines

abbrev pub code : Form → List Expr → Line
code f es = record { source = record { place = at_line 1; text = []; form = f }; bindings = record { exprs = es; rules = none; mentions = [] } }

abbrev pub word : source.Exp
word = source.me

abbrev pub lets : Expr → Expr → Line
lets to e = code (source.assign word word) (to ∷ e ∷ [])

abbrev pub sets : Expr → Expr → Line
sets to e = code (source.set word word) (to ∷ e ∷ [])

abbrev pub calls : Expr → Line
calls e = code (source.call word) (e ∷ [])

abbrev pub prints : List Expr → Line
prints es = code (source.debug_print [] false) es

abbrev pub jumps : ℕ → Label6
jumps n = label.Number (pos n)

-- ---- expressions

abbrev pub var : ℕ → Ty → Expr
var n ty = typed ty (variable (var_id n) false)

abbrev pub num : ℤ → Expr
num z = typed long (constant (v.Long z) Literal)

abbrev pub int : ℤ → Expr
int z = typed integer (constant (v.Int z) Literal)

abbrev pub text : List ℕ → Expr
text s = typed str (constant (v.Str s) Literal)

abbrev pub op : BinOp → Expr → Expr → Expr
op o a b = typed long (binary o a b)

abbrev pub test : BinOp → Expr → Expr → Expr
test o a b = typed boolean (binary o a b)

abbrev pub called : (procedure : ℕ) → Ty → Object → Passed → Expr
called p ty of args = typed ty (call (proc_id p) false of args)

abbrev pub item : Expr → Ty → Expr → Expr
item a ty i = typed ty (element a (next_expr i no_exprs))

abbrev pub field_of : Expr → ℕ → Ty → Expr
field_of e k ty = typed ty (field e k)

-- ---- runs

-- how a run ended: with what was put out; with a raised number; with no step left; or outside of the meaning
pub data Ending : Type 0 where
  ended : List Output → Ending
  raised : List Output → ℕ → Ending
  out_of_steps : List Output → Ending
  left : List Output → Ending

abbrev pub ending : {A : Type 0} → Outcome Memory A → Ending
ending (gives o a w) = ended o
ending (raises o e w) = raised o e
ending (spent o w) = out_of_steps o
ending (outside o) = left o

-- the procedure with the number 0 with these inputs and at most n steps
abbrev pub ran_with : Runnable → List (List ℕ) → (n : ℕ) → Ending
ran_with R inputs n = ending (run_program R 0 inputs n)

abbrev pub ran : Runnable → (n : ℕ) → Ending
ran R n = ran_with R [] n

abbrev pub line_text : List ℕ → Output
line_text s = printed (s ++ 13 ∷ 10 ∷ [])
