-- A small program with what is known of it and what is written for it: an array of the module with lower bound 1, a dynamic one that is
-- made anew, given by reference and erased, a Function with a quiet parameter, and an error that is handled.
use Rattle.std.specs.Prelude.{ℕ, pos, nat_eq, nat_lt, cond, ◌&&◌, false, Option, Some, None, List, [], ◌∷◌, codes, map}
use Rattle.up_base.specs.declared.place.Place.{Place}
use Rattle.vb_tree.specs.BoundTree.{Ty, array, long, nothing}
use Rattle.vb_tree.specs.declared.bound.LibCall.TheVariants as lib
use Rattle.vb_tree.specs.declared.declared.Owner.{Owner}
use Rattle.vb_tree.specs.declared.declared.Owner.TheVariants as owner
use Rattle.vb_tree.specs.declared.declared.ProcId.{ProcId}
use Rattle.vb_tree.specs.declared.declared.ProcKind.{ProcKind}
use Rattle.vb_tree.specs.declared.declared.ProcKind.TheVariants as kind
use Rattle.vb_tree.specs.declared.declared.VarId.{VarId}
use Rattle.vb_tree.specs.declared.expression.BinOp.TheVariants as b
use Rattle.vb_tree.specs.declared.form_parts.ExitKind.TheVariants as leaving
use Rattle.vb_tree.specs.declared.form_parts.Label6.{Label6}
use Rattle.vb_tree.specs.declared.form_parts.Label6.TheVariants as label6
use Rattle.vb_tree.specs.declared.form_parts.VarWord.TheVariants as var_word
use Rattle.vb_tree.specs.declared.form_parts.Visibility.TheVariants as seen
use Rattle.vb_tree.specs.declared.project.ProjectKind.TheVariants.{Exe}
use Rattle.vb_tree.specs.declared.token.Suffix.TheVariants.{Absent}
use Rattle.vb_tree.specs.declared.value.Value6.TheVariants as v
use Rattle.vb_tree.specs.Tree.{Exp, Form, Nodes, no_nodes, next_node, Signature}
use Rattle.vb_tree.specs.Tree as source
use Rattle.bound_tree.specs.declared.body.Mention.{Mention}
use Rattle.bound_tree.specs.declared.body.Mention.TheVariants as mention
use Rattle.bound_tree.specs.declared.expression.Origin.TheVariants.{Literal}
use Rattle.bound_tree.specs.RuleSets.{none}
use Rattle.bound_tree.specs.Tree.{Variable, Procedure, Expr, typed, constant, variable, element, binary, call, library, no_object, by_reference, no_exprs, next_expr, no_passed, next_passed, Argument, by_value, err_number, Line, Program}
use Rattle.bound_facts.specs.Calls.{count_procedures, count_variables}
use Rattle.bound_facts.specs.Effects.{touched}
use Rattle.bound_facts.specs.Facts.{Known}
use Rattle.bound_facts.specs.Leading.{is_in}
use Rattle.bound_facts.specs.SelfMade.{unplain}
use Rattle.written_trees.specs.Facts.{Facts}
use Rattle.written_trees.specs.Projects.{written_project}
use Rattle.run_matches.specs.Upgrades.{Upgrade}

-- The source of Main1, a standard module:
--
--     Private total(1 To 3) As Long
--     Sub Main()
--         Dim b() As Long, i As Long
--         On Error GoTo failed
--         ReDim b(2)
--         b(i) = i + 1
--         i = UBound(b)
--         b(i) = b(0) + total(3)
--         total(1) = b(i)
--         Call Add(b)
--         i = Twice(Twice(i))
--         Debug.Print total(1); b(0); i
--         Erase b
--         b(0) = 1
--         Exit Sub
--     failed:
--         Debug.Print Err.Number
--         Resume Next
--     End Sub
--     Sub Add(n() As Long)
--         n(0) = n(0) + 1
--     End Sub
--     Function Twice(m As Long) As Long
--         Twice = m + m
--     End Function

abbrev pub at_line : (file : ℕ) → Place
at_line file = record { file = file; line = 1 }

abbrev pub var_id : ℕ → VarId
var_id n = record { 0 = n }

abbrev pub proc_id : ℕ → ProcId
proc_id n = record { 0 = n }

abbrev pub declared : List ℕ → (file statement : ℕ) → Owner → Ty → Variable
declared name file n of ty = record {
  name = name;
  place = at_line file;
  statement = n;
  owner = of;
  ty = ty;
  named = ty;
  qualified = false;
  lettered = None;
  bounds = [];
  auto = false;
  preset = None;
}

abbrev pub procedure : List ℕ → (file : ℕ) → ProcKind → List VarId → Ty → Option VarId → (first : ℕ) → Procedure
procedure name file k params result answer first = record {
  name = name;
  place = at_line file;
  module_number = file;
  kind = k;
  visibility = seen.Public;
  params = params;
  result = result;
  answer = answer;
  first = proc_id first;
}

-- runs, and what is written, are of bound expressions alone: for those of the source's forms any will do
abbrev pub any : Exp
any = source.me

abbrev pub line : (file : ℕ) → Form → source.Line
line file form = record { place = at_line file; text = []; form = form }

abbrev pub signature : List ℕ → Signature
signature name = record { visibility = None; name = name; suffix = Absent; params = [] }

abbrev pub body : (file : ℕ) → List Form → Nodes
body file [] = no_nodes
body file (f ∷ fs) = next_node (source.line (line file f)) (body file fs)

abbrev pub the : (variable : ℕ) → Expr
the k = typed long (variable (var_id k) false)

abbrev pub number : ℕ → Expr
number k = typed long (constant (v.Long (pos k)) Literal)

-- a variable that is an array of Longs, of a rank if it is fixed
abbrev pub whole : (rank variable : ℕ) → Expr
whole rank k = typed (array long rank) (variable (var_id k) false)

abbrev pub at : (rank variable : ℕ) → (index : Expr) → Expr
at rank k i = typed long (element (whole rank k) (next_expr i no_exprs))

abbrev pub plus : Expr → Expr → Expr
plus d e = typed long (binary b.Add d e)

abbrev pub mentions_of : List ℕ → List Mention
mentions_of vs = map (λ v. mention.Var (var_id v)) vs

abbrev pub code : Form → List Expr → Line
code f es = record { source = line 1 f; bindings = record { exprs = es; rules = none; mentions = mentions_of (0 ∷ 1 ∷ 2 ∷ 3 ∷ 4 ∷ 5 ∷ []) } }

abbrev pub redim : Form
redim = source.redim false (record { array = any; bounds = record { lower = None; upper = any } ∷ []; ty = None } ∷ [])

abbrev pub assign : Form
assign = source.assign any any

abbrev pub failed : Label6
failed = label6.Word (codes "failed")

abbrev pub twice : Argument → Expr
twice a = typed long (call (proc_id 2) false no_object (next_passed a no_passed))

abbrev pub main_lines : List Line
main_lines =
    code (source.on_error_goto failed) []
    ∷ code redim (whole 0 1 ∷ number 2 ∷ [])
    ∷ code assign (at 0 1 (the 2) ∷ plus (the 2) (number 1) ∷ [])
    ∷ code assign (the 2 ∷ typed long (library lib.UBound (next_expr (whole 0 1) no_exprs)) ∷ [])
    ∷ code assign (at 0 1 (the 2) ∷ plus (at 0 1 (number 0)) (at 1 0 (number 3)) ∷ [])
    ∷ code assign (at 1 0 (number 1) ∷ at 0 1 (the 2) ∷ [])
    ∷ code (source.call any) (typed nothing (call (proc_id 1) false no_object (next_passed (by_reference (whole 0 1)) no_passed)) ∷ [])
    ∷ code assign (the 2 ∷ twice (by_value (twice (by_reference (the 2)))) ∷ [])
    ∷ code (source.debug_print [] false) (at 1 0 (number 1) ∷ at 0 1 (number 0) ∷ the 2 ∷ [])
    ∷ code (source.erase any) (whole 0 1 ∷ [])
    ∷ code assign (at 0 1 (number 0) ∷ number 1 ∷ [])
    ∷ code (source.exit leaving.Sub) []
    ∷ code (source.label failed) []
    ∷ code (source.debug_print [] false) (typed long err_number ∷ [])
    ∷ code source.resume_next []
    ∷ []

abbrev pub add_lines : List Line
add_lines = code assign (at 0 3 (number 0) ∷ plus (at 0 3 (number 0)) (number 1) ∷ []) ∷ []

abbrev pub twice_lines : List Line
twice_lines = code assign (the 5 ∷ plus (the 4) (the 4) ∷ []) ∷ []

abbrev pub forms_of : List Line → List Form
forms_of lines = map (λ (l : Line). l.source.form) lines

abbrev pub program : Program
program = record {
  declarations = record {
    project = record {
      file = record { kind = Exe; startup = Some (3, codes "Sub Main"); entries = []; dropped = [] };
      modules =
          record {
            file = 1;
            name = codes "Main1";
            class = false;
            members =
                source.alone (line 1 (source.variables var_word.Private []))
                ∷ source.proc (line 1 (source.sub_head (signature (codes "Main"))))
                (body 1 (source.variables var_word.Dim [] ∷ forms_of main_lines))
                (line 1 source.end_sub)
                ∷ source.proc (line 1 (source.sub_head (signature (codes "Add")))) (body 1 (forms_of add_lines)) (line 1 source.end_sub)
                ∷ source.proc (line 1 (source.function_head (signature (codes "Twice")) None)) (body 1 (forms_of twice_lines))
                (line 1 source.end_function)
                ∷ [];
            comments = [];
          }
          ∷ [];
    };
    names = [];
    vars =
        record (declared (codes "total") 1 0 (owner.Module 1) (array long 1)) { bounds = (pos 1, pos 3) ∷ [] }
        ∷ declared (codes "b") 1 2 (owner.Local (proc_id 0)) (array long 0)
        ∷ declared (codes "i") 1 2 (owner.Local (proc_id 0)) long
        ∷ declared (codes "n") 1 19 (owner.Reference (proc_id 1)) (array long 0)
        ∷ declared (codes "m") 1 22 (owner.Reference (proc_id 2)) long
        ∷ declared (codes "Twice") 1 22 (owner.Answer (proc_id 2)) long
        ∷ [];
    consts = [];
    procs =
        procedure (codes "Main") 1 kind.Sub [] nothing None 0
        ∷ procedure (codes "Add") 1 kind.Sub (var_id 3 ∷ []) nothing None 1
        ∷ procedure (codes "Twice") 1 kind.Function (var_id 4 ∷ []) long (Some (var_id 5)) 2
        ∷ [];
    types = [];
    enums = [];
    defaults = [];
  };
  bodies = main_lines ∷ add_lines ∷ twice_lines ∷ [];
}

-- Main and Add change what isn't their own, m is quiet, and b is made anew
abbrev pub sample_known : Known
sample_known = record {
  outward = λ p. nat_lt p 2;
  touched = λ v. nat_lt v (count_variables program) && is_in (touched program) v;
  resized = λ v. nat_eq v 1;
  unplain = λ p. nat_lt p (count_procedures program) && is_in (unplain program) p;
}

-- the module array begins at 1, all arrays have one dimension, and no rule is broken
abbrev pub sample_facts : Facts
sample_facts = record {
  low = λ a d. cond (nat_eq a 0) (pos 1) (pos 0);
  rank = λ a. 1;
  holds_array = λ t. false;
  is_made = λ t. false;
  marks = record { lines = []; heads = []; vars = []; consts = []; types = []; enums = [] };
  statement = λ file number. none;
}

abbrev pub sample : Upgrade
sample = record { program = program; known = sample_known; facts = sample_facts; written = written_project program sample_facts }
