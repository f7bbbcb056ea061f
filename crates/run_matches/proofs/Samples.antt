-- A small program with what is written for it, on which the relation is tried.
use Rattle.std.proofs.Common.{ℕ, pos, true, false, List, [], ◌∷◌, map, codes, Option, Some, None}
use Rattle.up_base.specs.declared.place.Place.{Place}
use Rattle.vb_tree.specs.BoundTree.{Ty, integer, long, currency, nothing}
use Rattle.vb_tree.specs.declared.declared.Owner.{Owner}
use Rattle.vb_tree.specs.declared.declared.Owner.TheVariants as owner
use Rattle.vb_tree.specs.declared.declared.ProcId.{ProcId}
use Rattle.vb_tree.specs.declared.declared.ProcKind.{ProcKind}
use Rattle.vb_tree.specs.declared.declared.ProcKind.TheVariants as kind
use Rattle.vb_tree.specs.declared.declared.VarId.{VarId}
use Rattle.vb_tree.specs.declared.expression.BinOp.TheVariants as b
use Rattle.vb_tree.specs.declared.form_parts.VarWord.TheVariants as var_word
use Rattle.vb_tree.specs.declared.form_parts.Visibility.TheVariants as seen
use Rattle.vb_tree.specs.declared.project.ProjectKind.TheVariants.{Exe}
use Rattle.vb_tree.specs.declared.token.Suffix.TheVariants.{Absent}
use Rattle.vb_tree.specs.declared.value.Value6.TheVariants as v
use Rattle.vb_tree.specs.Tree.{Exp, Form, Member, Nodes, no_nodes, next_node, Signature}
use Rattle.vb_tree.specs.Tree as source
use Rattle.bound_tree.specs.declared.body.Mention.TheVariants as mention
use Rattle.bound_tree.specs.declared.expression.Origin.TheVariants.{Literal}
use Rattle.bound_tree.specs.RuleSets.{none}
use Rattle.bound_tree.specs.Tree.{Variable, Procedure, Expr, typed, constant, variable, binary, Line, Program}
use Rattle.written_trees.specs.Facts.{Facts}
use Rattle.bound_facts.specs.Calls.{count_procedures, count_variables}
use Rattle.bound_facts.specs.Effects.{outward, touched}
use Rattle.bound_facts.specs.Facts.{Known}
use Rattle.bound_facts.specs.Leading.{is_in}
use Rattle.bound_facts.specs.SelfMade.{unplain}
use Rattle.std.specs.Prelude.{nat_lt, ◌&&◌}
use Rattle.written_trees.specs.Projects.{written_project}
use Rattle.run_matches.specs.Upgrades.{Upgrade}

-- The source of Main1, a standard module:
--
--     Public n As Long
--     Property Let P(ByVal w As Long)
--     End Property
--     Property Get P() As Long
--     End Property
--     Sub Main()
--         Dim c As Currency
--         c = 1.1
--         c = c * 2
--         Debug.Print c
--     End Sub
--
-- and of Node, a class:
--
--     Public k As Long
--     Sub Class_Initialize()
--         Static s As Long
--     End Sub

abbrev pub at_line : (file : ℕ) → Place
at_line file = record { file = file; line = 1 }

abbrev pub var_id : ℕ → VarId
var_id n = record { 0 = n }

abbrev pub proc_id : ℕ → ProcId
proc_id n = record { 0 = n }

abbrev pub declared : List ℕ → (file statement : ℕ) → Owner → Ty → Variable
declared name file n of ty = record {
  name = name;
  place = at_line file;
  statement = n;
  owner = of;
  ty = ty;
  named = ty;
  qualified = false;
  lettered = None;
  bounds = [];
  auto = false;
  preset = None;
}

-- the variable c of Main has this type
abbrev vars_of : (of_c : Ty) → List Variable
vars_of of_c =
    declared (codes "n") 1 0 (owner.Module 1) long  -- 0
    ∷ declared (codes "w") 1 1 (owner.Value (proc_id 0)) long  -- 1
    ∷ declared (codes "P") 1 3 (owner.Answer (proc_id 1)) long  -- 2
    ∷ declared (codes "c") 1 6 (owner.Local (proc_id 2)) of_c  -- 3
    ∷ declared (codes "k") 2 0 (owner.Module 2) long  -- 4
    ∷ declared (codes "s") 2 2 (owner.Static (proc_id 3)) long  -- 5
    ∷ []

abbrev pub vars : List Variable
vars = vars_of currency

abbrev pub procedure : List ℕ → (file : ℕ) → ProcKind → List VarId → Ty → Option VarId → (first : ℕ) → Procedure
procedure name file k params result answer first = record {
  name = name;
  place = at_line file;
  module_number = file;
  kind = k;
  visibility = seen.Public;
  params = params;
  result = result;
  answer = answer;
  first = proc_id first;
}

abbrev procs : List Procedure
procs =
    procedure (codes "P") 1 kind.Let (var_id 1 ∷ []) nothing None 0
    ∷ procedure (codes "P") 1 kind.Get [] long (Some (var_id 2)) 0
    ∷ procedure (codes "Main") 1 kind.Sub [] nothing None 2
    ∷ procedure (codes "Class_Initialize") 2 kind.Sub [] nothing None 3
    ∷ []

-- ---- lines

abbrev pub any : Exp
any = source.me

abbrev pub line : (file : ℕ) → Form → source.Line
line file form = record { place = at_line file; text = []; form = form }

abbrev pub signature : List ℕ → Signature
signature name = record { visibility = None; name = name; suffix = Absent; params = [] }

abbrev pub body : (file : ℕ) → List Form → Nodes
body file [] = no_nodes
body file (f ∷ fs) = next_node (source.line (line file f)) (body file fs)

abbrev main1 : (main : List Form) → List Member
main1 main =
    source.alone (line 1 (source.variables var_word.Public []))
    ∷ source.proc (line 1 (source.let_head (signature (codes "P")))) no_nodes (line 1 source.end_property)
    ∷ source.proc (line 1 (source.get_head (signature (codes "P")) None)) no_nodes (line 1 source.end_property)
    ∷ source.proc (line 1 (source.sub_head (signature (codes "Main"))))
    (body 1 (source.variables var_word.Dim [] ∷ main))
    (line 1 source.end_sub)
    ∷ []

abbrev node : List Member
node =
    source.alone (line 2 (source.variables var_word.Public []))
    ∷ source.proc (line 2 (source.sub_head (signature (codes "Class_Initialize")))) (body 2 (source.variables var_word.Static [] ∷ [])) (line 2 source.end_sub)
    ∷ []

abbrev pub c_of : Ty → Expr
c_of ty = typed ty (variable (var_id 3) false)

abbrev pub the_c : Expr
the_c = c_of currency

abbrev pub code : Form → List Expr → Line
code f es = record { source = line 1 f; bindings = record { exprs = es; rules = none; mentions = mention.Var (var_id 3) ∷ [] } }

abbrev main_lines : List Line
main_lines =
    code (source.assign any any) (the_c ∷ typed currency (constant (v.Cur (pos 11000)) Literal) ∷ [])
    ∷ code (source.assign any any) (the_c ∷ typed currency (binary b.Mul the_c (typed integer (constant (v.Int (pos 2)) Literal))) ∷ [])
    ∷ code (source.debug_print [] false) (the_c ∷ [])
    ∷ []

-- ---- the program

-- with these code lines in Main
abbrev pub program_with : (of_c : Ty) → List Line → Program
program_with of_c lines = record {
  declarations = record {
    project = record {
      file = record { kind = Exe; startup = Some (3, codes "Sub Main"); entries = []; dropped = [] };
      modules =
          record { file = 1; name = codes "Main1"; class = false; members = main1 (map (λ (l : Line). l.source.form) lines); comments = [] }
          ∷ record { file = 2; name = codes "Node"; class = true; members = node; comments = [] }
          ∷ [];
    };
    names = [];
    vars = vars_of of_c;
    consts = [];
    procs = procs;
    types = [];
    enums = [];
    defaults = [];
  };
  bodies = [] ∷ [] ∷ lines ∷ [] ∷ [];
}

abbrev pub program : Program
program = program_with currency main_lines

-- Main prints
abbrev pub known : Known
known = record {
  outward = λ p. nat_lt p (count_procedures program) && is_in (outward program) p;
  touched = λ a. nat_lt a (count_variables program) && is_in (touched program) a;
  resized = λ a. false;
  unplain = λ p. nat_lt p (count_procedures program) && is_in (unplain program) p;
}

abbrev pub facts : Facts
facts = record {
  low = λ a d. pos 0;
  rank = λ a. 1;
  holds_array = λ t. false;
  is_made = λ t. false;
  marks = record { lines = []; heads = []; vars = []; consts = []; types = []; enums = [] };
  statement = λ file number. none;
}

abbrev pub upgrade : Upgrade
upgrade = record { program = program; known = known; facts = facts; written = written_project program facts }
