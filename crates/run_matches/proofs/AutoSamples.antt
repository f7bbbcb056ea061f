-- A small program over As New variables: used, set to Nothing, used again, and asked whether they are Nothing.
use Rattle.std.proofs.Common.{◌≡◌, refl, pos, true, false, ℕ, List, [], ◌∷◌, ◌++◌, codes, None, Some}
use Rattle.std.specs.Fmt.{digits}
use Rattle.vb_tree.specs.BoundTree.{class, boolean, long, nothing}
use Rattle.vb_tree.specs.declared.declared.Owner.TheVariants as owner
use Rattle.vb_tree.specs.declared.declared.ProcKind.TheVariants as kind
use Rattle.vb_tree.specs.declared.form_parts.VarWord.TheVariants as var_word
use Rattle.vb_tree.specs.declared.project.ProjectKind.TheVariants.{Exe}
use Rattle.vb_tree.specs.declared.value.Value6.TheVariants as v
use Rattle.vb_tree.specs.Tree.{Form}
use Rattle.vb_tree.specs.Tree as source
use Rattle.bound_tree.specs.declared.body.Mention.{Mention}
use Rattle.bound_tree.specs.declared.body.Mention.TheVariants as mention
use Rattle.bound_tree.specs.declared.expression.Origin.TheVariants.{Literal}
use Rattle.bound_tree.specs.RuleSets.{has, none, both}
use Rattle.bound_tree.specs.Tree.{Variable, Expr, typed, constant, variable, field, convert, is_same, Line, Program}
use Rattle.written_trees.specs.Projects.{written_project}
use Rattle.run_base.specs.Outcomes.{outputs, printed}
use Rattle.vb6_run.specs.Programs.{run_program}
use Rattle.net_run.specs.Program.{program_runs}
use Rattle.run_matches.specs.Covered.{covers_procedure}
use Rattle.run_matches.specs.Upgrades.{Upgrade, runnable_of}
use Rattle.run_matches.proofs.Samples.{any, body, declared, facts, known, line, proc_id, procedure, signature, var_id}

-- The source of Main1, a standard module, and of Counter, a class:
--
--     Private m As New Counter
--     Sub Main()
--         Dim c As New Counter
--         Debug.Print 1
--         c.n = 5
--         Set c = Nothing
--         Debug.Print c.n
--         m.n = 2
--         Debug.Print m.n
--         If c Is Nothing Then
--             Debug.Print 4
--         End If
--     End Sub
--
--     Public n As Long
--     Private Sub Class_Initialize()
--         Debug.Print 3
--     End Sub

abbrev object : (variable : ℕ) → Expr
object k = typed (class 0) (variable (var_id k) false)

abbrev number : ℕ → Expr
number k = typed long (constant (v.Long (pos k)) Literal)

abbrev nothing_itself : Expr
nothing_itself = typed nothing (constant v.Nothing Literal)

abbrev n_of : Expr → Expr
n_of e = typed long (field e 0)

abbrev mentions : List Mention
mentions = mention.Var (var_id 0) ∷ mention.Var (var_id 1) ∷ mention.Var (var_id 2) ∷ []

abbrev code_in : (file : ℕ) → Form → List Expr → Line
code_in file f es = record { source = line file f; bindings = record { exprs = es; rules = none; mentions = mentions } }

abbrev code : Form → List Expr → Line
code f es = code_in 1 f es

abbrev set : Form
set = source.set any any

abbrev assign : Form
assign = source.assign any any

abbrev print : Form
print = source.debug_print [] false

abbrev main_lines : List Line
main_lines =
    code print (number 1 ∷ [])
    ∷ code assign (n_of (object 1) ∷ number 5 ∷ [])
    ∷ code set (object 1 ∷ typed (class 0) (convert (class 0) nothing_itself) ∷ [])
    ∷ code print (n_of (object 1) ∷ [])
    ∷ code assign (n_of (object 0) ∷ number 2 ∷ [])
    ∷ code print (n_of (object 0) ∷ [])
    ∷ code (source.if_head any) (typed boolean (is_same (object 1) nothing_itself) ∷ [])
    ∷ code print (number 4 ∷ [])
    ∷ code source.end_if []
    ∷ []

abbrev initialize_lines : List Line
initialize_lines = code_in 2 print (number 3 ∷ []) ∷ []

abbrev made_new : Variable → Variable
made_new x = record x { auto = true }

abbrev autos : Program
autos = record {
  declarations = record {
    project = record {
      file = record { kind = Exe; startup = Some (3, codes "Sub Main"); entries = []; dropped = [] };
      modules =
          record {
            file = 1;
            name = codes "Main1";
            class = false;
            members =
                source.alone (line 1 (source.variables var_word.Private []))
                ∷ source.proc (line 1 (source.sub_head (signature (codes "Main"))))
                (body 1
                (source.variables var_word.Dim [] ∷ print ∷ assign ∷ set ∷ print ∷ assign ∷ print ∷ source.if_head any ∷ print ∷ source.end_if ∷ []))
                (line 1 source.end_sub)
                ∷ [];
            comments = [];
          }
          ∷ record {
            file = 2;
            name = codes "Counter";
            class = true;
            members =
                source.alone (line 2 (source.variables var_word.Public []))
                ∷ source.proc (line 2 (source.sub_head (signature (codes "Class_Initialize")))) (body 2 (print ∷ [])) (line 2 source.end_sub)
                ∷ [];
            comments = [];
          }
          ∷ [];
    };
    names = [];
    vars =
        made_new (declared (codes "m") 1 0 (owner.Module 1) (class 0))
        ∷ made_new (declared (codes "c") 1 2 (owner.Local (proc_id 0)) (class 0))
        ∷ declared (codes "n") 2 0 (owner.Module 2) long
        ∷ [];
    consts = [];
    procs =
        procedure (codes "Main") 1 kind.Sub [] nothing None 0
        ∷ procedure (codes "Class_Initialize") 2 kind.Sub [] nothing None 1
        ∷ [];
    types = [];
    enums = [];
    defaults = [];
  };
  bodies = main_lines ∷ initialize_lines ∷ [];
}

abbrev auto_upgrade : Upgrade
auto_upgrade = record { program = autos; known = known; facts = facts; written = written_project autos facts }

main_covered : covers_procedure autos 0 ≡ true
main_covered = refl

initialize_covered : covers_procedure autos 1 ≡ true
initialize_covered = refl

abbrev texts : List ℕ → List ℕ
texts s = s ++ 13 ∷ 10 ∷ []

says : outputs (run_program (runnable_of auto_upgrade) 0 [] 80) ≡ printed (texts (codes " 1 ")) ∷ printed (texts (codes " 3 ")) ∷ printed (texts (codes " 3 ")) ∷ printed (texts (codes " 0 ")) ∷ printed (texts (codes " 3 ")) ∷ printed (texts (codes " 2 ")) ∷ []
unfolding digits
says = refl

says_net : outputs (program_runs auto_upgrade.written 80 0 []) ≡ printed (texts (codes " 1 ")) ∷ printed (texts (codes " 3 ")) ∷ printed (texts (codes " 3 ")) ∷ printed (texts (codes " 0 ")) ∷ printed (texts (codes " 3 ")) ∷ printed (texts (codes " 2 ")) ∷ []
unfolding digits has none both
says_net = refl
