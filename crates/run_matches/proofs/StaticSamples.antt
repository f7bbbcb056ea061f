-- A small program with a Static in a procedure of a class, of which each object has its own.
use Rattle.std.proofs.Common.{◌≡◌, refl, pos, true, false, ℕ, List, [], ◌∷◌, ◌++◌, codes, None, Some}
use Rattle.std.specs.Fmt.{digits}
use Rattle.vb_tree.specs.BoundTree.{class, long, nothing}
use Rattle.vb_tree.specs.declared.declared.Owner.TheVariants as owner
use Rattle.vb_tree.specs.declared.declared.ProcKind.TheVariants as kind
use Rattle.vb_tree.specs.declared.expression.BinOp.TheVariants as b
use Rattle.vb_tree.specs.declared.form_parts.VarWord.TheVariants as var_word
use Rattle.vb_tree.specs.declared.project.ProjectKind.TheVariants.{Exe}
use Rattle.vb_tree.specs.declared.value.Value6.TheVariants as v
use Rattle.vb_tree.specs.Tree.{Form}
use Rattle.vb_tree.specs.Tree as source
use Rattle.bound_tree.specs.declared.body.Mention.{Mention}
use Rattle.bound_tree.specs.declared.body.Mention.TheVariants as mention
use Rattle.bound_tree.specs.declared.expression.Origin.TheVariants.{Literal}
use Rattle.bound_tree.specs.RuleSets.{has, none, both}
use Rattle.bound_tree.specs.Tree.{Expr, typed, constant, variable, binary, call, new_object, of_object, no_passed, Line, Program}
use Rattle.written_trees.specs.Projects.{written_project}
use Rattle.run_base.specs.Outcomes.{outputs, printed}
use Rattle.vb6_run.specs.Programs.{run_program}
use Rattle.net_run.specs.Program.{program_runs}
use Rattle.run_matches.specs.Covered.{covers_procedure}
use Rattle.run_matches.specs.Upgrades.{Upgrade, runnable_of}
use Rattle.run_matches.proofs.Samples.{any, body, declared, facts, known, line, proc_id, procedure, signature, var_id}

-- The source of Main1, a standard module, and of Clock, a class:
--
--     Sub Main()
--         Dim c As Clock, d As Clock
--         Set c = New Clock
--         Set d = New Clock
--         Debug.Print c.Tick
--         Debug.Print c.Tick
--         Debug.Print d.Tick
--     End Sub
--
--     Public Function Tick() As Long
--         Static n As Long
--         n = n + 1
--         Tick = n
--     End Function

abbrev object : (variable : ℕ) → Expr
object k = typed (class 0) (variable (var_id k) false)

abbrev at : (variable : ℕ) → Expr
at k = typed long (variable (var_id k) false)

abbrev tick : (variable : ℕ) → Expr
tick k = typed long (call (proc_id 1) false (of_object (object k)) no_passed)

abbrev new_clock : Expr
new_clock = typed (class 0) (new_object (record { 0 = 0 }))

abbrev mentions : List Mention
mentions = mention.Var (var_id 0) ∷ mention.Var (var_id 1) ∷ mention.Var (var_id 2) ∷ mention.Var (var_id 3) ∷ []

abbrev code_in : (file : ℕ) → Form → List Expr → Line
code_in file f es = record { source = line file f; bindings = record { exprs = es; rules = none; mentions = mentions } }

abbrev set : Form
set = source.set any any

abbrev assign : Form
assign = source.assign any any

abbrev print : Form
print = source.debug_print [] false

abbrev main_lines : List Line
main_lines =
    code_in 1 set (object 0 ∷ new_clock ∷ [])
    ∷ code_in 1 set (object 1 ∷ new_clock ∷ [])
    ∷ code_in 1 print (tick 0 ∷ [])
    ∷ code_in 1 print (tick 0 ∷ [])
    ∷ code_in 1 print (tick 1 ∷ [])
    ∷ []

abbrev tick_lines : List Line
tick_lines =
    code_in 2 assign (at 2 ∷ typed long (binary b.Add (at 2) (typed long (constant (v.Long (pos 1)) Literal))) ∷ [])
    ∷ code_in 2 assign (at 3 ∷ at 2 ∷ [])
    ∷ []

abbrev statics : Program
statics = record {
  declarations = record {
    project = record {
      file = record { kind = Exe; startup = Some (3, codes "Sub Main"); entries = []; dropped = [] };
      modules =
          record {
            file = 1;
            name = codes "Main1";
            class = false;
            members =
                source.proc (line 1 (source.sub_head (signature (codes "Main"))))
                (body 1 (source.variables var_word.Dim [] ∷ set ∷ set ∷ print ∷ print ∷ print ∷ [])) (line 1 source.end_sub)
                ∷ [];
            comments = [];
          }
          ∷ record {
            file = 2;
            name = codes "Clock";
            class = true;
            members =
                source.proc (line 2 (source.function_head (signature (codes "Tick")) None))
                (body 2 (source.variables var_word.Static [] ∷ assign ∷ assign ∷ [])) (line 2 source.end_function)
                ∷ [];
            comments = [];
          }
          ∷ [];
    };
    names = [];
    vars =
        declared (codes "c") 1 1 (owner.Local (proc_id 0)) (class 0)
        ∷ declared (codes "d") 1 1 (owner.Local (proc_id 0)) (class 0)
        ∷ declared (codes "n") 2 1 (owner.Static (proc_id 1)) long
        ∷ declared (codes "Tick") 2 0 (owner.Answer (proc_id 1)) long
        ∷ [];
    consts = [];
    procs =
        procedure (codes "Main") 1 kind.Sub [] nothing None 0
        ∷ procedure (codes "Tick") 2 kind.Function [] long (Some (var_id 3)) 1
        ∷ [];
    types = [];
    enums = [];
    defaults = [];
  };
  bodies = main_lines ∷ tick_lines ∷ [];
}

abbrev static_upgrade : Upgrade
static_upgrade = record { program = statics; known = known; facts = facts; written = written_project statics facts }

main_covered : covers_procedure statics 0 ≡ true
main_covered = refl

tick_covered : covers_procedure statics 1 ≡ true
tick_covered = refl

abbrev texts : List ℕ → List ℕ
texts s = s ++ 13 ∷ 10 ∷ []

says : outputs (run_program (runnable_of static_upgrade) 0 [] 60) ≡ printed (texts (codes " 1 ")) ∷ printed (texts (codes " 2 ")) ∷ printed (texts (codes " 1 ")) ∷ []
unfolding digits
says = refl

says_net : outputs (program_runs static_upgrade.written 60 0 []) ≡ printed (texts (codes " 1 ")) ∷ printed (texts (codes " 2 ")) ∷ printed (texts (codes " 1 ")) ∷ []
unfolding digits has none both
says_net = refl
