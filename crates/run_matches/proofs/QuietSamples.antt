-- A small program whose Function has a quiet parameter: it is given a variable, and what the Function gives as a temporary.
use Rattle.std.proofs.Common.{◌≡◌, refl, ℕ, pos, true, false, List, [], ◌∷◌, ◌++◌, codes, Some, None}
use Rattle.std.specs.Fmt.{digits}
use Rattle.vb_tree.specs.BoundTree.{long, nothing}
use Rattle.vb_tree.specs.declared.declared.Owner.TheVariants as owner
use Rattle.vb_tree.specs.declared.declared.ProcKind.TheVariants as kind
use Rattle.vb_tree.specs.declared.expression.BinOp.TheVariants as b
use Rattle.vb_tree.specs.declared.form_parts.VarWord.TheVariants as var_word
use Rattle.vb_tree.specs.declared.project.ProjectKind.TheVariants.{Exe}
use Rattle.vb_tree.specs.declared.value.Value6.TheVariants as v
use Rattle.vb_tree.specs.Tree.{Form}
use Rattle.vb_tree.specs.Tree as source
use Rattle.bound_tree.specs.declared.body.Mention.{Mention}
use Rattle.bound_tree.specs.declared.body.Mention.TheVariants as mention
use Rattle.bound_tree.specs.declared.expression.Origin.TheVariants.{Literal}
use Rattle.bound_tree.specs.RuleSets.{has, none, both}
use Rattle.bound_tree.specs.Tree.{Expr, typed, constant, variable, binary, call, no_object, by_value, by_reference, Argument, no_passed, next_passed, Line, Program}
use Rattle.written_trees.specs.Projects.{written_project}
use Rattle.run_base.specs.Outcomes.{outputs, printed}
use Rattle.vb6_run.specs.Programs.{run_program}
use Rattle.net_run.specs.Program.{program_runs}
use Rattle.run_matches.specs.Covered.{covers_procedure}
use Rattle.run_matches.specs.Upgrades.{Upgrade, runnable_of}
use Rattle.run_matches.proofs.Samples.{any, body, declared, facts, known, line, proc_id, procedure, signature, var_id}

-- The source of Main1, a standard module:
--
--     Sub Main()
--         Dim c As Long
--         c = 2
--         c = Twice(Twice(c))
--         Debug.Print c
--     End Sub
--     Function Twice(n As Long) As Long
--         Twice = n + n
--     End Function

abbrev at : (variable : ℕ) → Expr
at k = typed long (variable (var_id k) false)

abbrev twice_of : Argument → Expr
twice_of a = typed long (call (proc_id 1) false no_object (next_passed a no_passed))

abbrev code : Form → List Expr → List Mention → Line
code f es mentions = record { source = line 1 f; bindings = record { exprs = es; rules = none; mentions = mentions } }

abbrev main_lines : List Line
main_lines =
    code (source.assign any any) (at 0 ∷ typed long (constant (v.Long (pos 2)) Literal) ∷ []) (mention.Var (var_id 0) ∷ [])
    ∷ code (source.assign any any) (at 0 ∷ twice_of (by_value (twice_of (by_reference (at 0)))) ∷ []) (mention.Var (var_id 0) ∷ [])
    ∷ code (source.debug_print [] false) (at 0 ∷ []) (mention.Var (var_id 0) ∷ [])
    ∷ []

abbrev twice_lines : List Line
twice_lines =
    code (source.assign any any) (at 2 ∷ typed long (binary b.Add (at 1) (at 1)) ∷ []) (mention.Var (var_id 1) ∷ mention.Var (var_id 2) ∷ []) ∷ []

abbrev peeking : Program
peeking = record {
  declarations = record {
    project = record {
      file = record { kind = Exe; startup = Some (3, codes "Sub Main"); entries = []; dropped = [] };
      modules =
          record {
            file = 1;
            name = codes "Main1";
            class = false;
            members =
                source.proc (line 1 (source.sub_head (signature (codes "Main"))))
                (body 1
                (source.variables var_word.Dim [] ∷ source.assign any any ∷ source.assign any any ∷ source.debug_print [] false ∷ []))
                (line 1 source.end_sub)
                ∷ source.proc (line 1 (source.function_head (signature (codes "Twice")) None)) (body 1 (source.assign any any ∷ []))
                (line 1 source.end_function)
                ∷ [];
            comments = [];
          }
          ∷ [];
    };
    names = [];
    vars =
        declared (codes "c") 1 1 (owner.Local (proc_id 0)) long
        ∷ declared (codes "n") 1 6 (owner.Reference (proc_id 1)) long
        ∷ declared (codes "Twice") 1 6 (owner.Answer (proc_id 1)) long
        ∷ [];
    consts = [];
    procs =
        procedure (codes "Main") 1 kind.Sub [] nothing None 0
        ∷ procedure (codes "Twice") 1 kind.Function (var_id 1 ∷ []) long (Some (var_id 2)) 1
        ∷ [];
    types = [];
    enums = [];
    defaults = [];
  };
  bodies = main_lines ∷ twice_lines ∷ [];
}

abbrev peeking_upgrade : Upgrade
peeking_upgrade = record { program = peeking; known = known; facts = facts; written = written_project peeking facts }

main_covered : covers_procedure peeking 0 ≡ true
main_covered = refl

twice_covered : covers_procedure peeking 1 ≡ true
twice_covered = refl

says_eight : outputs (run_program (runnable_of peeking_upgrade) 0 [] 12) ≡ printed (codes " 8 " ++ 13 ∷ 10 ∷ []) ∷ []
unfolding digits
says_eight = refl

says_eight_net : outputs (program_runs peeking_upgrade.written 12 0 []) ≡ printed (codes " 8 " ++ 13 ∷ 10 ∷ []) ∷ []
unfolding digits has none both
says_eight_net = refl
