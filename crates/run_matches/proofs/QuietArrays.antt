-- A Function that reads an array that is given by reference: the array is a quiet parameter, which is bound to it on both sides.
use Rattle.std.proofs.Common.{◌≡◌, refl, ℕ, pos, true, false, List, [], ◌∷◌, ◌++◌, codes, Some, None}
use Rattle.std.specs.Fmt.{digits}
use Rattle.vb_tree.specs.BoundTree.{array, long, nothing}
use Rattle.vb_tree.specs.declared.declared.Owner.TheVariants as owner
use Rattle.vb_tree.specs.declared.declared.ProcKind.TheVariants as kind
use Rattle.vb_tree.specs.declared.expression.BinOp.TheVariants as b
use Rattle.vb_tree.specs.declared.form_parts.VarWord.TheVariants as var_word
use Rattle.vb_tree.specs.declared.project.ProjectKind.TheVariants.{Exe}
use Rattle.vb_tree.specs.declared.value.Value6.TheVariants as v
use Rattle.vb_tree.specs.Tree.{Form}
use Rattle.vb_tree.specs.Tree as source
use Rattle.bound_tree.specs.declared.body.Mention.TheVariants as mention
use Rattle.bound_tree.specs.declared.expression.Origin.TheVariants.{Literal}
use Rattle.bound_tree.specs.RuleSets.{has, none, both}
use Rattle.bound_tree.specs.Tree.{Expr, typed, constant, variable, element, binary, call, no_object, by_reference, by_value, no_exprs, next_expr, no_passed, next_passed, Argument, Line, Program}
use Rattle.bound_facts.specs.Facts.{is_quiet}
use Rattle.written_trees.specs.Projects.{written_project}
use Rattle.run_base.specs.Outcomes.{outputs, printed}
use Rattle.vb6_run.specs.Programs.{run_program}
use Rattle.net_run.specs.Program.{program_runs}
use Rattle.run_matches.specs.Covered.{covers_procedure, hands}
use Rattle.run_matches.specs.Upgrades.{Upgrade, runnable_of}
use Rattle.run_matches.proofs.Samples.{any, body, declared, facts, known, line, proc_id, procedure, signature, var_id}

-- The source of Main1, a standard module:
--
--     Private items(1) As Long
--     Sub Main()
--         items(0) = 3
--         items(1) = 4
--         Debug.Print Total(items)
--     End Sub
--     Function Total(n() As Long) As Long
--         Total = n(0) + n(1)
--     End Function

abbrev whole : (rank variable : ℕ) → Expr
whole rank k = typed (array long rank) (variable (var_id k) false)

abbrev at : (rank variable index : ℕ) → Expr
at rank k i = typed long (element (whole rank k) (next_expr (typed long (constant (v.Long (pos i)) Literal)) no_exprs))

abbrev number : ℕ → Expr
number k = typed long (constant (v.Long (pos k)) Literal)

abbrev code : Form → List Expr → Line
code f es = record {
  source = line 1 f;
  bindings = record { exprs = es; rules = none; mentions = mention.Var (var_id 0) ∷ mention.Var (var_id 1) ∷ mention.Var (var_id 2) ∷ [] };
}

abbrev assign : Form
assign = source.assign any any

abbrev total_of : Argument → Expr
total_of a = typed long (call (proc_id 1) false no_object (next_passed a no_passed))

abbrev totals : Program
totals = record {
  declarations = record {
    project = record {
      file = record { kind = Exe; startup = Some (3, codes "Sub Main"); entries = []; dropped = [] };
      modules =
          record {
            file = 1;
            name = codes "Main1";
            class = false;
            members =
                source.alone (line 1 (source.variables var_word.Private []))
                ∷ source.proc (line 1 (source.sub_head (signature (codes "Main")))) (body 1 (assign ∷ assign ∷ source.debug_print [] false ∷ []))
                (line 1 source.end_sub)
                ∷ source.proc (line 1 (source.function_head (signature (codes "Total")) None)) (body 1 (assign ∷ []))
                (line 1 source.end_function)
                ∷ [];
            comments = [];
          }
          ∷ [];
    };
    names = [];
    vars =
        record (declared (codes "items") 1 0 (owner.Module 1) (array long 1)) { bounds = (pos 0, pos 1) ∷ [] }
        ∷ declared (codes "n") 1 6 (owner.Reference (proc_id 1)) (array long 0)
        ∷ declared (codes "Total") 1 6 (owner.Answer (proc_id 1)) long
        ∷ [];
    consts = [];
    procs =
        procedure (codes "Main") 1 kind.Sub [] nothing None 0
        ∷ procedure (codes "Total") 1 kind.Function (var_id 1 ∷ []) long (Some (var_id 2)) 1
        ∷ [];
    types = [];
    enums = [];
    defaults = [];
  };
  bodies =
      (code assign (at 1 0 0 ∷ number 3 ∷ []) ∷ code assign (at 1 0 1 ∷ number 4 ∷ [])
      ∷ code (source.debug_print [] false) (total_of (by_reference (whole 1 0)) ∷ []) ∷ [])
      ∷ (code assign (typed long (variable (var_id 2) false) ∷ typed long (binary b.Add (at 0 1 0) (at 0 1 1)) ∷ []) ∷ [])
      ∷ [];
}

abbrev totals_upgrade : Upgrade
totals_upgrade = record { program = totals; known = known; facts = facts; written = written_project totals facts }

n_is_quiet : is_quiet totals.declarations known 1 ≡ true
n_is_quiet = refl

main_covered : covers_procedure totals 0 ≡ true
main_covered = refl

total_covered : covers_procedure totals 1 ≡ true
total_covered = refl

-- a value doesn't go to it
no_value : hands totals (total_of (by_value (whole 1 0))) ≡ false
no_value = refl

says_seven : outputs (run_program (runnable_of totals_upgrade) 0 [] 12) ≡ printed (codes " 7 " ++ 13 ∷ 10 ∷ []) ∷ []
unfolding digits
says_seven = refl

says_seven_net : outputs (program_runs totals_upgrade.written 12 0 []) ≡ printed (codes " 7 " ++ 13 ∷ 10 ∷ []) ∷ []
unfolding digits has none both
says_seven_net = refl
