-- A small program over arrays: one of the module with lower bound 1, and a dynamic one that is made anew, given by reference and erased.
use Rattle.std.proofs.Common.{◌≡◌, refl, ℕ, pos, nat_eq, cond, true, false, List, [], ◌∷◌, ◌++◌, codes, Some, None}
use Rattle.std.specs.Fmt.{digits}
use Rattle.vb_tree.specs.BoundTree.{array, long, nothing}
use Rattle.vb_tree.specs.declared.bound.LibCall.TheVariants as lib
use Rattle.vb_tree.specs.declared.declared.Owner.TheVariants as owner
use Rattle.vb_tree.specs.declared.declared.ProcKind.TheVariants as kind
use Rattle.vb_tree.specs.declared.expression.BinOp.TheVariants as b
use Rattle.vb_tree.specs.declared.form_parts.VarWord.TheVariants as var_word
use Rattle.vb_tree.specs.declared.project.ProjectKind.TheVariants.{Exe}
use Rattle.vb_tree.specs.declared.value.Value6.TheVariants as v
use Rattle.vb_tree.specs.Tree.{Form}
use Rattle.vb_tree.specs.Tree as source
use Rattle.bound_tree.specs.declared.body.Mention.TheVariants as mention
use Rattle.bound_tree.specs.declared.expression.Origin.TheVariants.{Literal}
use Rattle.bound_tree.specs.RuleSets.{has, none, both}
use Rattle.bound_tree.specs.Tree.{Expr, typed, constant, variable, element, binary, call, library, no_object, by_reference, no_exprs, next_expr, no_passed, next_passed, Line, Program}
use Rattle.bound_facts.specs.Facts.{Known}
use Rattle.written_trees.specs.Facts.{Facts}
use Rattle.written_trees.specs.Projects.{written_project}
use Rattle.run_base.specs.Outcomes.{outputs, printed}
use Rattle.vb6_run.specs.Programs.{run_program}
use Rattle.net_run.specs.Program.{program_runs}
use Rattle.run_matches.specs.Covered.{covers_procedure}
use Rattle.run_matches.specs.Upgrades.{Upgrade, runnable_of}
use Rattle.run_matches.proofs.Samples.{any, body, declared, facts, known, line, proc_id, procedure, signature, var_id}

-- The source of Main1, a standard module:
--
--     Private total(1 To 3) As Long
--     Sub Main()
--         Dim b() As Long, i As Long
--         ReDim b(2)
--         b(i) = i + 1
--         i = UBound(b)
--         b(i) = b(0) + total(3)
--         total(1) = b(i)
--         Call Add(b)
--         Debug.Print total(1); b(0)
--         Erase b
--     End Sub
--     Sub Add(n() As Long)
--         n(0) = n(0) + 1
--     End Sub

abbrev the : (variable : ℕ) → Expr
the k = typed long (variable (var_id k) false)

abbrev number : ℕ → Expr
number k = typed long (constant (v.Long (pos k)) Literal)

-- a variable that is an array of Longs, of a rank if it is fixed
abbrev whole : (rank variable : ℕ) → Expr
whole rank k = typed (array long rank) (variable (var_id k) false)

abbrev at : (rank variable : ℕ) → (index : Expr) → Expr
at rank k i = typed long (element (whole rank k) (next_expr i no_exprs))

abbrev plus : Expr → Expr → Expr
plus d e = typed long (binary b.Add d e)

abbrev code : Form → List Expr → Line
code f es = record {
  source = line 1 f;
  bindings = record {
    exprs = es;
    rules = none;
    mentions = mention.Var (var_id 0) ∷ mention.Var (var_id 1) ∷ mention.Var (var_id 2) ∷ mention.Var (var_id 3) ∷ [];
  };
}

abbrev redim : Form
redim = source.redim false (record { array = any; bounds = record { lower = None; upper = any } ∷ []; ty = None } ∷ [])

abbrev assign : Form
assign = source.assign any any

abbrev main_lines : List Line
main_lines =
    code redim (whole 0 1 ∷ number 2 ∷ [])
    ∷ code assign (at 0 1 (the 2) ∷ plus (the 2) (number 1) ∷ [])
    ∷ code assign (the 2 ∷ typed long (library lib.UBound (next_expr (whole 0 1) no_exprs)) ∷ [])
    ∷ code assign (at 0 1 (the 2) ∷ plus (at 0 1 (number 0)) (at 1 0 (number 3)) ∷ [])
    ∷ code assign (at 1 0 (number 1) ∷ at 0 1 (the 2) ∷ [])
    ∷ code (source.call any) (typed nothing (call (proc_id 1) false no_object (next_passed (by_reference (whole 0 1)) no_passed)) ∷ [])
    ∷ code (source.debug_print [] false) (at 1 0 (number 1) ∷ at 0 1 (number 0) ∷ [])
    ∷ code (source.erase any) (whole 0 1 ∷ [])
    ∷ []

abbrev add_lines : List Line
add_lines = code assign (at 0 3 (number 0) ∷ plus (at 0 3 (number 0)) (number 1) ∷ []) ∷ []

abbrev arrays : Program
arrays = record {
  declarations = record {
    project = record {
      file = record { kind = Exe; startup = Some (3, codes "Sub Main"); entries = []; dropped = [] };
      modules =
          record {
            file = 1;
            name = codes "Main1";
            class = false;
            members =
                source.alone (line 1 (source.variables var_word.Private []))
                ∷ source.proc (line 1 (source.sub_head (signature (codes "Main"))))
                (body 1
                (source.variables var_word.Dim [] ∷ redim ∷ assign ∷ assign ∷ assign ∷ assign ∷ source.call any ∷ source.debug_print [] false
                ∷ source.erase any ∷ []))
                (line 1 source.end_sub)
                ∷ source.proc (line 1 (source.sub_head (signature (codes "Add")))) (body 1 (assign ∷ [])) (line 1 source.end_sub)
                ∷ [];
            comments = [];
          }
          ∷ [];
    };
    names = [];
    vars =
        record (declared (codes "total") 1 0 (owner.Module 1) (array long 1)) { bounds = (pos 1, pos 3) ∷ [] }
        ∷ declared (codes "b") 1 2 (owner.Local (proc_id 0)) (array long 0)
        ∷ declared (codes "i") 1 2 (owner.Local (proc_id 0)) long
        ∷ declared (codes "n") 1 12 (owner.Reference (proc_id 1)) (array long 0)
        ∷ [];
    consts = [];
    procs =
        procedure (codes "Main") 1 kind.Sub [] nothing None 0
        ∷ procedure (codes "Add") 1 kind.Sub (var_id 3 ∷ []) nothing None 1
        ∷ [];
    types = [];
    enums = [];
    defaults = [];
  };
  bodies = main_lines ∷ add_lines ∷ [];
}

-- n is touched
abbrev array_known : Known
array_known = record known { touched = λ v. nat_eq v 3 }

abbrev array_facts : Facts
array_facts = record facts { low = λ a d. cond (nat_eq a 0) (pos 1) (pos 0) }

abbrev array_upgrade : Upgrade
array_upgrade = record { program = arrays; known = array_known; facts = array_facts; written = written_project arrays array_facts }

main_covered : covers_procedure arrays 0 ≡ true
main_covered = refl

add_covered : covers_procedure arrays 1 ≡ true
add_covered = refl

says_both : outputs (run_program (runnable_of array_upgrade) 0 [] 20) ≡ printed (codes " 1  2 " ++ 13 ∷ 10 ∷ []) ∷ []
unfolding digits
says_both = refl

says_both_net : outputs (program_runs array_upgrade.written 20 0 []) ≡ printed (codes " 1  2 " ++ 13 ∷ 10 ∷ []) ∷ []
unfolding digits has none both
says_both_net = refl
