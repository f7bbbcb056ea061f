-- Properties with an index parameter: one is assigned and read with values, the other is read with a variable by reference.
use Rattle.std.proofs.Common.{◌≡◌, refl, ℕ, pos, true, false, List, [], ◌∷◌, ◌++◌, map, codes, Some, None}
use Rattle.std.specs.Fmt.{digits}
use Rattle.std.specs.Prelude.{◌&&◌, nat_lt}
use Rattle.vb_tree.specs.BoundTree.{long, nothing}
use Rattle.vb_tree.specs.declared.declared.Owner.TheVariants as owner
use Rattle.vb_tree.specs.declared.declared.ProcKind.TheVariants as kind
use Rattle.vb_tree.specs.declared.expression.BinOp.TheVariants as b
use Rattle.vb_tree.specs.declared.form_parts.VarWord.TheVariants as var_word
use Rattle.vb_tree.specs.declared.project.ProjectKind.TheVariants.{Exe}
use Rattle.vb_tree.specs.declared.value.Value6.TheVariants as v
use Rattle.vb_tree.specs.Tree.{Form}
use Rattle.vb_tree.specs.Tree as source
use Rattle.bound_tree.specs.declared.body.Mention.TheVariants as mention
use Rattle.bound_tree.specs.declared.expression.Origin.TheVariants.{Literal}
use Rattle.bound_tree.specs.RuleSets.{has, none, both}
use Rattle.bound_tree.specs.Tree.{Expr, typed, constant, variable, binary, call, no_object, Argument, by_value, by_reference, no_passed, next_passed, Line, Program}
use Rattle.bound_facts.specs.Calls.{count_procedures, count_variables}
use Rattle.bound_facts.specs.Effects.{outward, touched}
use Rattle.bound_facts.specs.Facts.{Known}
use Rattle.bound_facts.specs.Leading.{is_in}
use Rattle.written_trees.specs.Projects.{written_project}
use Rattle.run_base.specs.Outcomes.{outputs, printed}
use Rattle.vb6_run.specs.Programs.{run_program}
use Rattle.net_run.specs.Program.{program_runs}
use Rattle.run_matches.specs.Covered.{covers_procedure}
use Rattle.run_matches.specs.Upgrades.{Upgrade, runnable_of}
use Rattle.run_matches.proofs.Samples.{any, body, declared, facts, line, proc_id, procedure, signature, var_id}

-- The source of Main1, a standard module:
--
--     Private m As Long
--     Sub Main()
--         Dim i As Long
--         i = 3
--         Scaled(i) = i + 1
--         Debug.Print Raised(i)
--     End Sub
--     Property Let Scaled(ByVal k As Long, ByVal v As Long)
--         m = v * k
--     End Property
--     Property Get Scaled(ByVal k As Long) As Long
--         Scaled = m * k
--     End Property
--     Property Get Raised(k As Long) As Long
--         Raised = Scaled(2) + k
--     End Property

abbrev of : (variable : ℕ) → Expr
of k = typed long (variable (var_id k) false)

abbrev number : ℕ → Expr
number k = typed long (constant (v.Long (pos k)) Literal)

abbrev code : Form → List Expr → Line
code f es = record {
  source = line 1 f;
  bindings = record {
    exprs = es;
    rules = none;
    mentions = map (λ (n : ℕ). mention.Var (var_id n)) (0 ∷ 1 ∷ 2 ∷ 3 ∷ 4 ∷ 5 ∷ 6 ∷ 7 ∷ []);
  };
}

abbrev assign : Form
assign = source.assign any any

abbrev at : (procedure : ℕ) → Argument → Expr
at q a = typed long (call (proc_id q) false no_object (next_passed a no_passed))

abbrev scaled : Program
scaled = record {
  declarations = record {
    project = record {
      file = record { kind = Exe; startup = Some (3, codes "Sub Main"); entries = []; dropped = [] };
      modules =
          record {
            file = 1;
            name = codes "Main1";
            class = false;
            members =
                source.alone (line 1 (source.variables var_word.Private []))
                ∷ source.proc (line 1 (source.sub_head (signature (codes "Main"))))
                (body 1 (source.variables var_word.Dim [] ∷ assign ∷ assign ∷ source.debug_print [] false ∷ []))
                (line 1 source.end_sub)
                ∷ source.proc (line 1 (source.let_head (signature (codes "Scaled")))) (body 1 (assign ∷ [])) (line 1 source.end_property)
                ∷ source.proc (line 1 (source.get_head (signature (codes "Scaled")) None)) (body 1 (assign ∷ [])) (line 1 source.end_property)
                ∷ source.proc (line 1 (source.get_head (signature (codes "Raised")) None)) (body 1 (assign ∷ [])) (line 1 source.end_property)
                ∷ [];
            comments = [];
          }
          ∷ [];
    };
    names = [];
    vars =
        declared (codes "m") 1 0 (owner.Module 1) long
        ∷ declared (codes "i") 1 2 (owner.Local (proc_id 0)) long
        ∷ declared (codes "k") 1 7 (owner.Value (proc_id 1)) long
        ∷ declared (codes "v") 1 7 (owner.Value (proc_id 1)) long
        ∷ declared (codes "k") 1 10 (owner.Value (proc_id 2)) long
        ∷ declared (codes "Scaled") 1 10 (owner.Answer (proc_id 2)) long
        ∷ declared (codes "k") 1 13 (owner.Reference (proc_id 3)) long
        ∷ declared (codes "Raised") 1 13 (owner.Answer (proc_id 3)) long
        ∷ [];
    consts = [];
    procs =
        procedure (codes "Main") 1 kind.Sub [] nothing None 0
        ∷ procedure (codes "Scaled") 1 kind.Let (var_id 2 ∷ var_id 3 ∷ []) nothing None 1
        ∷ procedure (codes "Scaled") 1 kind.Get (var_id 4 ∷ []) long (Some (var_id 5)) 1
        ∷ procedure (codes "Raised") 1 kind.Get (var_id 6 ∷ []) long (Some (var_id 7)) 3
        ∷ [];
    types = [];
    enums = [];
    defaults = [];
  };
  bodies =
      (code assign (of 1 ∷ number 3 ∷ [])
      ∷ code assign (at 1 (by_value (of 1)) ∷ typed long (binary b.Add (of 1) (number 1)) ∷ [])
      ∷ code (source.debug_print [] false) (at 3 (by_reference (of 1)) ∷ []) ∷ [])
      ∷ (code assign (of 0 ∷ typed long (binary b.Mul (of 3) (of 2)) ∷ []) ∷ [])
      ∷ (code assign (of 5 ∷ typed long (binary b.Mul (of 0) (of 4)) ∷ []) ∷ [])
      ∷ (code assign (of 7 ∷ typed long (binary b.Add (at 2 (by_value (number 2))) (of 6)) ∷ []) ∷ [])
      ∷ [];
}

abbrev scaled_known : Known
scaled_known = record {
  outward = λ p. nat_lt p (count_procedures scaled) && is_in (outward scaled) p;
  touched = λ a. nat_lt a (count_variables scaled) && is_in (touched scaled) a;
  resized = λ a. false;
  unplain = λ p. true;
}

abbrev scaled_upgrade : Upgrade
scaled_upgrade = record { program = scaled; known = scaled_known; facts = facts; written = written_project scaled facts }

main_covered : covers_procedure scaled 0 ≡ true
main_covered = refl

let_covered : covers_procedure scaled 1 ≡ true
let_covered = refl

get_covered : covers_procedure scaled 2 ≡ true
get_covered = refl

raised_covered : covers_procedure scaled 3 ≡ true
raised_covered = refl

says_it : outputs (run_program (runnable_of scaled_upgrade) 0 [] 20) ≡ printed (codes " 27 " ++ 13 ∷ 10 ∷ []) ∷ []
unfolding digits
says_it = refl

says_it_net : outputs (program_runs scaled_upgrade.written 20 0 []) ≡ printed (codes " 27 " ++ 13 ∷ 10 ∷ []) ∷ []
unfolding digits has none both
says_it_net = refl
