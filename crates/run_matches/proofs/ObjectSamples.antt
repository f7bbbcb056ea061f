-- A small program over variables of a class: set, compared, given to procedures and by a Function, and asked for variables and procedures of
-- objects, one of them new and kept by a With.
use Rattle.std.proofs.Common.{◌≡◌, refl, pos, nat_eq, true, false, ℕ, List, [], ◌∷◌, ◌++◌, codes, None, Some}
use Rattle.std.specs.Fmt.{digits}
use Rattle.vb_tree.specs.BoundTree.{class, boolean, long, nothing}
use Rattle.vb_tree.specs.declared.declared.Owner.TheVariants as owner
use Rattle.vb_tree.specs.declared.declared.ProcKind.TheVariants as kind
use Rattle.vb_tree.specs.declared.expression.BinOp.TheVariants as b
use Rattle.vb_tree.specs.declared.form_parts.VarWord.TheVariants as var_word
use Rattle.vb_tree.specs.declared.project.ProjectKind.TheVariants.{Exe}
use Rattle.vb_tree.specs.declared.value.Value6.TheVariants as v
use Rattle.vb_tree.specs.Tree.{Form, Member}
use Rattle.vb_tree.specs.Tree as source
use Rattle.bound_tree.specs.declared.body.Mention.{Mention}
use Rattle.bound_tree.specs.declared.body.Mention.TheVariants as mention
use Rattle.bound_tree.specs.declared.expression.Origin.TheVariants.{Literal}
use Rattle.bound_tree.specs.declared.expression.Root.TheVariants as at
use Rattle.bound_tree.specs.RuleSets.{has, none, both}
use Rattle.bound_tree.specs.Tree.{Expr, typed, constant, variable, call, binary, convert, err_number, field, is_same, me, with_object, new_object, no_object, of_object, by_reference, by_value, no_passed, next_passed, Line, Program}
use Rattle.bound_facts.specs.Facts.{Known}
use Rattle.written_trees.specs.Projects.{written_project}
use Rattle.run_base.specs.Outcomes.{outputs, printed}
use Rattle.vb6_run.specs.Programs.{run_program}
use Rattle.net_run.specs.Program.{program_runs}
use Rattle.run_matches.specs.Covered.{covers_procedure}
use Rattle.run_matches.specs.Upgrades.{Upgrade, runnable_of}
use Rattle.run_matches.proofs.Samples.{any, body, declared, facts, known, line, proc_id, procedure, signature, var_id}

-- The source of Main1, a standard module, and of the class Counter:
--
--     Private held As Counter
--     Sub Main()
--         Dim c As Counter
--         Set c = Pick(held)
--         Call Clear(c)
--         If c Is Nothing Then
--             Debug.Print 1
--         End If
--         Set held = c
--         If held Is c Then
--             Debug.Print 2
--         End If
--         On Error Resume Next
--         Call Advance(c)
--         Debug.Print Err.Number
--         Set c = New Counter
--         Call Advance(c)
--         Debug.Print c.n
--         With c
--             .n = 8
--             Set c = Nothing
--             Debug.Print .n
--         End With
--     End Sub
--     Sub Clear(o As Counter)
--         Set o = Nothing
--     End Sub
--     Function Pick(ByVal o As Counter) As Counter
--         Set Pick = o
--     End Function
--     Sub Advance(ByVal o As Counter)
--         Set o.following = o
--         o.n = 3
--         Call o.Add(2)
--         Debug.Print o.following.Total
--     End Sub
--
--     Public n As Long
--     Public following As Counter
--     Public Sub Add(ByVal k As Long)
--         n = n + k
--         Set following = Me
--     End Sub
--     Public Function Total() As Long
--         Total = Me.n
--         Call Add(1)
--     End Function
--     Private Sub Class_Initialize()
--         n = 7
--     End Sub

abbrev object : (variable : ℕ) → Expr
object k = typed (class 0) (variable (var_id k) false)

abbrev number : ℕ → Expr
number k = typed long (constant (v.Long (pos k)) Literal)

abbrev nothing_itself : Expr
nothing_itself = typed nothing (constant v.Nothing Literal)

abbrev mentions : List Mention
mentions = mention.Var (var_id 0) ∷ mention.Var (var_id 1) ∷ mention.Var (var_id 2) ∷ mention.Var (var_id 3) ∷ mention.Var (var_id 4) ∷ mention.Var (var_id 5)
    ∷ mention.Var (var_id 6) ∷ mention.Var (var_id 7) ∷ mention.Var (var_id 8) ∷ mention.Var (var_id 9) ∷ []

abbrev code_in : (file : ℕ) → Form → List Expr → Line
code_in file f es = record { source = line file f; bindings = record { exprs = es; rules = none; mentions = mentions } }

abbrev code : Form → List Expr → Line
code f es = code_in 1 f es

abbrev set : Form
set = source.set any any

abbrev n_of : Expr → Expr
n_of e = typed long (field e 0)

abbrev kept : Expr
kept = typed (class 0) (with_object (at.Variable (var_id 1)))

abbrev main_lines : List Line
main_lines =
    code set (object 1 ∷ typed (class 0) (call (proc_id 2) false no_object (next_passed (by_value (object 0)) no_passed)) ∷ [])
    ∷ code (source.call any) (typed nothing (call (proc_id 1) false no_object (next_passed (by_reference (object 1)) no_passed)) ∷ [])
    ∷ code (source.if_head any) (typed boolean (is_same (object 1) nothing_itself) ∷ [])
    ∷ code (source.debug_print [] false) (number 1 ∷ [])
    ∷ code source.end_if []
    ∷ code set (object 0 ∷ object 1 ∷ [])
    ∷ code (source.if_head any) (typed boolean (is_same (object 0) (object 1)) ∷ [])
    ∷ code (source.debug_print [] false) (number 2 ∷ [])
    ∷ code source.end_if []
    ∷ code source.on_error_resume_next []
    ∷ code (source.call any) (typed nothing (call (proc_id 3) false no_object (next_passed (by_value (object 1)) no_passed)) ∷ [])
    ∷ code (source.debug_print [] false) (typed long err_number ∷ [])
    ∷ code set (object 1 ∷ typed (class 0) (new_object (record { 0 = 0 })) ∷ [])
    ∷ code (source.call any) (typed nothing (call (proc_id 3) false no_object (next_passed (by_value (object 1)) no_passed)) ∷ [])
    ∷ code (source.debug_print [] false) (n_of (object 1) ∷ [])
    ∷ code (source.with_head any) (object 1 ∷ [])
    ∷ code (source.assign any any) (n_of kept ∷ number 8 ∷ [])
    ∷ code set (object 1 ∷ typed (class 0) (convert (class 0) nothing_itself) ∷ [])
    ∷ code (source.debug_print [] false) (n_of kept ∷ [])
    ∷ code source.end_with []
    ∷ []

abbrev clear_lines : List Line
clear_lines = code set (object 2 ∷ typed (class 0) (convert (class 0) nothing_itself) ∷ []) ∷ []

abbrev pick_lines : List Line
pick_lines = code set (object 4 ∷ object 3 ∷ []) ∷ []

abbrev following : Expr → Expr
following e = typed (class 0) (field e 1)

abbrev advance_lines : List Line
advance_lines =
    code set (following (object 7) ∷ object 7 ∷ [])
    ∷ code (source.assign any any) (n_of (object 7) ∷ number 3 ∷ [])
    ∷ code (source.call any) (typed nothing (call (proc_id 4) false (of_object (object 7)) (next_passed (by_value (number 2)) no_passed)) ∷ [])
    ∷ code (source.debug_print [] false) (typed long (call (proc_id 5) false (of_object (following (object 7))) no_passed) ∷ [])
    ∷ []

abbrev of : ℕ → Expr
of k = typed long (variable (var_id k) false)

abbrev self : Expr
self = typed (class 0) me

abbrev add_lines : List Line
add_lines = code_in 2 (source.assign any any) (of 5 ∷ typed long (binary b.Add (of 5) (of 8)) ∷ []) ∷ code_in 2 set (object 6 ∷ self ∷ []) ∷ []

abbrev total_lines : List Line
total_lines =
    code_in 2 (source.assign any any) (of 9 ∷ n_of self ∷ [])
    ∷ code_in 2 (source.call any) (typed nothing (call (proc_id 4) false no_object (next_passed (by_value (number 1)) no_passed)) ∷ [])
    ∷ []

abbrev initialize_lines : List Line
initialize_lines = code_in 2 (source.assign any any) (of 5 ∷ number 7 ∷ []) ∷ []

abbrev sub_in : (file : ℕ) → (name : List ℕ) → List Form → Member
sub_in file name forms = source.proc (line file (source.sub_head (signature name))) (body file forms) (line file source.end_sub)

abbrev sub : (name : List ℕ) → List Form → Member
sub name forms = sub_in 1 name forms

abbrev objects : Program
objects = record {
  declarations = record {
    project = record {
      file = record { kind = Exe; startup = Some (3, codes "Sub Main"); entries = []; dropped = [] };
      modules =
          record {
            file = 1;
            name = codes "Main1";
            class = false;
            members =
                source.alone (line 1 (source.variables var_word.Private []))
                ∷ sub (codes "Main")
                (source.variables var_word.Dim [] ∷ set ∷ source.call any ∷ source.if_head any ∷ source.debug_print [] false ∷ source.end_if ∷ set
                ∷ source.if_head any ∷ source.debug_print [] false ∷ source.end_if ∷ source.on_error_resume_next ∷ source.call any
                ∷ source.debug_print [] false ∷ set ∷ source.call any ∷ source.debug_print [] false ∷ source.with_head any ∷ source.assign any any ∷ set
                ∷ source.debug_print [] false ∷ source.end_with ∷ [])
                ∷ sub (codes "Clear") (set ∷ [])
                ∷ source.proc (line 1 (source.function_head (signature (codes "Pick")) None)) (body 1 (set ∷ [])) (line 1 source.end_function)
                ∷ sub (codes "Advance") (set ∷ source.assign any any ∷ source.call any ∷ source.debug_print [] false ∷ [])
                ∷ [];
            comments = [];
          }
          ∷ record {
            file = 2;
            name = codes "Counter";
            class = true;
            members =
                source.alone (line 2 (source.variables var_word.Public []))
                ∷ source.alone (line 2 (source.variables var_word.Public []))
                ∷ sub_in 2 (codes "Add") (source.assign any any ∷ set ∷ [])
                ∷ source.proc (line 2 (source.function_head (signature (codes "Total")) None)) (body 2 (source.assign any any ∷ source.call any ∷ []))
                (line 2 source.end_function)
                ∷ sub_in 2 (codes "Class_Initialize") (source.assign any any ∷ [])
                ∷ [];
            comments = [];
          }
          ∷ [];
    };
    names = [];
    vars =
        declared (codes "held") 1 0 (owner.Module 1) (class 0)
        ∷ declared (codes "c") 1 2 (owner.Local (proc_id 0)) (class 0)
        ∷ declared (codes "o") 1 23 (owner.Reference (proc_id 1)) (class 0)
        ∷ declared (codes "o") 1 26 (owner.Value (proc_id 2)) (class 0)
        ∷ declared (codes "Pick") 1 26 (owner.Answer (proc_id 2)) (class 0)
        ∷ declared (codes "n") 2 0 (owner.Module 2) long
        ∷ declared (codes "following") 2 1 (owner.Module 2) (class 0)
        ∷ declared (codes "o") 1 29 (owner.Value (proc_id 3)) (class 0)
        ∷ declared (codes "k") 2 2 (owner.Value (proc_id 4)) long
        ∷ declared (codes "Total") 2 6 (owner.Answer (proc_id 5)) long
        ∷ [];
    consts = [];
    procs =
        procedure (codes "Main") 1 kind.Sub [] nothing None 0
        ∷ procedure (codes "Clear") 1 kind.Sub (var_id 2 ∷ []) nothing None 1
        ∷ procedure (codes "Pick") 1 kind.Function (var_id 3 ∷ []) (class 0) (Some (var_id 4)) 2
        ∷ procedure (codes "Advance") 1 kind.Sub (var_id 7 ∷ []) nothing None 3
        ∷ procedure (codes "Add") 2 kind.Sub (var_id 8 ∷ []) nothing None 4
        ∷ procedure (codes "Total") 2 kind.Function [] long (Some (var_id 9)) 5
        ∷ procedure (codes "Class_Initialize") 2 kind.Sub [] nothing None 6
        ∷ [];
    types = [];
    enums = [];
    defaults = [];
  };
  bodies = main_lines ∷ clear_lines ∷ pick_lines ∷ advance_lines ∷ add_lines ∷ total_lines ∷ initialize_lines ∷ [];
}

-- the reference parameter of Clear is touched
abbrev object_known : Known
object_known = record known { touched = λ v. nat_eq v 2 }

abbrev object_upgrade : Upgrade
object_upgrade = record { program = objects; known = object_known; facts = facts; written = written_project objects facts }

main_covered : covers_procedure objects 0 ≡ true
main_covered = refl

clear_covered : covers_procedure objects 1 ≡ true
clear_covered = refl

pick_covered : covers_procedure objects 2 ≡ true
pick_covered = refl

advance_covered : covers_procedure objects 3 ≡ true
advance_covered = refl

add_covered : covers_procedure objects 4 ≡ true
add_covered = refl

total_covered : covers_procedure objects 5 ≡ true
total_covered = refl

initialize_covered : covers_procedure objects 6 ≡ true
initialize_covered = refl

abbrev texts : List ℕ → List ℕ
texts s = s ++ 13 ∷ 10 ∷ []

says_objects : outputs (run_program (runnable_of object_upgrade) 0 [] 80) ≡ printed (texts (codes " 1 ")) ∷ printed (texts (codes " 2 ")) ∷ printed (texts (codes " 91 ")) ∷ printed (texts (codes " 5 ")) ∷ printed (texts (codes " 6 ")) ∷ printed (texts (codes " 8 ")) ∷ []
unfolding digits
says_objects = refl

says_objects_net : outputs (program_runs object_upgrade.written 80 0 []) ≡ printed (texts (codes " 1 ")) ∷ printed (texts (codes " 2 ")) ∷ printed (texts (codes " 91 ")) ∷ printed (texts (codes " 5 ")) ∷ printed (texts (codes " 6 ")) ∷ printed (texts (codes " 8 ")) ∷ []
unfolding digits has none both
says_objects_net = refl
