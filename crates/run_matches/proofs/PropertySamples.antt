-- A small program over properties of a standard module and of a class: read, stored and set, by their names and for objects.
use Rattle.std.proofs.Common.{◌≡◌, refl, pos, nat_eq, true, false, ℕ, List, [], ◌∷◌, ◌++◌, codes, None, Some}
use Rattle.std.specs.Fmt.{digits}
use Rattle.vb_tree.specs.BoundTree.{class, boolean, long, nothing}
use Rattle.vb_tree.specs.declared.declared.Owner.TheVariants as owner
use Rattle.vb_tree.specs.declared.declared.ProcKind.TheVariants as kind
use Rattle.vb_tree.specs.declared.expression.BinOp.TheVariants as b
use Rattle.vb_tree.specs.declared.form_parts.VarWord.TheVariants as var_word
use Rattle.vb_tree.specs.declared.project.ProjectKind.TheVariants.{Exe}
use Rattle.vb_tree.specs.declared.value.Value6.TheVariants as v
use Rattle.vb_tree.specs.Tree.{Form, Member}
use Rattle.vb_tree.specs.Tree as source
use Rattle.bound_tree.specs.declared.body.Mention.{Mention}
use Rattle.bound_tree.specs.declared.body.Mention.TheVariants as mention
use Rattle.bound_tree.specs.declared.expression.Origin.TheVariants.{Literal}
use Rattle.bound_tree.specs.declared.expression.Root.TheVariants as at
use Rattle.bound_tree.specs.RuleSets.{has, none, both}
use Rattle.bound_tree.specs.Tree.{Expr, typed, constant, variable, call, binary, convert, err_number, is_same, new_object, no_object, of_object, no_passed, with_object, Line, Program}
use Rattle.bound_facts.specs.Facts.{Known}
use Rattle.written_trees.specs.Projects.{written_project}
use Rattle.run_base.specs.Outcomes.{outputs, printed}
use Rattle.vb6_run.specs.Programs.{run_program}
use Rattle.net_run.specs.Program.{program_runs}
use Rattle.run_matches.specs.Covered.{covers_procedure}
use Rattle.run_matches.specs.Upgrades.{Upgrade, runnable_of}
use Rattle.run_matches.proofs.Samples.{any, body, declared, facts, known, line, proc_id, procedure, signature, var_id}

-- The source of Main1, a standard module, and of Counter, a class:
--
--     Private m As Long
--     Sub Main()
--         Dim c As Counter
--         Set c = New Counter
--         Level = 4
--         c.Total = Level + 1
--         Debug.Print c.Total
--         Set c.Peer = c
--         If c.Peer Is c Then
--             Debug.Print 6
--         End If
--         Debug.Print c.Peer.Total
--         c.Peer.Peer.Total = 9
--         With c.Peer
--             Debug.Print .Total
--         End With
--         On Error Resume Next
--         Set c = Nothing
--         c.Total = 1
--         Debug.Print Err.Number
--     End Sub
--     Property Get Level() As Long
--         Level = m
--     End Property
--     Property Let Level(ByVal k As Long)
--         m = k
--     End Property
--
--     Private n As Long
--     Private other As Counter
--     Property Let Total(k As Long)
--         n = k
--     End Property
--     Property Get Total() As Long
--         Total = n
--     End Property
--     Property Set Peer(ByVal o As Counter)
--         Set other = o
--     End Property
--     Property Get Peer() As Counter
--         Set Peer = other
--     End Property

abbrev object : (variable : ℕ) → Expr
object k = typed (class 0) (variable (var_id k) false)

abbrev of : (variable : ℕ) → Expr
of k = typed long (variable (var_id k) false)

abbrev number : ℕ → Expr
number k = typed long (constant (v.Long (pos k)) Literal)

abbrev level : (part : ℕ) → Expr
level p = typed long (call (proc_id p) false no_object no_passed)

abbrev total_of : (part : ℕ) → Expr → Expr
total_of p e = typed long (call (proc_id p) false (of_object e) no_passed)

abbrev total : (part : ℕ) → Expr
total p = total_of p (object 1)

abbrev peer_of : (part : ℕ) → Expr → Expr
peer_of p e = typed (class 0) (call (proc_id p) false (of_object e) no_passed)

abbrev peer : (part : ℕ) → Expr
peer p = peer_of p (object 1)

abbrev kept : Expr
kept = typed (class 0) (with_object at.Temporary)

abbrev mentions : List Mention
mentions = mention.Var (var_id 0) ∷ mention.Var (var_id 1) ∷ mention.Var (var_id 2) ∷ mention.Var (var_id 3) ∷ mention.Var (var_id 4) ∷ mention.Var (var_id 5)
    ∷ mention.Var (var_id 6) ∷ mention.Var (var_id 7) ∷ mention.Var (var_id 8) ∷ mention.Var (var_id 9) ∷ []

abbrev code_in : (file : ℕ) → Form → List Expr → Line
code_in file f es = record { source = line file f; bindings = record { exprs = es; rules = none; mentions = mentions } }

abbrev code : Form → List Expr → Line
code f es = code_in 1 f es

abbrev set : Form
set = source.set any any

abbrev assign : Form
assign = source.assign any any

abbrev print : Form
print = source.debug_print [] false

abbrev main_lines : List Line
main_lines =
    code set (object 1 ∷ typed (class 0) (new_object (record { 0 = 0 })) ∷ [])
    ∷ code assign (level 2 ∷ number 4 ∷ [])
    ∷ code assign (total 3 ∷ typed long (binary b.Add (level 1) (number 1)) ∷ [])
    ∷ code print (total 4 ∷ [])
    ∷ code set (peer 5 ∷ object 1 ∷ [])
    ∷ code (source.if_head any) (typed boolean (is_same (peer 6) (object 1)) ∷ [])
    ∷ code print (number 6 ∷ [])
    ∷ code source.end_if []
    ∷ code print (total_of 4 (peer 6) ∷ [])
    ∷ code assign (total_of 3 (peer_of 6 (peer 6)) ∷ number 9 ∷ [])
    ∷ code (source.with_head any) (peer 6 ∷ [])
    ∷ code print (total_of 4 kept ∷ [])
    ∷ code source.end_with []
    ∷ code source.on_error_resume_next []
    ∷ code set (object 1 ∷ typed (class 0) (convert (class 0) (typed nothing (constant v.Nothing Literal))) ∷ [])
    ∷ code assign (total 3 ∷ number 1 ∷ [])
    ∷ code print (typed long err_number ∷ [])
    ∷ []

abbrev get_level : List Line
get_level = code assign (of 2 ∷ of 0 ∷ []) ∷ []

abbrev let_level : List Line
let_level = code assign (of 0 ∷ of 3 ∷ []) ∷ []

abbrev let_total : List Line
let_total = code_in 2 assign (of 4 ∷ of 6 ∷ []) ∷ []

abbrev get_total : List Line
get_total = code_in 2 assign (of 7 ∷ of 4 ∷ []) ∷ []

abbrev set_peer : List Line
set_peer = code_in 2 set (object 5 ∷ object 8 ∷ []) ∷ []

abbrev get_peer : List Line
get_peer = code_in 2 set (object 9 ∷ object 5 ∷ []) ∷ []

abbrev getter : (file : ℕ) → (name : List ℕ) → Form → Member
getter file name form = source.proc (line file (source.get_head (signature name) None)) (body file (form ∷ [])) (line file source.end_property)

abbrev letter : (file : ℕ) → (name : List ℕ) → Member
letter file name = source.proc (line file (source.let_head (signature name))) (body file (assign ∷ [])) (line file source.end_property)

abbrev properties : Program
properties = record {
  declarations = record {
    project = record {
      file = record { kind = Exe; startup = Some (3, codes "Sub Main"); entries = []; dropped = [] };
      modules =
          record {
            file = 1;
            name = codes "Main1";
            class = false;
            members =
                source.alone (line 1 (source.variables var_word.Private []))
                ∷ source.proc (line 1 (source.sub_head (signature (codes "Main"))))
                (body 1
                (source.variables var_word.Dim [] ∷ set ∷ assign ∷ assign ∷ print ∷ set ∷ source.if_head any ∷ print ∷ source.end_if
                ∷ print ∷ assign ∷ source.with_head any ∷ print ∷ source.end_with ∷ source.on_error_resume_next ∷ set ∷ assign ∷ print ∷ []))
                (line 1 source.end_sub)
                ∷ getter 1 (codes "Level") assign
                ∷ letter 1 (codes "Level")
                ∷ [];
            comments = [];
          }
          ∷ record {
            file = 2;
            name = codes "Counter";
            class = true;
            members =
                source.alone (line 2 (source.variables var_word.Private []))
                ∷ source.alone (line 2 (source.variables var_word.Private []))
                ∷ letter 2 (codes "Total")
                ∷ getter 2 (codes "Total") assign
                ∷ source.proc (line 2 (source.set_head (signature (codes "Peer")))) (body 2 (set ∷ [])) (line 2 source.end_property)
                ∷ getter 2 (codes "Peer") set
                ∷ [];
            comments = [];
          }
          ∷ [];
    };
    names = [];
    vars =
        declared (codes "m") 1 0 (owner.Module 1) long
        ∷ declared (codes "c") 1 2 (owner.Local (proc_id 0)) (class 0)
        ∷ declared (codes "Level") 1 21 (owner.Answer (proc_id 1)) long
        ∷ declared (codes "k") 1 24 (owner.Value (proc_id 2)) long
        ∷ declared (codes "n") 2 0 (owner.Module 2) long
        ∷ declared (codes "other") 2 1 (owner.Module 2) (class 0)
        ∷ declared (codes "k") 2 2 (owner.Reference (proc_id 3)) long
        ∷ declared (codes "Total") 2 5 (owner.Answer (proc_id 4)) long
        ∷ declared (codes "o") 2 8 (owner.Value (proc_id 5)) (class 0)
        ∷ declared (codes "Peer") 2 11 (owner.Answer (proc_id 6)) (class 0)
        ∷ [];
    consts = [];
    procs =
        procedure (codes "Main") 1 kind.Sub [] nothing None 0
        ∷ procedure (codes "Level") 1 kind.Get [] long (Some (var_id 2)) 1
        ∷ procedure (codes "Level") 1 kind.Let (var_id 3 ∷ []) nothing None 1
        ∷ procedure (codes "Total") 2 kind.Let (var_id 6 ∷ []) nothing None 3
        ∷ procedure (codes "Total") 2 kind.Get [] long (Some (var_id 7)) 3
        ∷ procedure (codes "Peer") 2 kind.Set (var_id 8 ∷ []) nothing None 5
        ∷ procedure (codes "Peer") 2 kind.Get [] (class 0) (Some (var_id 9)) 5
        ∷ [];
    types = [];
    enums = [];
    defaults = [];
  };
  bodies = main_lines ∷ get_level ∷ let_level ∷ let_total ∷ get_total ∷ set_peer ∷ get_peer ∷ [];
}

-- the reference parameter of Total is touched
abbrev property_known : Known
property_known = record known { touched = λ v. nat_eq v 6 }

abbrev property_upgrade : Upgrade
property_upgrade = record { program = properties; known = property_known; facts = facts; written = written_project properties facts }

main_covered : covers_procedure properties 0 ≡ true
main_covered = refl

get_level_covered : covers_procedure properties 1 ≡ true
get_level_covered = refl

let_level_covered : covers_procedure properties 2 ≡ true
let_level_covered = refl

let_total_covered : covers_procedure properties 3 ≡ true
let_total_covered = refl

get_total_covered : covers_procedure properties 4 ≡ true
get_total_covered = refl

set_peer_covered : covers_procedure properties 5 ≡ true
set_peer_covered = refl

get_peer_covered : covers_procedure properties 6 ≡ true
get_peer_covered = refl

abbrev texts : List ℕ → List ℕ
texts s = s ++ 13 ∷ 10 ∷ []

says : outputs (run_program (runnable_of property_upgrade) 0 [] 120) ≡ printed (texts (codes " 5 ")) ∷ printed (texts (codes " 6 ")) ∷ printed (texts (codes " 5 ")) ∷ printed (texts (codes " 9 ")) ∷ printed (texts (codes " 91 ")) ∷ []
unfolding digits
says = refl

says_net : outputs (program_runs property_upgrade.written 120 0 []) ≡ printed (texts (codes " 5 ")) ∷ printed (texts (codes " 6 ")) ∷ printed (texts (codes " 5 ")) ∷ printed (texts (codes " 9 ")) ∷ printed (texts (codes " 91 ")) ∷ []
unfolding digits has none both
says_net = refl
