-- A second program over a class and a user type: an object that a variable of the module holds is given by value and by reference and by a
-- Function, asked for procedures, variables and properties, compared and forgotten; properties, of a number and of an object, are read and assigned
-- for objects, for Me, by their names in the class and in a With; Withs on a user type, on an object, which is kept while its variable forgets it,
-- and on a new one; an As New variable, whose uses make an object, and another one when it forgot the first; and error 91, which is handled.
use Rattle.std.specs.Prelude.{ℕ, pos, nat_lt, ◌&&◌, true, false, Some, None, List, [], ◌∷◌, codes}
use Rattle.vb_tree.specs.BoundTree.{user, class, boolean, long, nothing}
use Rattle.vb_tree.specs.declared.declared.Owner.TheVariants as owner
use Rattle.vb_tree.specs.declared.declared.ProcKind.TheVariants as kind
use Rattle.vb_tree.specs.declared.declared.TypeId.{TypeId}
use Rattle.vb_tree.specs.declared.form_parts.VarWord.TheVariants as var_word
use Rattle.vb_tree.specs.declared.form_parts.ExitKind.TheVariants as leaving
use Rattle.vb_tree.specs.declared.project.ProjectKind.TheVariants.{Exe}
use Rattle.vb_tree.specs.declared.token.Suffix.TheVariants.{Absent}
use Rattle.vb_tree.specs.declared.value.Value6.TheVariants as v
use Rattle.vb_tree.specs.Tree.{Form, Member}
use Rattle.vb_tree.specs.Tree as source
use Rattle.bound_tree.specs.declared.expression.Origin.TheVariants.{Literal}
use Rattle.bound_tree.specs.declared.expression.Root.{Root}
use Rattle.bound_tree.specs.declared.expression.Root.TheVariants as at
use Rattle.bound_tree.specs.RuleSets.{none}
use Rattle.bound_tree.specs.Tree.{Expr, typed, constant, variable, field, call, convert, is_same, me, new_object, with_object, err_number, Object, no_object, of_object, by_reference, by_value, no_passed, next_passed, Line, Program, Variable}
use Rattle.bound_facts.specs.Calls.{count_procedures, count_variables}
use Rattle.bound_facts.specs.Effects.{outward, touched, resized}
use Rattle.bound_facts.specs.Facts.{Known}
use Rattle.bound_facts.specs.Leading.{is_in}
use Rattle.bound_facts.specs.SelfMade.{unplain}
use Rattle.written_trees.specs.Facts.{Facts}
use Rattle.written_trees.specs.Projects.{written_project}
use Rattle.run_matches.specs.Upgrades.{Upgrade}
use Rattle.inhabited_laws.specs.Sample.{any, assign, at_line, body, declared, failed, forms_of, line, mentions_of, number, plus, proc_id, procedure, signature, the, var_id}

-- The source of Main1, a standard module, and of the class Counter:
--
--     Private Type Pair
--         x As Long
--         y As Long
--     End Type
--     Private held As Counter
--     Private best As Pair
--     Sub Main()
--         Dim c As Counter, d As New Counter
--         On Error GoTo failed
--         Set c = Pick(held)
--         Call Advance(c)
--         With best
--             .x = c.n
--             .y = .x + 1
--         End With
--         Debug.Print best.x; best.y
--         If held.following Is c.Peer Then
--             Debug.Print 1
--         End If
--         With c
--             Call Clear(c)
--             Call .Add(1)
--             .Level = .Level + 1
--             Debug.Print .Total
--         End With
--         If c Is Nothing Then
--             Debug.Print 2
--         End If
--         With New Counter
--             .n = 8
--             Debug.Print .n
--         End With
--         Call d.Add(1)
--         Debug.Print d.n
--         Set d = Nothing
--         Debug.Print d.n
--         If d Is Nothing Then
--             Debug.Print 3
--         End If
--         c.n = 3
--         Exit Sub
--     failed:
--         Debug.Print Err.Number
--     End Sub
--     Sub Clear(o As Counter)
--         Set o = Nothing
--     End Sub
--     Function Pick(ByVal o As Counter) As Counter
--         Set Pick = o
--     End Function
--     Sub Advance(ByVal o As Counter)
--         o.Level = o.Level + 1
--         Call o.Add(2)
--         Debug.Print o.Total
--     End Sub
--
--     Public n As Long
--     Public following As Counter
--     Public Sub Add(ByVal k As Long)
--         n = Level + k
--         Set Peer = Me
--     End Sub
--     Public Function Total() As Long
--         Total = Me.Level
--     End Function
--     Property Get Level() As Long
--         Level = n
--     End Property
--     Property Let Level(k As Long)
--         n = k
--     End Property
--     Property Get Peer() As Counter
--         Set Peer = following
--     End Property
--     Property Set Peer(ByVal o As Counter)
--         Set following = o
--     End Property
--     Sub Class_Initialize()
--         n = 20
--     End Sub

abbrev pub type_id : ℕ → TypeId
type_id n = record { 0 = n }

abbrev pub counter : (variable : ℕ) → Expr
counter k = typed (class 0) (variable (var_id k) false)

abbrev pub nothing_itself : Expr
nothing_itself = typed nothing (constant v.Nothing Literal)

abbrev pub self : Expr
self = typed (class 0) me

-- the variables of an object
abbrev pub n_of : Expr → Expr
n_of e = typed long (field e 0)

abbrev pub following : Expr → Expr
following e = typed (class 0) (field e 1)

-- parts of properties, by the number of the procedure
abbrev pub level_by : (part : ℕ) → Object → Expr
level_by p of = typed long (call (proc_id p) false of no_passed)

abbrev pub level_of : Expr → Expr
level_of e = level_by 6 (of_object e)

abbrev pub assigned_level : Expr → Expr
assigned_level e = level_by 7 (of_object e)

abbrev pub peer_by : (part : ℕ) → Object → Expr
peer_by p of = typed (class 0) (call (proc_id p) false of no_passed)

abbrev pub best : Expr
best = typed (user 0) (variable (var_id 3) false)

-- what With best keeps
abbrev pub kept : Expr
kept = typed (user 0) (with_object (at.Variable (var_id 3)))

-- what a With on an object keeps, by what the object is a part of
abbrev pub kept_object : Root → Expr
kept_object r = typed (class 0) (with_object r)

abbrev pub kept_counter : Expr
kept_counter = kept_object (at.Variable (var_id 4))

abbrev pub kept_new : Expr
kept_new = kept_object at.Temporary

abbrev pub x : Expr → Expr
x e = typed long (field e 0)

abbrev pub y : Expr → Expr
y e = typed long (field e 1)

abbrev pub code_in : (file : ℕ) → Form → List Expr → Line
code_in file f es = record {
  source = line file f;
  bindings = record { exprs = es; rules = none; mentions = mentions_of (0 ∷ 1 ∷ 2 ∷ 3 ∷ 4 ∷ 5 ∷ 6 ∷ 7 ∷ 8 ∷ 9 ∷ 10 ∷ 11 ∷ 12 ∷ 13 ∷ 14 ∷ 15 ∷ 16 ∷ 17 ∷ []) };
}

abbrev pub code : Form → List Expr → Line
code f es = code_in 1 f es

abbrev pub set : Form
set = source.set any any

abbrev pub print : Form
print = source.debug_print [] false

abbrev pub main_lines : List Line
main_lines =
    code (source.on_error_goto failed) []
    ∷ code set (counter 4 ∷ typed (class 0) (call (proc_id 2) false no_object (next_passed (by_value (counter 2)) no_passed)) ∷ [])
    ∷ code (source.call any) (typed nothing (call (proc_id 3) false no_object (next_passed (by_value (counter 4)) no_passed)) ∷ [])
    ∷ code (source.with_head any) (best ∷ [])
    ∷ code assign (x kept ∷ n_of (counter 4) ∷ [])
    ∷ code assign (y kept ∷ plus (x kept) (number 1) ∷ [])
    ∷ code source.end_with []
    ∷ code print (x best ∷ y best ∷ [])
    ∷ code (source.if_head any) (typed boolean (is_same (following (counter 2)) (peer_by 8 (of_object (counter 4)))) ∷ [])
    ∷ code print (number 1 ∷ [])
    ∷ code source.end_if []
    ∷ code (source.with_head any) (counter 4 ∷ [])
    ∷ code (source.call any) (typed nothing (call (proc_id 1) false no_object (next_passed (by_reference (counter 4)) no_passed)) ∷ [])
    ∷ code (source.call any) (typed nothing (call (proc_id 4) false (of_object kept_counter) (next_passed (by_value (number 1)) no_passed)) ∷ [])
    ∷ code assign (assigned_level kept_counter ∷ plus (level_of kept_counter) (number 1) ∷ [])
    ∷ code print (typed long (call (proc_id 5) false (of_object kept_counter) no_passed) ∷ [])
    ∷ code source.end_with []
    ∷ code (source.if_head any) (typed boolean (is_same (counter 4) nothing_itself) ∷ [])
    ∷ code print (number 2 ∷ [])
    ∷ code source.end_if []
    ∷ code (source.with_head any) (typed (class 0) (new_object (record { 0 = 0 })) ∷ [])
    ∷ code assign (n_of kept_new ∷ number 8 ∷ [])
    ∷ code print (n_of kept_new ∷ [])
    ∷ code source.end_with []
    ∷ code (source.call any) (typed nothing (call (proc_id 4) false (of_object (counter 17)) (next_passed (by_value (number 1)) no_passed)) ∷ [])
    ∷ code print (n_of (counter 17) ∷ [])
    ∷ code set (counter 17 ∷ typed (class 0) (convert (class 0) nothing_itself) ∷ [])
    ∷ code print (n_of (counter 17) ∷ [])
    ∷ code (source.if_head any) (typed boolean (is_same (counter 17) nothing_itself) ∷ [])
    ∷ code print (number 3 ∷ [])
    ∷ code source.end_if []
    ∷ code assign (n_of (counter 4) ∷ number 3 ∷ [])
    ∷ code (source.exit leaving.Sub) []
    ∷ code (source.label failed) []
    ∷ code print (typed long err_number ∷ [])
    ∷ []

abbrev pub clear_lines : List Line
clear_lines = code set (counter 5 ∷ typed (class 0) (convert (class 0) nothing_itself) ∷ []) ∷ []

abbrev pub pick_lines : List Line
pick_lines = code set (counter 7 ∷ counter 6 ∷ []) ∷ []

abbrev pub advance_lines : List Line
advance_lines =
    code assign (assigned_level (counter 8) ∷ plus (level_of (counter 8)) (number 1) ∷ [])
    ∷ code (source.call any) (typed nothing (call (proc_id 4) false (of_object (counter 8)) (next_passed (by_value (number 2)) no_passed)) ∷ [])
    ∷ code print (typed long (call (proc_id 5) false (of_object (counter 8)) no_passed) ∷ [])
    ∷ []

abbrev pub add_lines : List Line
add_lines =
    code_in 2 assign (the 9 ∷ plus (level_by 6 no_object) (the 11) ∷ [])
    ∷ code_in 2 set (peer_by 9 no_object ∷ self ∷ [])
    ∷ []

abbrev pub total_lines : List Line
total_lines = code_in 2 assign (the 12 ∷ level_of self ∷ []) ∷ []

abbrev pub get_level_lines : List Line
get_level_lines = code_in 2 assign (the 13 ∷ the 9 ∷ []) ∷ []

abbrev pub let_level_lines : List Line
let_level_lines = code_in 2 assign (the 9 ∷ the 14 ∷ []) ∷ []

abbrev pub get_peer_lines : List Line
get_peer_lines = code_in 2 set (counter 15 ∷ counter 10 ∷ []) ∷ []

abbrev pub set_peer_lines : List Line
set_peer_lines = code_in 2 set (counter 10 ∷ counter 16 ∷ []) ∷ []

abbrev pub initialize_lines : List Line
initialize_lines = code_in 2 assign (the 9 ∷ number 20 ∷ []) ∷ []

abbrev pub sub_in : (file : ℕ) → (name : List ℕ) → List Form → Member
sub_in file name forms = source.proc (line file (source.sub_head (signature name))) (body file forms) (line file source.end_sub)

abbrev pub function_in : (file : ℕ) → (name : List ℕ) → List Form → Member
function_in file name forms = source.proc (line file (source.function_head (signature name) None)) (body file forms) (line file source.end_function)

abbrev pub property_in : (head : Form) → List Form → Member
property_in head forms = source.proc (line 2 head) (body 2 forms) (line 2 source.end_property)

abbrev pub made_new : Variable → Variable
made_new x = record x { auto = true }

abbrev pub field_line : List ℕ → source.Line
field_line name = line 1 (source.field name Absent None (source.named []))

abbrev pub objects : Program
objects = record {
  declarations = record {
    project = record {
      file = record { kind = Exe; startup = Some (3, codes "Sub Main"); entries = []; dropped = [] };
      modules =
          record {
            file = 1;
            name = codes "Main1";
            class = false;
            members =
                source.group (line 1 (source.type_head None (codes "Pair") Absent)) (field_line (codes "x") ∷ field_line (codes "y") ∷ [])
                (line 1 source.end_type)
                ∷ source.alone (line 1 (source.variables var_word.Private []))
                ∷ source.alone (line 1 (source.variables var_word.Private []))
                ∷ sub_in 1 (codes "Main") (source.variables var_word.Dim [] ∷ forms_of main_lines)
                ∷ sub_in 1 (codes "Clear") (forms_of clear_lines)
                ∷ function_in 1 (codes "Pick") (forms_of pick_lines)
                ∷ sub_in 1 (codes "Advance") (forms_of advance_lines)
                ∷ [];
            comments = [];
          }
          ∷ record {
            file = 2;
            name = codes "Counter";
            class = true;
            members =
                source.alone (line 2 (source.variables var_word.Public []))
                ∷ source.alone (line 2 (source.variables var_word.Public []))
                ∷ sub_in 2 (codes "Add") (forms_of add_lines)
                ∷ function_in 2 (codes "Total") (forms_of total_lines)
                ∷ property_in (source.get_head (signature (codes "Level")) None) (forms_of get_level_lines)
                ∷ property_in (source.let_head (signature (codes "Level"))) (forms_of let_level_lines)
                ∷ property_in (source.get_head (signature (codes "Peer")) None) (forms_of get_peer_lines)
                ∷ property_in (source.set_head (signature (codes "Peer"))) (forms_of set_peer_lines)
                ∷ sub_in 2 (codes "Class_Initialize") (forms_of initialize_lines)
                ∷ [];
            comments = [];
          }
          ∷ [];
    };
    names = [];
    vars =
        declared (codes "x") 1 1 (owner.Field (type_id 0)) long
        ∷ declared (codes "y") 1 2 (owner.Field (type_id 0)) long
        ∷ declared (codes "held") 1 4 (owner.Module 1) (class 0)
        ∷ declared (codes "best") 1 5 (owner.Module 1) (user 0)
        ∷ declared (codes "c") 1 7 (owner.Local (proc_id 0)) (class 0)
        ∷ declared (codes "o") 1 44 (owner.Reference (proc_id 1)) (class 0)
        ∷ declared (codes "o") 1 47 (owner.Value (proc_id 2)) (class 0)
        ∷ declared (codes "Pick") 1 47 (owner.Answer (proc_id 2)) (class 0)
        ∷ declared (codes "o") 1 50 (owner.Value (proc_id 3)) (class 0)
        ∷ declared (codes "n") 2 0 (owner.Module 2) long
        ∷ declared (codes "following") 2 1 (owner.Module 2) (class 0)
        ∷ declared (codes "k") 2 2 (owner.Value (proc_id 4)) long
        ∷ declared (codes "Total") 2 6 (owner.Answer (proc_id 5)) long
        ∷ declared (codes "Level") 2 9 (owner.Answer (proc_id 6)) long
        ∷ declared (codes "k") 2 12 (owner.Reference (proc_id 7)) long
        ∷ declared (codes "Peer") 2 15 (owner.Answer (proc_id 8)) (class 0)
        ∷ declared (codes "o") 2 18 (owner.Value (proc_id 9)) (class 0)
        ∷ made_new (declared (codes "d") 1 7 (owner.Local (proc_id 0)) (class 0))
        ∷ [];
    consts = [];
    procs =
        procedure (codes "Main") 1 kind.Sub [] nothing None 0
        ∷ procedure (codes "Clear") 1 kind.Sub (var_id 5 ∷ []) nothing None 1
        ∷ procedure (codes "Pick") 1 kind.Function (var_id 6 ∷ []) (class 0) (Some (var_id 7)) 2
        ∷ procedure (codes "Advance") 1 kind.Sub (var_id 8 ∷ []) nothing None 3
        ∷ procedure (codes "Add") 2 kind.Sub (var_id 11 ∷ []) nothing None 4
        ∷ procedure (codes "Total") 2 kind.Function [] long (Some (var_id 12)) 5
        ∷ procedure (codes "Level") 2 kind.Get [] long (Some (var_id 13)) 6
        ∷ procedure (codes "Level") 2 kind.Let (var_id 14 ∷ []) nothing None 6
        ∷ procedure (codes "Peer") 2 kind.Get [] (class 0) (Some (var_id 15)) 8
        ∷ procedure (codes "Peer") 2 kind.Set (var_id 16 ∷ []) nothing None 8
        ∷ procedure (codes "Class_Initialize") 2 kind.Sub [] nothing None 10
        ∷ [];
    types = record { name = codes "Pair"; place = at_line 1; «module» = 1; fields = var_id 0 ∷ var_id 1 ∷ [] } ∷ [];
    enums = [];
    defaults = [];
  };
  bodies =
      main_lines ∷ clear_lines ∷ pick_lines ∷ advance_lines ∷ add_lines ∷ total_lines ∷ get_level_lines ∷ let_level_lines ∷ get_peer_lines
      ∷ set_peer_lines ∷ initialize_lines ∷ [];
}

abbrev pub object_known : Known
object_known = record {
  outward = λ p. nat_lt p (count_procedures objects) && is_in (outward objects) p;
  touched = λ v. nat_lt v (count_variables objects) && is_in (touched objects) v;
  resized = λ v. nat_lt v (count_variables objects) && is_in (resized objects) v;
  unplain = λ p. nat_lt p (count_procedures objects) && is_in (unplain objects) p;
}

-- there are no arrays, and no rule is broken
abbrev pub object_facts : Facts
object_facts = record {
  low = λ a d. pos 0;
  rank = λ a. 1;
  holds_array = λ t. false;
  is_made = λ t. false;
  marks = record { lines = []; heads = []; vars = []; consts = []; types = []; enums = [] };
  statement = λ file number. none;
}

abbrev pub object_sample : Upgrade
object_sample = record { program = objects; known = object_known; facts = object_facts; written = written_project objects object_facts }
