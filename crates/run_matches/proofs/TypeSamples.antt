-- A small program over user types: one in another, with fields stored, read and given by reference, given by reference and assigned as a
-- whole, and what a Function gives; and With.
use Rattle.std.proofs.Common.{◌≡◌, ◌||◌, refl, pos, nat_eq, true, false, ℕ, List, [], ◌∷◌, ◌++◌, codes, None, Some}
use Rattle.std.specs.Fmt.{digits}
use Rattle.vb_tree.specs.BoundTree.{user, long, str, nothing}
use Rattle.vb_tree.specs.declared.declared.Owner.TheVariants as owner
use Rattle.vb_tree.specs.declared.declared.ProcKind.TheVariants as kind
use Rattle.vb_tree.specs.declared.declared.TypeId.{TypeId}
use Rattle.vb_tree.specs.declared.expression.BinOp.TheVariants as b
use Rattle.vb_tree.specs.declared.form_parts.VarWord.TheVariants as var_word
use Rattle.vb_tree.specs.declared.project.ProjectKind.TheVariants.{Exe}
use Rattle.vb_tree.specs.declared.token.Suffix.TheVariants.{Absent}
use Rattle.vb_tree.specs.declared.value.Value6.TheVariants as v
use Rattle.vb_tree.specs.Tree.{Form, Member}
use Rattle.vb_tree.specs.Tree as source
use Rattle.bound_tree.specs.declared.body.Mention.{Mention}
use Rattle.bound_tree.specs.declared.body.Mention.TheVariants as mention
use Rattle.bound_tree.specs.declared.expression.Origin.TheVariants.{Literal}
use Rattle.bound_tree.specs.declared.expression.Root.TheVariants as at
use Rattle.bound_tree.specs.RuleSets.{has, none, both}
use Rattle.bound_tree.specs.Tree.{Expr, typed, constant, variable, field, binary, call, no_object, with_object, by_reference, by_value, no_passed, next_passed, Line, Program}
use Rattle.bound_facts.specs.Facts.{Known}
use Rattle.written_trees.specs.Projects.{written_project}
use Rattle.run_base.specs.Outcomes.{Output, outputs, printed}
use Rattle.vb6_run.specs.Programs.{run_program}
use Rattle.net_run.specs.Program.{program_runs}
use Rattle.run_matches.specs.CoveredVariables.{covers_user}
use Rattle.run_matches.specs.Covered.{covers_procedure}
use Rattle.run_matches.specs.Upgrades.{Upgrade, runnable_of}
use Rattle.run_matches.proofs.Samples.{any, at_line, body, declared, facts, known, line, proc_id, procedure, signature, var_id}

-- The source of Main1, a standard module:
--
--     Private Type Pair
--         x As Long
--         y As Long
--     End Type
--     Private Type Tagged
--         inner As Pair
--         tag As String
--     End Type
--     Private q As Tagged
--     Sub Main()
--         Dim p As Pair
--         p.x = 1
--         q.inner.y = p.x + 1
--         q.tag = "a"
--         Call Shift(p)
--         q.inner.x = p.x
--         p = q.inner
--         Debug.Print p.x + q.inner.y; q.tag
--         p = MakePair(3)
--         Call Raise1(p.y)
--         With p
--             .x = .x + 10
--         End With
--         Debug.Print p.x + p.y
--     End Sub
--     Sub Shift(r As Pair)
--         r.x = r.x + 5
--     End Sub
--     Function MakePair(ByVal a As Long) As Pair
--         MakePair.x = a
--     End Function
--     Sub Raise1(n As Long)
--         n = n + 1
--     End Sub

abbrev type_id : ℕ → TypeId
type_id n = record { 0 = n }

abbrev of_type : (user_type variable : ℕ) → Expr
of_type t k = typed (user t) (variable (var_id k) false)

abbrev p : Expr
p = of_type 0 5

abbrev q : Expr
q = of_type 1 4

abbrev r : Expr
r = of_type 0 6

abbrev inner : Expr
inner = typed (user 0) (field q 0)

abbrev tag : Expr
tag = typed str (field q 1)

abbrev x : Expr → Expr
x e = typed long (field e 0)

abbrev y : Expr → Expr
y e = typed long (field e 1)

-- what With p keeps
abbrev kept : Expr
kept = typed (user 0) (with_object (at.Variable (var_id 5)))

abbrev number : ℕ → Expr
number k = typed long (constant (v.Long (pos k)) Literal)

abbrev plus : Expr → Expr → Expr
plus d e = typed long (binary b.Add d e)

abbrev mentions : List Mention
mentions =
    mention.Var (var_id 0) ∷ mention.Var (var_id 1) ∷ mention.Var (var_id 2) ∷ mention.Var (var_id 3) ∷ mention.Var (var_id 4) ∷ mention.Var (var_id 5)
    ∷ mention.Var (var_id 6) ∷ mention.Var (var_id 7) ∷ mention.Var (var_id 8) ∷ mention.Var (var_id 9) ∷ []

abbrev code : Form → List Expr → Line
code f es = record { source = line 1 f; bindings = record { exprs = es; rules = none; mentions = mentions } }

abbrev assign : Form
assign = source.assign any any

abbrev main_lines : List Line
main_lines =
    code assign (x p ∷ number 1 ∷ [])
    ∷ code assign (y inner ∷ plus (x p) (number 1) ∷ [])
    ∷ code assign (tag ∷ typed str (constant (v.Str (codes "a")) Literal) ∷ [])
    ∷ code (source.call any) (typed nothing (call (proc_id 1) false no_object (next_passed (by_reference p) no_passed)) ∷ [])
    ∷ code assign (x inner ∷ x p ∷ [])
    ∷ code assign (p ∷ inner ∷ [])
    ∷ code (source.debug_print [] false) (plus (x p) (y inner) ∷ tag ∷ [])
    ∷ code assign (p ∷ typed (user 0) (call (proc_id 2) false no_object (next_passed (by_value (number 3)) no_passed)) ∷ [])
    ∷ code (source.call any) (typed nothing (call (proc_id 3) false no_object (next_passed (by_reference (y p)) no_passed)) ∷ [])
    ∷ code (source.with_head any) (p ∷ [])
    ∷ code assign (x kept ∷ plus (x kept) (number 10) ∷ [])
    ∷ code source.end_with []
    ∷ code (source.debug_print [] false) (plus (x p) (y p) ∷ [])
    ∷ []

abbrev shift_lines : List Line
shift_lines = code assign (x r ∷ plus (x r) (number 5) ∷ []) ∷ []

abbrev scalar : (variable : ℕ) → Expr
scalar k = typed long (variable (var_id k) false)

abbrev make_lines : List Line
make_lines = code assign (x (of_type 0 8) ∷ scalar 7 ∷ []) ∷ []

abbrev raise_lines : List Line
raise_lines = code assign (scalar 9 ∷ plus (scalar 9) (number 1) ∷ []) ∷ []

abbrev field_line : source.Line
field_line = line 1 (source.field [] Absent None (source.named []))

abbrev type_group : Member
type_group = source.group (line 1 (source.type_head None [] Absent)) (field_line ∷ field_line ∷ []) (line 1 source.end_type)

abbrev types : Program
types = record {
  declarations = record {
    project = record {
      file = record { kind = Exe; startup = Some (3, codes "Sub Main"); entries = []; dropped = [] };
      modules =
          record {
            file = 1;
            name = codes "Main1";
            class = false;
            members =
                type_group
                ∷ type_group
                ∷ source.alone (line 1 (source.variables var_word.Private []))
                ∷ source.proc (line 1 (source.sub_head (signature (codes "Main"))))
                (body 1
                (source.variables var_word.Dim [] ∷ assign ∷ assign ∷ assign ∷ source.call any ∷ assign ∷ assign ∷ source.debug_print [] false ∷ assign
                ∷ source.call any ∷ source.with_head any ∷ assign ∷ source.end_with ∷ source.debug_print [] false ∷ []))
                (line 1 source.end_sub)
                ∷ source.proc (line 1 (source.sub_head (signature (codes "Shift")))) (body 1 (assign ∷ [])) (line 1 source.end_sub)
                ∷ source.proc (line 1 (source.function_head (signature (codes "MakePair")) None)) (body 1 (assign ∷ [])) (line 1 source.end_function)
                ∷ source.proc (line 1 (source.sub_head (signature (codes "Raise1")))) (body 1 (assign ∷ [])) (line 1 source.end_sub)
                ∷ [];
            comments = [];
          }
          ∷ [];
    };
    names = [];
    vars =
        declared (codes "x") 1 1 (owner.Field (type_id 0)) long
        ∷ declared (codes "y") 1 2 (owner.Field (type_id 0)) long
        ∷ declared (codes "inner") 1 5 (owner.Field (type_id 1)) (user 0)
        ∷ declared (codes "tag") 1 6 (owner.Field (type_id 1)) str
        ∷ declared (codes "q") 1 8 (owner.Module 1) (user 1)
        ∷ declared (codes "p") 1 10 (owner.Local (proc_id 0)) (user 0)
        ∷ declared (codes "r") 1 25 (owner.Reference (proc_id 1)) (user 0)
        ∷ declared (codes "a") 1 28 (owner.Value (proc_id 2)) long
        ∷ declared (codes "MakePair") 1 28 (owner.Answer (proc_id 2)) (user 0)
        ∷ declared (codes "n") 1 31 (owner.Reference (proc_id 3)) long
        ∷ [];
    consts = [];
    procs =
        procedure (codes "Main") 1 kind.Sub [] nothing None 0
        ∷ procedure (codes "Shift") 1 kind.Sub (var_id 6 ∷ []) nothing None 1
        ∷ procedure (codes "MakePair") 1 kind.Function (var_id 7 ∷ []) (user 0) (Some (var_id 8)) 2
        ∷ procedure (codes "Raise1") 1 kind.Sub (var_id 9 ∷ []) nothing None 3
        ∷ [];
    types =
        record { name = codes "Pair"; place = at_line 1; «module» = 1; fields = var_id 0 ∷ var_id 1 ∷ [] }
        ∷ record { name = codes "Tagged"; place = at_line 1; «module» = 1; fields = var_id 2 ∷ var_id 3 ∷ [] }
        ∷ [];
    enums = [];
    defaults = [];
  };
  bodies = main_lines ∷ shift_lines ∷ make_lines ∷ raise_lines ∷ [];
}

-- r and n are touched
abbrev type_known : Known
type_known = record known { touched = λ v. nat_eq v 6 || nat_eq v 9 }

abbrev type_upgrade : Upgrade
type_upgrade = record { program = types; known = type_known; facts = facts; written = written_project types facts }

type_covered : covers_user types.declarations 1 ≡ true
type_covered = refl

main_covered : covers_procedure types 0 ≡ true
main_covered = refl

shift_covered : covers_procedure types 1 ≡ true
shift_covered = refl

make_covered : covers_procedure types 2 ≡ true
make_covered = refl

raise_covered : covers_procedure types 3 ≡ true
raise_covered = refl

abbrev says : List ℕ → Output
says s = printed (s ++ 13 ∷ 10 ∷ [])

says_type : outputs (run_program (runnable_of type_upgrade) 0 [] 40) ≡ says (codes " 8 a") ∷ says (codes " 14 ") ∷ []
unfolding digits
says_type = refl

says_type_net : outputs (program_runs type_upgrade.written 40 0 []) ≡ says (codes " 8 a") ∷ says (codes " 14 ") ∷ []
unfolding digits has none both
says_type_net = refl
