-- Procedures that use Statics and variables of modules, their own and another one.
use Rattle.std.proofs.Common.{◌≡◌, refl, ℕ, true, false, List, [], ◌∷◌, codes, None}
use Rattle.vb_tree.specs.BoundTree.{long, nothing}
use Rattle.vb_tree.specs.declared.declared.Owner.{Owner}
use Rattle.vb_tree.specs.declared.declared.Owner.TheVariants as owner
use Rattle.vb_tree.specs.declared.declared.ProcKind.TheVariants as kind
use Rattle.vb_tree.specs.declared.expression.BinOp.TheVariants as b
use Rattle.vb_tree.specs.declared.form_parts.VarWord.TheVariants as var_word
use Rattle.vb_tree.specs.declared.project.ProjectKind.TheVariants.{Exe}
use Rattle.vb_tree.specs.Tree.{Member}
use Rattle.vb_tree.specs.Tree as source
use Rattle.bound_tree.specs.declared.body.Mention.TheVariants as mention
use Rattle.bound_tree.specs.RuleSets.{none}
use Rattle.bound_tree.specs.Tree.{Variable, Expr, typed, variable, binary, Line, Program}
use Rattle.run_matches.specs.Covered.{covers_procedure}
use Rattle.run_matches.proofs.Samples.{var_id, proc_id, declared, procedure, any, line, signature, body}

-- The source of Counter, a standard module:
--
--     Public n As Long
--
-- and of Main1, another one:
--
--     Private k As Long
--     Sub Main()
--         Dim c As Long
--         c = n
--         Counter.n = c + k
--     End Sub

abbrev vars : (local : List ℕ) → Owner → List Variable
vars local of =
    declared (codes "n") 1 0 (owner.Module 1) long  -- 0
    ∷ declared (codes "k") 2 0 (owner.Module 2) long  -- 1
    ∷ declared local 2 2 of long  -- 2
    ∷ []

abbrev counter : List Member
counter = source.alone (line 1 (source.variables var_word.Public [])) ∷ []

abbrev main1 : List Member
main1 =
    source.alone (line 2 (source.variables var_word.Private []))
    ∷ source.proc (line 2 (source.sub_head (signature (codes "Main"))))
    (body 2 (source.variables var_word.Dim [] ∷ source.assign any any ∷ source.assign any any ∷ [])) (line 2 source.end_sub)
    ∷ []

abbrev code : List Expr → Line
code es = record {
  source = line 2 (source.assign any any);
  bindings = record { exprs = es; rules = none; mentions = mention.Var (var_id 0) ∷ mention.Var (var_id 1) ∷ mention.Var (var_id 2) ∷ [] };
}

abbrev the : ℕ → Expr
the n = typed long (variable (var_id n) false)

abbrev lines : List Line
lines =
    code (the 2 ∷ the 0 ∷ [])
    ∷ code (typed long (variable (var_id 0) true) ∷ typed long (binary b.Add (the 2) (the 1)) ∷ [])
    ∷ []

-- the program with a local variable of a name, or a Static
abbrev program : (local : List ℕ) → Owner → Program
program local of = record {
  declarations = record {
    project = record {
      file = record { kind = Exe; startup = None; entries = []; dropped = [] };
      modules =
          record { file = 1; name = codes "Counter"; class = false; members = counter; comments = [] }
          ∷ record { file = 2; name = codes "Main1"; class = false; members = main1; comments = [] }
          ∷ [];
    };
    names = [];
    vars = vars local of;
    consts = [];
    procs = procedure (codes "Main") 2 kind.Sub [] nothing None 0 ∷ [];
    types = [];
    enums = [];
    defaults = [];
  };
  bodies = lines ∷ [];
}

uses_are_covered : covers_procedure (program (codes "c") (owner.Local (proc_id 0))) 0 ≡ true
uses_are_covered = refl

statics_are_covered : covers_procedure (program (codes "c") (owner.Static (proc_id 0))) 0 ≡ true
statics_are_covered = refl

-- a local variable that is named as the other module would be found in its place
captured_is_not : covers_procedure (program (codes "counter") (owner.Local (proc_id 0))) 0 ≡ false
captured_is_not = refl
