-- A small project of a module Main1, a class Node and a module Other, on which examples are computed.
use Rattle.std.proofs.Common.{ℕ, ℤ, pos, cond, Bool, true, false, ◌&&◌, nat_eq, List, [], ◌∷◌, codes, Option, Some, None}
use Rattle.up_base.specs.declared.place.Place.{Place}
use Rattle.vb_tree.specs.BoundTree.{Ty, integer, long, currency, str, fixed, user, class, variant, array, nothing, unknown}
use Rattle.vb_tree.specs.declared.declared.Owner.{Owner}
use Rattle.vb_tree.specs.declared.declared.Owner.TheVariants as owner
use Rattle.vb_tree.specs.declared.declared.ProcId.{ProcId}
use Rattle.vb_tree.specs.declared.declared.ProcKind.{ProcKind}
use Rattle.vb_tree.specs.declared.declared.ProcKind.TheVariants as kind
use Rattle.vb_tree.specs.declared.declared.VarId.{VarId}
use Rattle.vb_tree.specs.declared.form_parts.Visibility.TheVariants as seen
use Rattle.vb_tree.specs.declared.project.ProjectKind.TheVariants.{Exe}
use Rattle.vb_tree.specs.declared.value.Value6.TheVariants as v
use Rattle.vb_tree.specs.Tree as source
use Rattle.bound_tree.specs.declared.declared.TypeDecl.{TypeDecl}
use Rattle.bound_tree.specs.declared.expression.Origin.TheVariants.{Literal}
use Rattle.bound_tree.specs.declared.marks.Marks.{Marks}
use Rattle.bound_tree.specs.declared.rule_set.RuleSet.{RuleSet}
use Rattle.bound_tree.specs.RuleSets.{none, with_rule}
use Rattle.bound_tree.specs.Tree.{Variable, Procedure, Declarations, Expr, typed, constant, variable, field, element, convert, Exprs, no_exprs, next_expr}
use Rattle.written_trees.specs.Facts.{Facts}
use Rattle.written_trees.specs.Names.{Scope}

abbrev pub var_id : ℕ → VarId
var_id n = record { 0 = n }

abbrev pub proc_id : ℕ → ProcId
proc_id n = record { 0 = n }

abbrev pub at_line : (file line : ℕ) → Place
at_line file n = record { file = file; line = n }

-- a variable that a statement of a file declares
abbrev pub declared : List ℕ → (file statement : ℕ) → Owner → Ty → Variable
declared name file n of ty = record {
  name = name;
  place = at_line file n;
  statement = n;
  owner = of;
  ty = ty;
  named = ty;
  qualified = false;
  lettered = None;
  bounds = [];
  auto = false;
  preset = None;
}

-- statements of Main1: 0 to 2 a Type, 3 variables, 4 to 10 Main, 11 to 13 and 14 to 16 the parts of a property
abbrev pub sample_vars : List Variable
sample_vars =
    declared (codes "n") 1 3 (owner.Module 1) long  -- 0
    ∷ declared (codes "total") 3 0 (owner.Module 3) currency  -- 1
    ∷ declared (codes "i") 1 5 (owner.Local (proc_id 0)) integer  -- 2
    ∷ record (declared (codes "a") 1 5 (owner.Local (proc_id 0)) (array integer 1)) { bounds = (pos 1, pos 10) ∷ [] }  -- 3
    ∷ record (declared (codes "c") 1 5 (owner.Local (proc_id 0)) (class 0)) { auto = true }  -- 4
    ∷ declared (codes "k") 2 0 (owner.Module 2) long  -- 5
    ∷ declared (codes "f") 1 5 (owner.Local (proc_id 0)) (fixed 3)  -- 6
    ∷ declared (codes "p") 1 6 (owner.Static (proc_id 0)) (user 0)  -- 7
    ∷ declared (codes "Items") 1 1 (owner.Field (record { 0 = 0 })) (array long 0)  -- 8
    ∷ declared (codes "v") 1 5 (owner.Local (proc_id 0)) variant  -- 9
    ∷ declared (codes "s") 3 1 (owner.Reference (proc_id 4)) str  -- 10
    ∷ declared (codes "m") 3 1 (owner.Value (proc_id 4)) long  -- 11
    ∷ declared (codes "Child") 2 1 (owner.Module 2) (class 0)  -- 12
    ∷ declared (codes "d") 1 3 (owner.Module 1) unknown  -- 13
    ∷ declared (codes "Prop") 1 11 (owner.Answer (proc_id 1)) long  -- 14
    ∷ declared (codes "w") 1 14 (owner.Value (proc_id 2)) long  -- 15
    ∷ declared (codes "x") 1 7 (owner.Local (proc_id 0)) variant  -- 16
    ∷ []

abbrev pub procedure : List ℕ → (file statement : ℕ) → ProcKind → List VarId → Ty → Option VarId → (first : ℕ) → Procedure
procedure name file n k params result answer first = record {
  name = name;
  place = at_line file n;
  module_number = file;
  kind = k;
  visibility = seen.Public;
  params = params;
  result = result;
  answer = answer;
  first = proc_id first;
}

abbrev pub sample_procs : List Procedure
sample_procs =
    procedure (codes "Main") 1 4 kind.Sub [] nothing None 0
    ∷ procedure (codes "Prop") 1 11 kind.Get [] long (Some (var_id 14)) 1
    ∷ procedure (codes "prop") 1 14 kind.Let (var_id 15 ∷ []) nothing None 1
    ∷ procedure (codes "Give") 2 2 kind.Function [] (class 0) None 3
    ∷ procedure (codes "Show") 3 1 kind.Sub (var_id 10 ∷ var_id 11 ∷ []) nothing None 4
    ∷ []

abbrev pub module_of : (file : ℕ) → List ℕ → (class : Bool) → List source.Member → List (ℕ × List ℕ) → source.Module
module_of file name is_class members comments = record { file = file; name = name; class = is_class; members = members; comments = comments }

abbrev pub sample_modules : List source.Member → List (ℕ × List ℕ) → List source.Module
sample_modules members comments =
    module_of 1 (codes "Main1") false members comments ∷ module_of 2 (codes "Node") true [] [] ∷ module_of 3 (codes "Other") false [] [] ∷ []

abbrev pub sample_basket : TypeDecl
sample_basket = record { name = codes "Basket"; place = at_line 1 0; «module» = 1; fields = var_id 8 ∷ [] }

abbrev pub declarations_with : List source.Member → List (ℕ × List ℕ) → Declarations
declarations_with members comments = record {
  project = record { file = record { kind = Exe; startup = Some (3, codes "Sub Main"); entries = []; dropped = [] }; modules = sample_modules members comments };
  names = [];
  vars = sample_vars;
  consts = [];
  procs = sample_procs;
  types = sample_basket ∷ [];
  enums = [];
  defaults = [];
}

abbrev pub breaks : ℕ → RuleSet
breaks rule = with_rule none rule

-- the variable d breaks rule 1, and lines of Main break these
abbrev pub marks_with : List RuleSet → Marks
marks_with lines = record {
  lines = lines ∷ [];
  heads = [];
  vars = none ∷ none ∷ none ∷ none ∷ none ∷ none ∷ none ∷ none ∷ none ∷ none ∷ none ∷ none ∷ none ∷ breaks 1 ∷ [];
  consts = [];
  types = [];
  enums = [];
}

-- the array a begins at 1, the field Items at 0
abbrev pub low_in : (variable dimension : ℕ) → ℤ
low_in a d = cond (nat_eq a 3 && nat_eq d 0) (pos 1) (pos 0)

abbrev pub facts_with : List RuleSet → Facts
facts_with lines = record {
  low = low_in;
  rank = λ a. 1;
  holds_array = λ t. nat_eq t 0;
  is_made = λ t. nat_eq t 0;
  marks = marks_with lines;
  statement = λ file number. none;
}

-- in the procedure Main of Main1
abbrev pub here : Scope
here = record { declarations = declarations_with [] []; facts = facts_with []; file = 1; procedure = Some 0 }

-- ---- expressions

abbrev pub var : ℕ → Ty → Expr
var n ty = typed ty (variable (var_id n) false)

abbrev pub the_n : Expr
the_n = var 0 long

abbrev pub the_total : Expr
the_total = var 1 currency

abbrev pub the_i : Expr
the_i = var 2 integer

abbrev pub the_array : Expr
the_array = var 3 (array integer 1)

abbrev pub the_node : Expr
the_node = var 4 (class 0)

abbrev pub the_fixed : Expr
the_fixed = var 6 (fixed 3)

abbrev pub the_basket : Expr
the_basket = var 7 (user 0)

abbrev pub the_variant : Expr
the_variant = var 9 variant

abbrev pub int : ℤ → Expr
int z = typed integer (constant (v.Int z) Literal)

abbrev pub text : List ℕ → Expr
text units = typed str (constant (v.Str units) Literal)

abbrev pub as_type : Ty → Expr → Expr
as_type ty e = typed ty (convert ty e)

abbrev pub one_expr : Expr → Exprs
one_expr e = next_expr e no_exprs

-- `a(i)`
abbrev pub the_element : Expr
the_element = typed integer (element the_array (one_expr (as_type long the_i)))

-- `c.k` and `c.Child.k`
abbrev pub the_field : Expr
the_field = typed long (field the_node 0)

abbrev pub the_child : Expr
the_child = typed (class 0) (field the_node 1)

abbrev pub the_inner_field : Expr
the_inner_field = typed long (field the_child 0)

-- `p.Items`
abbrev pub the_items : Expr
the_items = typed (array long 0) (field the_basket 0)
