-- Worked examples of the rules, computed.
use Rattle.std.proofs.Common.{◌≡◌, ℕ, Bool, true, false, List, [], ◌∷◌, Option, Some, None, refl, codes}
use Rattle.vb_tree.specs.BoundTree.{Ty, long, str, object, class, array, unknown}
use Rattle.vb_tree.specs.declared.declared.Owner.TheVariants as owner
use Rattle.vb_tree.specs.declared.declared.ProcId.{ProcId}
use Rattle.vb_tree.specs.declared.declared.ProcKind.{ProcKind}
use Rattle.vb_tree.specs.declared.declared.ProcKind.TheVariants as kind
use Rattle.vb_tree.specs.declared.declared.VarId.{VarId}
use Rattle.vb_tree.specs.declared.form_parts.Visibility.{Visibility}
use Rattle.vb_tree.specs.declared.form_parts.Visibility.TheVariants as word
use Rattle.vb_tree.specs.declared.project.ProjectKind.TheVariants.{Exe}
use Rattle.vb_tree.specs.Tree.{Form, Module, no_args, invoke, with_head}
use Rattle.vb_tree.specs.Tree as vb
use Rattle.bound_tree.specs.RuleSets.{none}
use Rattle.bound_tree.specs.Tree.{Expr, typed, variable, convert, call, loose, no_object, Argument, by_value, by_reference, no_passed, next_passed, Line, Variable, Procedure, Declarations}
use Rattle.object_rules.specs.Autos.{autos_from, is_auto_array}
use Rattle.object_rules.specs.Properties.{breaks_shape}
use Rattle.object_rules.specs.Terminators.{is_terminator}
use Rattle.object_rules.specs.Uses.{breaks_use}

abbrev p : ProcId
p = record { 0 = 0 }

abbrev v : ℕ → VarId
v n = record { 0 = n }

abbrev var : (name : List ℕ) → (auto : Bool) → (ty named : Ty) → Variable
var n auto ty named = record {
  name = n;
  place = record { file = 1; line = 1 };
  statement = 0;
  owner = owner.Local p;
  ty = ty;
  named = named;
  qualified = false;
  lettered = None;
  bounds = [];
  auto = auto;
  preset = None;
}

abbrev x : (auto : Bool) → (ty named : Ty) → Variable
x auto ty named = var (codes "x") auto ty named

abbrev module_of : (file : ℕ) → (is_class : Bool) → Module
module_of file is_class = record { file = file; name = codes "M"; class = is_class; members = []; comments = [] }

-- a project with a standard module, file 1, and a class, file 2
abbrev project_with : List Variable → List Procedure → Declarations
project_with vars procs = record {
  project = record { file = record { kind = Exe; startup = None; entries = []; dropped = [] }; modules = module_of 1 false ∷ module_of 2 true ∷ [] };
  names = [];
  vars = vars;
  consts = [];
  procs = procs;
  types = [];
  enums = [];
  defaults = [];
}

-- ---- As New variables

abbrev some_variables : List Variable
some_variables = x true (class 0) (class 0) ∷ x false (class 0) (class 0) ∷ x true (array (class 0) 1) (array (class 0) 1) ∷ x true unknown unknown ∷ x true (class 1) (class 1) ∷ []

the_autos : autos_from 0 some_variables ≡ v 0 ∷ v 4 ∷ []
the_autos = refl

an_array : is_auto_array (x true (array (class 0) 1) (array (class 0) 1)) ≡ true
an_array = refl

an_array_of_an_unknown_class : is_auto_array (x true unknown (array unknown 1)) ≡ true
an_array_of_an_unknown_class = refl

an_array_without_new : is_auto_array (x false (array (class 0) 1) (array (class 0) 1)) ≡ false
an_array_without_new = refl

no_array : is_auto_array (x true (class 0) (class 0)) ≡ false
no_array = refl

-- ---- uses of them: variable 0 is As New, 1 isn't, 2 is an array

abbrev D : Declarations
D = project_with some_variables []

abbrev at : Ty → ℕ → Expr
at ty n = typed ty (variable (v n) false)

abbrev line_of : Form → List Expr → Line
line_of form exprs = record {
  source = record { place = record { file = 1; line = 1 }; text = []; form = form };
  bindings = record { exprs = exprs; rules = none; mentions = [] };
}

abbrev given : Argument → Line
given a = line_of (invoke vb.me no_args) (typed long (call p false no_object (next_passed a no_passed)) ∷ [])

given_by_reference : breaks_use D (given (by_reference (at (class 0) 0))) ≡ true
given_by_reference = refl

given_by_value : breaks_use D (given (by_value (at (class 0) 0))) ≡ false
given_by_value = refl

another_given_by_reference : breaks_use D (given (by_reference (at (class 0) 1))) ≡ false
another_given_by_reference = refl

the_array_given_by_reference : breaks_use D (given (by_reference (at (array (class 0) 1) 2))) ≡ false
the_array_given_by_reference = refl

given_as_an_object : breaks_use D (given (by_reference (typed object (convert object (at (class 0) 0))))) ≡ false
given_as_an_object = refl

given_within_an_argument : breaks_use D (given (by_value (typed long (call p false no_object (next_passed (by_reference (at (class 0) 0)) no_passed))))) ≡ true
given_within_an_argument = refl

-- an expression of type Unknown is passed over
given_without_a_type : breaks_use D (given (by_reference (typed unknown (loose vb.me none)))) ≡ false
given_without_a_type = refl

kept : breaks_use D (line_of (with_head vb.me) (at (class 0) 0 ∷ [])) ≡ true
kept = refl

another_kept : breaks_use D (line_of (with_head vb.me) (at (class 0) 1 ∷ [])) ≡ false
another_kept = refl

used_otherwise : breaks_use D (line_of (invoke vb.me no_args) (at (class 0) 0 ∷ [])) ≡ false
used_otherwise = refl

-- ---- properties

abbrev part : ProcKind → Visibility → (params : List VarId) → (answer : Option VarId) → Procedure
part k w params answer = record {
  name = codes "A";
  place = record { file = 2; line = 1 };
  module_number = 2;
  kind = k;
  visibility = w;
  params = params;
  result = long;
  answer = answer;
  first = p;
}

-- variables of parts: 0 a result, 1 a value, 2 and 3 indexes of one name, 4 another index, 5 a value of another type, 6 and 7 values
-- whose classes aren't known
abbrev of_parts : List Variable
of_parts =
    var (codes "A") false long long
    ∷ var (codes "v") false long long
    ∷ var (codes "i") false long long
    ∷ var (codes "I") false long long
    ∷ var (codes "k") false long long
    ∷ var (codes "v") false str str
    ∷ var (codes "A") false unknown unknown
    ∷ var (codes "v") false unknown unknown
    ∷ []

abbrev breaks : List Procedure → Procedure → Bool
breaks parts q = breaks_shape (project_with of_parts parts) q

abbrev get : Procedure
get = part kind.Get word.Public (v 2 ∷ []) (Some (v 0))

abbrev both_break : Procedure → Procedure → Bool
both_break a b = breaks (a ∷ b ∷ []) a

of_one_shape : both_break get (part kind.Let word.Public (v 3 ∷ v 1 ∷ []) None) ≡ false
of_one_shape = refl

of_another_visibility : both_break get (part kind.Let word.Private (v 3 ∷ v 1 ∷ []) None) ≡ true
of_another_visibility = refl

of_another_type : both_break get (part kind.Let word.Public (v 3 ∷ v 5 ∷ []) None) ≡ true
of_another_type = refl

of_another_name : both_break get (part kind.Let word.Public (v 4 ∷ v 1 ∷ []) None) ≡ true
of_another_name = refl

of_another_count : both_break get (part kind.Let word.Public (v 1 ∷ []) None) ≡ true
of_another_count = refl

-- types that aren't known are the same
of_unknown_types : both_break (part kind.Get word.Public [] (Some (v 6))) (part kind.Let word.Public (v 7 ∷ []) None) ≡ false
of_unknown_types = refl

the_later_part : breaks (get ∷ part kind.Let word.Private (v 3 ∷ v 1 ∷ []) None ∷ []) (part kind.Let word.Private (v 3 ∷ v 1 ∷ []) None) ≡ true
the_later_part = refl

let_and_set : both_break (part kind.Let word.Public (v 1 ∷ []) None) (part kind.Set word.Public (v 1 ∷ []) None) ≡ true
let_and_set = refl

let_without_a_value : breaks (part kind.Let word.Public [] None ∷ []) (part kind.Let word.Public [] None) ≡ true
let_without_a_value = refl

get_alone : breaks (get ∷ []) get ≡ false
get_alone = refl

-- a Sub beside them is no part
a_sub : breaks (get ∷ part kind.Sub word.Private [] None ∷ []) (part kind.Sub word.Private [] None) ≡ false
a_sub = refl

-- ---- Class_Terminate

abbrev ends : ProcKind → (file : ℕ) → (name : List ℕ) → Bool
ends k file name =
    is_terminator D (record {
      name = name;
      place = record { file = file; line = 1 };
      module_number = file;
      kind = k;
      visibility = word.Private;
      params = [];
      result = long;
      answer = None;
      first = p;
    })

in_a_class : ends kind.Sub 2 (codes "class_Terminate") ≡ true
in_a_class = refl

in_a_standard_module : ends kind.Sub 1 (codes "Class_Terminate") ≡ false
in_a_standard_module = refl

a_function : ends kind.Function 2 (codes "Class_Terminate") ≡ false
a_function = refl

of_another_name_there : ends kind.Sub 2 (codes "Class_Initialize") ≡ false
of_another_name_there = refl
