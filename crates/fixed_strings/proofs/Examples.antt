-- Worked examples of the rule, computed.
use Rattle.std.proofs.Common.{◌≡◌, ℕ, Bool, true, false, List, [], ◌∷◌, Option, Some, None, refl, arith, codes}
use Rattle.std.specs.Prelude.{nat_lt}
use Rattle.reach_table.specs.Chains.{empty, longer}
use Rattle.vb_tree.specs.BoundTree.{Ty, str, long, variant, fixed, user, array}
use Rattle.vb_tree.specs.declared.declared.Owner.{Owner}
use Rattle.vb_tree.specs.declared.declared.Owner.TheVariants as owner
use Rattle.vb_tree.specs.declared.declared.ProcId.{ProcId}
use Rattle.vb_tree.specs.declared.declared.VarId.{VarId}
use Rattle.vb_tree.specs.declared.form_parts.VarWord.{VarWord}
use Rattle.vb_tree.specs.declared.form_parts.VarWord.TheVariants as word
use Rattle.vb_tree.specs.declared.project.ProjectKind.TheVariants.{Exe}
use Rattle.vb_tree.specs.Tree.{me, no_args, alone, variables, invoke, option_explicit}
use Rattle.vb_tree.specs.Tree as vb
use Rattle.bound_tree.specs.declared.declared.TypeDecl.{TypeDecl}
use Rattle.bound_tree.specs.RuleSets.{none}
use Rattle.bound_tree.specs.Tree.{Expr, typed, variable, convert, call, no_object, Argument, by_value, by_reference, no_passed, next_passed, Line, Variable, Declarations}
use Rattle.fixed_strings.specs.Declaring.{HoldsFixed, breaks_declared, type_parts, fixed_types}
use Rattle.fixed_strings.specs.Given.{Quiet, breaks_given}
use Rattle.fixed_strings.specs.Lengths.{lengths_from}

abbrev var : (statement : ℕ) → Owner → Ty → Variable
var n o ty = record { name = codes "x"; place = record { file = 1; line = 1 }; statement = n; owner = o; ty = ty; named = ty; qualified = false; lettered = None; bounds = []; auto = false; preset = None }

abbrev p : ProcId
p = record { 0 = 0 }

-- ---- declarations: a module with the lines Option Explicit, Static .. and Dim ..; a type with an array of fixed strings, one with a
-- field of that type, one of numbers

abbrev declares : VarWord → vb.Member
declares w = alone (record { place = record { file = 1; line = 1 }; text = []; form = variables w [] })

abbrev type_of_fields : List VarId → TypeDecl
type_of_fields fields = record { name = codes "T"; place = record { file = 1; line = 1 }; «module» = 1; fields = fields }

abbrev v : ℕ → VarId
v n = record { 0 = n }

abbrev field : ℕ → Owner
field t = owner.Field (record { 0 = t })

abbrev D : Declarations
D = record {
  project = record {
    file = record { kind = Exe; startup = None; entries = []; dropped = [] };
    modules = record {
      file = 1;
      name = codes "Main1";
      class = false;
      members = alone (record { place = record { file = 1; line = 1 }; text = []; form = option_explicit }) ∷ declares word.Static ∷ declares word.Dim ∷ [];
      comments = [];
    } ∷ [];
  };
  names = [];
  vars = var 3 (field 0) (array (fixed 4) 1) ∷ var 6 (field 1) (user 0) ∷ var 9 (field 2) long ∷ [];
  consts = [];
  procs = [];
  types = type_of_fields (v 0 ∷ []) ∷ type_of_fields (v 1 ∷ []) ∷ type_of_fields (v 2 ∷ []) ∷ [];
  enums = [];
  defaults = [];
}

the_parts_of_types : type_parts D ≡ (1, 0) ∷ []
the_parts_of_types = refl

the_fixed_types : fixed_types D ≡ 0 ∷ []
the_fixed_types = refl

-- by its one field
the_second_holds_one : HoldsFixed D 1
the_second_holds_one = (0, refl, longer 1 1 0 (empty 1) (0, omega arith, refl))

-- what chains tell of these types: the first two hold a fixed string
abbrev holds : ℕ → Bool
holds t = nat_lt t 2

abbrev breaks : (statement : ℕ) → Owner → Ty → Bool
breaks n o ty = breaks_declared D holds (var n o ty)

a_local : breaks 2 (owner.Local p) (fixed 3) ≡ false
a_local = refl

a_static_local : breaks 2 (owner.Static p) (fixed 3) ≡ true
a_static_local = refl

a_static_text : breaks 2 (owner.Static p) str ≡ false
a_static_text = refl

a_module_variable : breaks 2 (owner.Module 1) (fixed 3) ≡ false
a_module_variable = refl

a_static_module_variable : breaks 1 (owner.Module 1) (fixed 3) ≡ true
a_static_module_variable = refl

a_parameter : breaks 2 (owner.Reference p) (fixed 3) ≡ true
a_parameter = refl

a_parameter_by_value : breaks 2 (owner.Value p) (fixed 3) ≡ true
a_parameter_by_value = refl

a_result : breaks 2 (owner.Answer p) (fixed 3) ≡ true
a_result = refl

a_field : breaks 2 (field 0) (fixed 3) ≡ false
a_field = refl

an_array : breaks 2 (owner.Local p) (array (fixed 3) 0) ≡ true
an_array = refl

a_result_that_holds_one : breaks 2 (owner.Answer p) (user 1) ≡ true
a_result_that_holds_one = refl

a_result_that_holds_none : breaks 2 (owner.Answer p) (user 2) ≡ false
a_result_that_holds_none = refl

a_local_that_holds_one : breaks 2 (owner.Local p) (user 1) ≡ false
a_local_that_holds_one = refl

-- ---- lengths

the_lengths : lengths_from 0 (var 2 (owner.Local p) (fixed 3) ∷ var 3 (owner.Local p) str ∷ var 4 (owner.Local p) (fixed 8) ∷ []) ≡ (v 0, 3) ∷ (v 2, 8) ∷ []
the_lengths = refl

-- ---- lines: procedure 0 with a quiet parameter and one that isn't

abbrev quiet : Quiet
quiet = (true ∷ false ∷ []) ∷ []

abbrev f : Expr
f = typed (fixed 3) (variable (v 0) false)

abbrev s : Expr
s = typed str (variable (v 1) false)

abbrev as_text : Expr
as_text = typed str (convert str f)

abbrev given : Argument → Argument → Line
given a b = record {
  source = record { place = record { file = 1; line = 1 }; text = []; form = invoke me no_args };
  bindings = record { exprs = typed long (call p false no_object (next_passed a (next_passed b no_passed))) ∷ []; rules = none; mentions = [] };
}

to_the_quiet_one : breaks_given quiet (given (by_reference as_text) (by_reference s)) ≡ false
to_the_quiet_one = refl

to_the_other : breaks_given quiet (given (by_reference s) (by_reference as_text)) ≡ true
to_the_other = refl

to_the_other_as_it_is : breaks_given quiet (given (by_reference s) (by_reference f)) ≡ true
to_the_other_as_it_is = refl

to_the_other_as_a_variant : breaks_given quiet (given (by_reference s) (by_reference (typed variant (convert variant as_text)))) ≡ true
to_the_other_as_a_variant = refl

by_its_value : breaks_given quiet (given (by_reference s) (by_value as_text)) ≡ false
by_its_value = refl

-- within an argument of a call that is given by value
abbrev inner : Expr
inner = typed long (call p false no_object (next_passed (by_reference s) (next_passed (by_reference f) no_passed)))

within_an_argument : breaks_given quiet (given (by_reference s) (by_value inner)) ≡ true
within_an_argument = refl
