-- The module of support functions: those that the written modules use, and those which these use.
use Rattle.std.specs.Prelude.{ℕ, zero, suc, Bool, true, false, cond, ◌||◌, List, [], ◌∷◌, ◌++◌, map, filter, length, codes, Option, Some, None, slice_get}
use Rattle.std.specs.List.{flat_map, list_any, fold}
use Rattle.vb_tree.specs.BoundTree as vb
use Rattle.vb_tree.specs.BoundTree.{Ty}
use Rattle.vb_tree.specs.declared.declared.VarId.{VarId}
use Rattle.bound_tree.specs.declared.declared.TypeDecl.{TypeDecl}
use Rattle.bound_tree.specs.Tree.{Variable, Declarations}
use Rattle.bound_facts.specs.Members.{class_files}
use Rattle.net_tree.specs.declared.declaration.NetClose.TheVariants.{EndFunction}
use Rattle.net_tree.specs.declared.declaration.NetPassing.{NetPassing}
use Rattle.net_tree.specs.declared.declaration.NetPassing.TheVariants as passing
use Rattle.net_tree.specs.declared.declaration.NetVisibility.TheVariants.{Public}
use Rattle.net_tree.specs.declared.expression.NetBin.TheVariants as op
use Rattle.net_tree.specs.Spelling.{is_same_text}
use Rattle.net_tree.specs.Tree as net
use Rattle.net_tree.specs.Types.{TypeName}
use Rattle.net_tree.specs.Types as types
use Rattle.support_text.specs.Assignments.{the_put_short, the_put_boolean, the_put_byte, the_put_integer, the_put_decimal, the_put_string, the_put_object}
use Rattle.support_text.specs.Bounds.{the_cur, the_at, the_top, the_hi, the_lo}
use Rattle.support_text.specs.Errors.{the_err_number, the_raise, the_err_clear, the_not_upgraded}
use Rattle.support_text.specs.FixedTexts.{the_fix, the_fix_new}
use Rattle.support_text.specs.Needs.{is_path}
use Rattle.support_text.specs.Printing.{the_print_line, the_print_part, the_box, the_ask, the_cur_text, the_print_num, the_print_var}
use Rattle.support_text.specs.Variants.{the_rank, the_wider, the_num, the_fit}
use Rattle.support_text.specs.VariantConversions.{the_var_str, the_var_byte, the_var_short, the_var_int, the_var_bool, the_var_cur}
use Rattle.support_text.specs.VariantOperators.{the_var_add, the_var_sub, the_var_mul, the_var_div, the_var_mod, the_var_neg, the_var_not, the_var_and, the_var_or, the_var_xor, the_var_comp}
use Rattle.support_text.specs.Walk.{walk_module, walk_procedure}
use Rattle.written_trees.specs.Facts.{Facts, is_flagged_variable}
use Rattle.written_trees.specs.Names.{Path, alone, support, auto_name, class_path, copy_name, new_name}
use Rattle.written_trees.specs.Types.{type_with}
use Rattle.written_trees.specs.Literals.{number}
use Rattle.written_trees.specs.Conversions.{one, call_path}
use Rattle.written_trees.specs.Prologues.{extents}
use Rattle.written_trees.specs.Puts.{array_copy}

-- ---- functions that are the same for all projects

abbrev pub fixed_functions : List net.Procedure
fixed_functions =
    the_print_line ∷ the_print_part ∷ the_box ∷ the_ask ∷ the_cur_text ∷ the_print_num ∷ the_print_var
    ∷ the_cur ∷ the_at ∷ the_top ∷ the_hi ∷ the_lo ∷ the_fix ∷ the_fix_new ∷ the_err_number ∷ the_raise ∷ the_err_clear ∷ the_not_upgraded
    ∷ the_rank ∷ the_wider ∷ the_num ∷ the_fit
    ∷ the_var_add ∷ the_var_sub ∷ the_var_mul ∷ the_var_div ∷ the_var_mod ∷ the_var_neg ∷ the_var_not ∷ the_var_and ∷ the_var_or ∷ the_var_xor
    ∷ the_var_str ∷ the_var_comp ∷ the_var_byte ∷ the_var_short ∷ the_var_int ∷ the_var_bool ∷ the_var_cur
    ∷ the_put_short ∷ the_put_boolean ∷ the_put_byte ∷ the_put_integer ∷ the_put_decimal ∷ the_put_string ∷ the_put_object
    ∷ []

-- ---- functions that are made for classes and user types

abbrev pub local_exp : List ℕ → net.Exp
local_exp name = net.path (alone name)

abbrev pub parameter : NetPassing → List ℕ → TypeName → List net.Param
parameter way name ty = record { passing = way; name = name; ty = ty } ∷ []

abbrev pub function_with : List ℕ → List net.Param → TypeName → List net.Dim → List net.Line → net.Procedure
function_with name params ty prologue lines = record { head = net.function Public name params ty; prologue = prologue; lines = lines; close = EndFunction }

-- an object of a class where there is none
abbrev pub auto_function : Declarations → (class : ℕ) → net.Procedure
auto_function D c =
    let ty = types.named (class_path D c) in
    let x = local_exp (codes "x") in
    function_with (auto_name D c) (parameter passing.Reference (codes "x") ty) ty []
    (net.if_head (net.binary op.Is x net.nothing) ∷ net.assign x (net.new_object ty net.no_exps) ∷ net.end_if ∷ net.assign (local_exp (auto_name D c)) x ∷ [])

-- in the support module each user type stands behind the name of its module
abbrev pub support_type : Declarations → (rank : ℕ) → Ty → TypeName
support_type D rank ty = type_with D 0 true rank ty

abbrev pub user_name : Declarations → (user_type : ℕ) → TypeName
user_name D t = support_type D 1 (vb.user t)

abbrev pub field_path : (of : List ℕ) → List ℕ → net.Exp
field_path of name = net.path (of ∷ name ∷ [])

abbrev pub if_holds : Bool → net.Exp → Option net.Exp
if_holds holds e = cond holds (Some e) None

-- what a field begins with, where it has to be made
abbrev pub made_field : Declarations → Facts → (variable : ℕ) → Variable → Ty → Option net.Exp
made_field D F v x (vb.fixed units) = Some (call_path (alone (codes "FixNew")) (one (number units)))
made_field D F v x (vb.array e rank) = Some (net.new_array (support_type D 1 e) (extents (F.rank v) x.bounds))
made_field D F v x (vb.user t) = if_holds (F.is_made t) (call_path (alone (new_name t)) net.no_exps)
made_field D F v x ty = None

-- a field that has to be copied: an array, or what holds one
abbrev pub copied_field : Declarations → Facts → (variable : ℕ) → Variable → Ty → Option net.Exp
copied_field D F v x (vb.array e rank) = Some (array_copy (support_type D (F.rank v) (vb.array e rank)) (field_path (codes "x") x.name))
copied_field D F v x (vb.user t) = if_holds (F.holds_array t) (call_path (alone (copy_name t)) (one (field_path (codes "x") x.name)))
copied_field D F v x ty = None

abbrev pub set_field : List ℕ → Option net.Exp → List net.Line
set_field name None = []
set_field name (Some e) = net.assign (field_path (codes "r") name) e ∷ []

-- a field that carries an issue has no line
abbrev pub field_line : (ℕ → Variable → Ty → Option net.Exp) → Facts → (variable : ℕ) → Option Variable → List net.Line
field_line value F v None = []
field_line value F v (Some x) = cond (is_flagged_variable F v) [] (set_field x.name (value v x x.ty))

abbrev pub field_lines : (ℕ → Variable → Ty → Option net.Exp) → Declarations → Facts → TypeDecl → List net.Line
field_lines value D F d = flat_map (λ (f : VarId). field_line value F f.0 (slice_get D.vars f.0)) d.fields

abbrev pub result_local : TypeName → Option net.Exp → List net.Dim
result_local ty value = net.local (record { name = codes "r"; ty = ty; value = value }) ∷ []

abbrev pub give : List ℕ → List net.Line
give name = net.assign (local_exp name) (local_exp (codes "r")) ∷ []

abbrev pub new_function : Declarations → Facts → (user_type : ℕ) → TypeDecl → net.Procedure
new_function D F t d =
    function_with (new_name t) [] (user_name D t) (result_local (user_name D t) None) (field_lines (made_field D F) D F d ++ give (new_name t))

abbrev pub copy_function : Declarations → Facts → (user_type : ℕ) → TypeDecl → net.Procedure
copy_function D F t d =
    function_with (copy_name t) (parameter passing.Value (codes "x") (user_name D t)) (user_name D t)
    (result_local (user_name D t) (Some (local_exp (codes "x")))) (field_lines (copied_field D F) D F d ++ give (copy_name t))

abbrev pub autos_from : Declarations → (class : ℕ) → List ℕ → List net.Procedure
autos_from D c [] = []
autos_from D c (file ∷ files) = auto_function D c ∷ autos_from D (suc c) files

abbrev pub type_functions : Declarations → Facts → (user_type : ℕ) → TypeDecl → List net.Procedure
type_functions D F t d = cond (F.is_made t) (new_function D F t d ∷ []) [] ++ cond (F.holds_array t) (copy_function D F t d ∷ []) []

abbrev pub types_from : Declarations → Facts → (user_type : ℕ) → List TypeDecl → List net.Procedure
types_from D F t [] = []
types_from D F t (d ∷ ds) = type_functions D F t d ++ types_from D F (suc t) ds

-- all functions that a project's modules can use, in their order
abbrev pub all_functions : Declarations → Facts → List net.Procedure
all_functions D F = fixed_functions ++ (autos_from D 0 (class_files D.project) ++ types_from D F 0 D.types)

-- ---- those that are used

abbrev pub name_of_head : net.Head → List ℕ
name_of_head (net.sub visibility name params) = name
name_of_head (net.function visibility name params ty) = name
name_of_head _ = []

abbrev pub function_name : net.Procedure → List ℕ
function_name p = name_of_head p.head

-- whether a path is the wanted one, or that was met before
abbrev pub met : Path → Bool → Path → Bool
met wanted before names = is_path names wanted || before

-- whether modules use a function
abbrev pub is_used : List net.Module → net.Procedure → Bool
is_used modules f = fold (walk_module (met (support (function_name f)))) false modules

-- whether a function calls another, by its name alone
abbrev pub calls : net.Procedure → net.Procedure → Bool
calls f g = walk_procedure (met (alone (function_name g))) false f

abbrev pub is_same_function : net.Procedure → net.Procedure → Bool
is_same_function f g = is_same_text (function_name f) (function_name g)

-- whether a function leads to another by at most as many calls, among all
abbrev pub leads_within : List net.Procedure → ℕ → net.Procedure → net.Procedure → Bool
leads_within all zero f g = is_same_function f g
leads_within all (suc n) f g = is_same_function f g || list_any (λ h. leads_within all n h g) (filter (calls f) all)

-- no chain of calls has more than there are functions
abbrev pub is_needed : List net.Procedure → List net.Module → net.Procedure → Bool
is_needed all modules g = list_any (λ f. leads_within all (length all) f g) (filter (is_used modules) all)

abbrev pub support_module : Declarations → Facts → List net.Module → net.Module
support_module D F modules = record {
  name = codes "UpgradeSupport";
  class = false;
  members = map net.proc (filter (is_needed (all_functions D F) modules) (all_functions D F));
}
