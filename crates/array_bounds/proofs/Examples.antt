-- Worked examples of the rules, computed.
use Rattle.std.proofs.Common.{◌≡◌, ℕ, ℤ, Bool, true, false, List, [], ◌∷◌, Some, None, refl, arith, pos, codes, nat_eq}
use Rattle.std.specs.Prelude.{◌&&◌}
use Rattle.up_base.specs.declared.place.Place.{Place}
use Rattle.reach_table.specs.Chains.{empty, longer}
use Rattle.vb_tree.specs.BoundTree.{Ty, integer, long, user, class, array, nothing, unknown}
use Rattle.vb_tree.specs.declared.bound.LibCall.TheVariants as lib
use Rattle.vb_tree.specs.declared.declared.Owner.{Owner}
use Rattle.vb_tree.specs.declared.declared.Owner.TheVariants as owner
use Rattle.vb_tree.specs.declared.declared.ProcId.{ProcId}
use Rattle.vb_tree.specs.declared.declared.ProcKind.{ProcKind}
use Rattle.vb_tree.specs.declared.declared.ProcKind.TheVariants as kind
use Rattle.vb_tree.specs.declared.declared.VarId.{VarId}
use Rattle.vb_tree.specs.declared.expression.BinOp.TheVariants as op
use Rattle.vb_tree.specs.declared.form_parts.Visibility.TheVariants as visibility
use Rattle.vb_tree.specs.declared.project.ProjectKind.TheVariants.{Exe}
use Rattle.vb_tree.specs.declared.value.Value6.TheVariants as v
use Rattle.vb_tree.specs.Tree.{Form, Bounds, me, no_args}
use Rattle.vb_tree.specs.Tree as vb
use Rattle.bound_tree.specs.declared.expression.Origin.TheVariants.{Literal}
use Rattle.bound_tree.specs.declared.expression.Root.{Root}
use Rattle.bound_tree.specs.declared.expression.Root.TheVariants as root
use Rattle.bound_tree.specs.RuleSets.{none}
use Rattle.bound_tree.specs.Tree.{Expr, typed, constant, variable, field, element, call, library, binary, convert, with_object, loose, Exprs, no_exprs, next_expr, no_object, Argument, by_value, by_reference, Passed, no_passed, next_passed, Line, Variable, Procedure, Declarations, Program}
use Rattle.bound_facts.specs.Bounds.{ties}
use Rattle.bound_facts.specs.Calls as procedures
use Rattle.bound_facts.specs.Locks.{is_same_type, lockers}
use Rattle.array_bounds.specs.declared.givens.Given.{Given}
use Rattle.array_bounds.specs.Declaring.{breaks_head, breaks_variable, splits_variable}
use Rattle.array_bounds.specs.Elements.{breaks_forms}
use Rattle.array_bounds.specs.Facts.{IsSplit, IsTorn, two_ranks}
use Rattle.array_bounds.specs.Found.{low_items, rank_items}
use Rattle.array_bounds.specs.Givens.{all_lows, all_ranks}
use Rattle.array_bounds.specs.Known.{Known}
use Rattle.array_bounds.specs.Locking.{breaks_locks, elements, line_elements}
use Rattle.array_bounds.specs.Resizing.{breaks_lows, breaks_form}

abbrev file : Place
file = record { file = 1; line = 1 }

abbrev p : ℕ → ProcId
p n = record { 0 = n }

abbrev x : ℕ → VarId
x n = record { 0 = n }

abbrev var : Owner → Ty → Variable
var o ty = record { name = codes "x"; place = file; statement = 0; owner = o; ty = ty; named = ty; qualified = false; lettered = None; bounds = []; auto = false; preset = None }

abbrev procedure : ProcKind → List VarId → Ty → Procedure
procedure k params result = record { name = codes "P"; place = file; module_number = 1; kind = k; visibility = visibility.Public; params = params; result = result; answer = None; first = p 0 }

-- Type Box: T() As Long: End Type
-- Sub Work(m As Long, ByVal k As Long), Sub Grow(t() As Long), Function Shrink() As Long
-- Dim a() As Long, f(3) As Long, n As Long, s As Box, g(2, 2) As Long, i(3) As Integer
abbrev D : Declarations
D = record {
  project = record { file = record { kind = Exe; startup = None; entries = []; dropped = [] }; modules = [] };
  names = [];
  vars = var (owner.Module 1) (array long 0) ∷ var (owner.Module 1) (array long 1) ∷ var (owner.Module 1) long
      ∷ var (owner.Reference (p 0)) long ∷ var (owner.Value (p 0)) long ∷ var (owner.Reference (p 1)) (array long 0)
      ∷ var (owner.Module 1) (user 0) ∷ var (owner.Field (record { 0 = 0 })) (array long 0) ∷ var (owner.Module 1) (array long 2)
      ∷ var (owner.Module 1) (array integer 1) ∷ [];
  consts = [];
  procs = procedure kind.Sub (x 3 ∷ x 4 ∷ []) nothing ∷ procedure kind.Sub (x 5 ∷ []) nothing ∷ procedure kind.Function [] long ∷ [];
  types = record { name = codes "Box"; place = file; «module» = 1; fields = x 7 ∷ [] } ∷ [];
  enums = [];
  defaults = [];
}

-- g has rank 2; a has two lower bounds; Grow resizes its parameter; Shrink gives arrays of Long other elements
abbrev F : Known
F = record {
  low = λ d a. pos 1;
  rank = λ a. elim (nat_eq a 8) [ true ↦ 2 | false ↦ 1 ];
  splits = λ a. nat_eq a 0;
  tears = λ a. nat_eq a 9;
  resized = λ v. nat_eq v 5;
  holds_array = λ t. nat_eq t 0;
  holds_made = λ t. nat_eq t 0;
  locks = λ ty q. is_same_type ty long && nat_eq q 2;
}

-- ---- expressions

abbrev a : Expr
a = typed (array long 0) (variable (x 0) false)

abbrev f : Expr
f = typed (array long 1) (variable (x 1) false)

abbrev n : Expr
n = typed long (variable (x 2) false)

abbrev s : Expr
s = typed (user 0) (variable (x 6) false)

abbrev g : Expr
g = typed (array long 2) (variable (x 8) false)

abbrev i : Expr
i = typed (array integer 1) (variable (x 9) false)

abbrev lost : Expr
lost = typed unknown (loose me none)

abbrev number : ℕ → Expr
number k = typed long (constant (v.Long (pos k)) Literal)

-- s.T, o.T and, in a With, .T
abbrev field_of_type : Expr
field_of_type = typed (array long 0) (field s 0)

abbrev field_of_object : Expr
field_of_object = typed (array long 0) (field (typed (class 0) (variable (x 2) false)) 0)

abbrev field_of_with : Root → Expr
field_of_with r = typed (array long 0) (field (typed (user 0) (with_object r)) 0)

abbrev at : Form → List Expr → Line
at form es = record { source = record { place = file; text = []; form = form }; bindings = record { exprs = es; rules = none; mentions = [] } }

-- ---- lower bounds

abbrev both : Bounds
both = record { lower = Some me; upper = me }

abbrev upper : Bounds
upper = record { lower = None; upper = me }

abbrev redim : (preserve : Bool) → List Bounds → Form
redim preserve bounds = vb.redim preserve (record { array = me; bounds = bounds; ty = None } ∷ [])

constant_low : breaks_lows (at (redim false (both ∷ [])) (a ∷ number 1 ∷ number 5 ∷ [])) ≡ false
constant_low = refl

low_of_a_sum : breaks_lows (at (redim false (both ∷ [])) (a ∷ typed long (binary op.Add (number 1) (number 2)) ∷ n ∷ [])) ≡ false
low_of_a_sum = refl

variable_low : breaks_lows (at (redim false (both ∷ [])) (a ∷ n ∷ number 5 ∷ [])) ≡ true
variable_low = refl

variable_low_of_the_second : breaks_lows (at (redim false (upper ∷ both ∷ [])) (a ∷ n ∷ n ∷ number 5 ∷ [])) ≡ true
variable_low_of_the_second = refl

no_low : breaks_lows (at (redim false (upper ∷ [])) (a ∷ n ∷ [])) ≡ false
no_low = refl

low_without_a_type : breaks_lows (at (redim false (both ∷ [])) (a ∷ lost ∷ number 5 ∷ [])) ≡ false
low_without_a_type = refl

-- ---- arrays that are made anew, erased or assigned whole

abbrev makes : (preserve : Bool) → List Bounds → Expr → Bool
makes preserve bounds e = breaks_form (redim preserve bounds) (e ∷ number 1 ∷ number 2 ∷ number 3 ∷ [])

redim_of_an_array : makes false (upper ∷ []) a ≡ false
redim_of_an_array = refl

redim_of_a_number : makes false (upper ∷ []) n ≡ true
redim_of_a_number = refl

redim_of_a_fixed_one : makes false (upper ∷ []) f ≡ true
redim_of_a_fixed_one = refl

redim_of_a_field : makes false (upper ∷ []) field_of_type ≡ false
redim_of_a_field = refl

redim_of_a_field_of_an_object : makes false (upper ∷ []) field_of_object ≡ true
redim_of_a_field_of_an_object = refl

redim_in_a_with_of_a_variable : makes false (upper ∷ []) (field_of_with (root.Variable (x 6))) ≡ false
redim_in_a_with_of_a_variable = refl

redim_in_a_with_of_an_object : makes false (upper ∷ []) (field_of_with root.Object) ≡ true
redim_in_a_with_of_an_object = refl

redim_of_two_dimensions : makes false (upper ∷ upper ∷ []) a ≡ false
redim_of_two_dimensions = refl

redim_of_three_dimensions : makes false (upper ∷ upper ∷ upper ∷ []) a ≡ true
redim_of_three_dimensions = refl

preserve_one_dimension : makes true (upper ∷ []) a ≡ false
preserve_one_dimension = refl

preserve_two_dimensions : makes true (upper ∷ upper ∷ []) a ≡ true
preserve_two_dimensions = refl

redim_without_a_type : makes true (upper ∷ upper ∷ upper ∷ []) lost ≡ false
redim_without_a_type = refl

erase_of_an_array : breaks_form (vb.erase me) (a ∷ []) ≡ false
erase_of_an_array = refl

erase_of_a_fixed_one : breaks_form (vb.erase me) (f ∷ []) ≡ true
erase_of_a_fixed_one = refl

erase_of_a_call : breaks_form (vb.erase me) (typed long (call (p 2) false no_object no_passed) ∷ []) ≡ true
erase_of_a_call = refl

erase_without_a_type : breaks_form (vb.erase me) (lost ∷ []) ≡ false
erase_without_a_type = refl

copy_to_a_fixed_one : breaks_form (vb.assign me me) (f ∷ a ∷ []) ≡ true
copy_to_a_fixed_one = refl

copy_of_a_fixed_one : breaks_form (vb.assign me me) (a ∷ f ∷ []) ≡ false
copy_of_a_fixed_one = refl

-- ---- uses of arrays

abbrev uses : Expr → Bool
uses e = breaks_forms D F (at (vb.assign me me) (n ∷ e ∷ []))

abbrev item : Expr → Exprs → Expr
item array_there indexes = typed long (element array_there indexes)

abbrev one : Exprs
one = next_expr n no_exprs

abbrev two : Exprs
two = next_expr n one

one_index : uses (item a one) ≡ false
one_index = refl

two_indexes : uses (item a two) ≡ true
two_indexes = refl

two_indexes_of_rank_two : uses (item g two) ≡ false
two_indexes_of_rank_two = refl

an_index_of_rank_two : uses (item g one) ≡ true
an_index_of_rank_two = refl

index_that_misfits_within : uses (item a (next_expr (item g one) no_exprs)) ≡ true
index_that_misfits_within = refl

bound_of_the_first : uses (typed long (library lib.UBound (next_expr a no_exprs))) ≡ false
bound_of_the_first = refl

bound_of_the_second : uses (typed long (library lib.LBound (next_expr a (next_expr (number 2) no_exprs)))) ≡ true
bound_of_the_second = refl

bound_of_the_second_of_rank_two : uses (typed long (library lib.LBound (next_expr g (next_expr (number 2) no_exprs)))) ≡ false
bound_of_the_second_of_rank_two = refl

abbrev calls : ProcId → Passed → Line
calls q args = at (vb.invoke me no_args) (typed nothing (call q false no_object args) ∷ [])

fixed_array_to_grow : breaks_forms D F (calls (p 1) (next_passed (by_reference f) no_passed)) ≡ true
fixed_array_to_grow = refl

free_array_to_grow : breaks_forms D F (calls (p 1) (next_passed (by_reference a) no_passed)) ≡ false
free_array_to_grow = refl

-- ---- elements that are given by reference

abbrev work : Expr → Argument → Bool
work e other = breaks_locks D F (calls (p 0) (next_passed (by_reference e) (next_passed other no_passed)))

abbrev shrink : Expr
shrink = typed long (call (p 2) false no_object no_passed)

-- Work a(n), n
element_alone : work (item a one) (by_value n) ≡ false
element_alone = refl

-- Work a(n), Shrink()
element_beside_a_move : work (item a one) (by_value shrink) ≡ true
element_beside_a_move = refl

-- Work n, Shrink()
variable_beside_a_move : work n (by_value shrink) ≡ false
variable_beside_a_move = refl

-- Work a(Shrink()), n: the index is evaluated before the element is bound
move_in_its_own_index : work (item a (next_expr shrink no_exprs)) (by_value n) ≡ false
move_in_its_own_index = refl

-- Work a(n) + 0, Shrink(), as a conversion
converted_element : work (typed long (convert long (item a one))) (by_value shrink) ≡ false
converted_element = refl

-- an element of another type
other_element : work (typed integer (element i one)) (by_value shrink) ≡ false
other_element = refl

-- a field of an element of an array of Box; the elements are no Longs
field_of_an_element : work (typed (array long 0) (field (typed (user 0) (element (typed (array (user 0) 1) (variable (x 6) false)) one)) 0)) (by_value shrink) ≡ false
field_of_an_element = refl

-- Shrink itself, if it had a parameter
element_to_one_that_moves : breaks_locks D F (calls (p 2) (next_passed (by_reference (item a one)) no_passed)) ≡ true
element_to_one_that_moves = refl

element_without_a_type : work lost (by_value shrink) ≡ false
element_without_a_type = refl

types_asked_for : line_elements (calls (p 0) (next_passed (by_reference (item a one)) (next_passed (by_value (item i one)) no_passed))) ≡ long ∷ []
types_asked_for = refl

-- ---- declarations

split_array : splits_variable F 0 (var (owner.Module 1) (array long 0)) ≡ true
split_array = refl

array_that_is_not : splits_variable F 1 (var (owner.Module 1) (array long 1)) ≡ false
array_that_is_not = refl

variable_of_another_type : splits_variable F 0 (var (owner.Module 1) unknown) ≡ false
variable_of_another_type = refl

torn_array : breaks_variable F 9 (var (owner.Module 1) (array integer 1)) ≡ true
torn_array = refl

array_of_boxes : breaks_variable F 1 (var (owner.Module 1) (array (user 0) 1)) ≡ true
array_of_boxes = refl

array_of_others : breaks_variable F 1 (var (owner.Module 1) (array (user 1) 1)) ≡ false
array_of_others = refl

box_alone : breaks_variable F 1 (var (owner.Module 1) (user 0)) ≡ false
box_alone = refl

-- ---- heads

function_of_an_array : breaks_head D F (procedure kind.Function [] (array long 0)) ≡ true
function_of_an_array = refl

function_of_a_box : breaks_head D F (procedure kind.Get [] (user 0)) ≡ true
function_of_a_box = refl

function_of_a_number : breaks_head D F (procedure kind.Function [] long) ≡ false
function_of_a_number = refl

function_without_a_type : breaks_head D F (procedure kind.Function [] unknown) ≡ false
function_without_a_type = refl

property_of_an_array : breaks_head D F (procedure kind.Let (x 2 ∷ x 5 ∷ []) nothing) ≡ true
property_of_an_array = refl

property_with_an_array_as_index : breaks_head D F (procedure kind.Let (x 5 ∷ x 2 ∷ []) nothing) ≡ false
property_with_an_array_as_index = refl

sub_with_an_array : breaks_head D F (procedure kind.Sub (x 5 ∷ []) nothing) ≡ false
sub_with_an_array = refl

-- ---- lists

the_lows : low_items F 7 (var (owner.Module 1) (array long 0) ∷ var (owner.Module 1) (array long 2) ∷ var (owner.Module 1) long ∷ []) ≡ (x 7, pos 1, pos 0) ∷ (x 8, pos 1, pos 1) ∷ []
the_lows = refl

the_ranks : rank_items F 7 (var (owner.Module 1) long ∷ var (owner.Module 1) (array long 2) ∷ []) ≡ (x 8, 2) ∷ []
the_ranks = refl

-- ---- a project

abbrev local : Ty → Variable
local ty = var (owner.Local (p 1)) ty

abbrev dynamic : ℕ → Expr
dynamic k = typed (array long 0) (variable (x k) false)

-- Sub Work(m As Long), and Sub Main with Dim a() As Long, b() As Long, c() As Long, n As Long:
-- ReDim a(5): ReDim b(1 To 5): a = b: ReDim c(2, 3): Work a(n): Shrink
-- Sub Shrink, with Dim d() As Long: ReDim d(2): ReDim d(2, 2)
abbrev P : Program
P = record {
  declarations = record {
    project = D.project;
    names = [];
    vars = var (owner.Reference (p 0)) long ∷ local (array long 0) ∷ local (array long 0) ∷ local (array long 0) ∷ local long ∷ var (owner.Local (p 2)) (array long 0) ∷ [];
    consts = [];
    procs = procedure kind.Sub (x 0 ∷ []) nothing ∷ procedure kind.Sub [] nothing ∷ procedure kind.Sub [] nothing ∷ [];
    types = [];
    enums = [];
    defaults = [];
  };
  bodies = []
      ∷ (at (redim false (upper ∷ [])) (dynamic 1 ∷ number 5 ∷ [])
      ∷ at (redim false (both ∷ [])) (dynamic 2 ∷ number 1 ∷ number 5 ∷ [])
      ∷ at (vb.assign me me) (dynamic 1 ∷ dynamic 2 ∷ [])
      ∷ at (redim false (upper ∷ upper ∷ [])) (dynamic 3 ∷ number 2 ∷ number 3 ∷ [])
      ∷ calls (p 0) (next_passed (by_reference (typed long (element (dynamic 1) (next_expr (typed long (variable (x 4) false)) no_exprs)))) no_passed)
      ∷ calls (p 2) no_passed ∷ [])
      ∷ (at (redim false (upper ∷ [])) (dynamic 5 ∷ number 2 ∷ []) ∷ at (redim false (upper ∷ upper ∷ [])) (dynamic 5 ∷ number 2 ∷ number 2 ∷ []) ∷ [])
      ∷ [];
}

tied : ties P ≡ (1, 2) ∷ []
tied = refl

abbrev given : (array dimension : ℕ) → ℤ → Given
given a d z = record { array = a; dimension = d; number = z }

all_given_lows : all_lows P ≡ given 1 0 (pos 0) ∷ given 2 0 (pos 1) ∷ given 3 0 (pos 0) ∷ given 3 1 (pos 0) ∷ given 5 0 (pos 0) ∷ given 5 0 (pos 0) ∷ given 5 1 (pos 0) ∷ []
all_given_lows = refl

all_given_ranks : all_ranks P ≡ given 1 0 (pos 1) ∷ given 2 0 (pos 1) ∷ given 3 0 (pos 2) ∷ given 5 0 (pos 1) ∷ given 5 0 (pos 2) ∷ []
all_given_ranks = refl

-- a has 0 by its own ReDim, and 1 by that of b
a_is_split : IsSplit P 1
a_is_split = record {
  dimension = 0;
  one = pos 0;
  other = pos 1;
  one_is = (1, empty 1, (0, omega arith, refl));
  other_is = (2, longer 1 1 2 (empty 1) (0, omega arith, refl), (1, omega arith, refl));
  differ = λ e. absurd (cc e);
}

d_is_torn : IsTorn P 5
d_is_torn = two_ranks 1 2 (5, empty 5, (3, omega arith, refl)) (5, empty 5, (4, omega arith, refl)) (λ e. absurd (cc e))

elements_given : elements P ≡ long ∷ []
elements_given = refl

-- Main and Shrink make arrays of Long anew, and Main calls both others
who_makes : lockers P (λ t. false) long ≡ 1 ∷ 1 ∷ 1 ∷ 1 ∷ 2 ∷ 2 ∷ []
who_makes = refl

who_calls : procedures.calls P ≡ (1, 0) ∷ (1, 2) ∷ []
who_calls = refl
