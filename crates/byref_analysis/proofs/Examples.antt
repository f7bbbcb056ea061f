-- Worked examples of the rules, computed.
use Rattle.std.proofs.Common.{◌≡◌, ℕ, Bool, true, false, List, [], ◌∷◌, Some, None, refl, pos, codes}
use Rattle.vb_tree.specs.BoundTree.{Ty, integer, long, user, class, nothing, unknown, array}
use Rattle.vb_tree.specs.declared.declared.Owner.{Owner}
use Rattle.vb_tree.specs.declared.declared.Owner.TheVariants as owner
use Rattle.vb_tree.specs.declared.declared.ProcId.{ProcId}
use Rattle.vb_tree.specs.declared.declared.ProcKind.{ProcKind}
use Rattle.vb_tree.specs.declared.declared.ProcKind.TheVariants as kind
use Rattle.vb_tree.specs.declared.declared.VarId.{VarId}
use Rattle.vb_tree.specs.declared.expression.BinOp.TheVariants as op
use Rattle.vb_tree.specs.declared.form_parts.Visibility.TheVariants as visibility
use Rattle.vb_tree.specs.declared.project.ProjectKind.TheVariants.{Exe}
use Rattle.vb_tree.specs.declared.value.Value6.TheVariants as v
use Rattle.vb_tree.specs.Tree.{Form, Bounds, me, no_args, invoke, assign, set}
use Rattle.vb_tree.specs.Tree as vb
use Rattle.bound_tree.specs.declared.expression.Origin.TheVariants.{Literal}
use Rattle.bound_tree.specs.declared.expression.Root.TheVariants as at_root
use Rattle.bound_tree.specs.RuleSets.{none}
use Rattle.bound_tree.specs.Tree.{Variable, Procedure, Declarations, Expr, typed, constant, variable, field, element, call, binary, convert, new_object, with_object, loose, no_object, of_object, no_exprs, next_expr, Argument, by_reference, by_value, no_passed, next_passed, Line}
use Rattle.bound_tree.specs.Tree as tree
use Rattle.bound_facts.specs.Facts.{Known, is_quiet, stirs}
use Rattle.bound_facts.specs.Leading.{is_in}
use Rattle.byref_analysis.specs.Properties.{breaks_head, is_open_property}
use Rattle.byref_analysis.specs.Quiet.{inward_flags, quiet_flags}
use Rattle.byref_analysis.specs.Rows.{breaks, head_rules}

-- ---- a project: Main, Take (which counts in a module variable), Inc (which changes its parameter), Peek (which reads it), a property P
-- with an index by reference and one by value, a property Q with two parts, of which the first prints

abbrev p : ℕ → ProcId
p n = record { 0 = n }

abbrev x : ℕ → VarId
x n = record { 0 = n }

abbrev var : Owner → Ty → Variable
var o ty = record { name = codes "x"; place = record { file = 1; line = 1 }; statement = 0; owner = o; ty = ty; named = ty; qualified = false; lettered = None; bounds = []; auto = false; preset = None }

abbrev procedure : ProcKind → List VarId → Ty → (first : ℕ) → Procedure
procedure k params result first = record {
  name = codes "P";
  place = record { file = 1; line = 1 };
  module_number = 1;
  kind = k;
  visibility = visibility.Public;
  params = params;
  result = result;
  answer = None;
  first = p first;
}

abbrev D : Declarations
D = record {
  project = record { file = record { kind = Exe; startup = None; entries = []; dropped = [] }; modules = [] };
  names = [];
  vars = var (owner.Module 1) long
      ∷ var (owner.Module 1) (array long 1)
      ∷ var (owner.Module 1) (array long 0)
      ∷ var (owner.Local (p 0)) long
      ∷ var (owner.Local (p 0)) integer
      ∷ var (owner.Local (p 0)) (class 0)
      ∷ var (owner.Reference (p 2)) long
      ∷ var (owner.Reference (p 3)) long
      ∷ var (owner.Reference (p 4)) long
      ∷ var (owner.Value (p 4)) long
      ∷ var (owner.Reference (p 5)) long
      ∷ var (owner.Reference (p 6)) long
      ∷ var (owner.Value (p 6)) long ∷ [];
  consts = [];
  procs = procedure kind.Sub [] nothing 0
      ∷ procedure kind.Function [] long 1
      ∷ procedure kind.Sub (x 6 ∷ []) nothing 2
      ∷ procedure kind.Function (x 7 ∷ []) long 3
      ∷ procedure kind.Get (x 8 ∷ x 9 ∷ []) long 4
      ∷ procedure kind.Get (x 10 ∷ []) long 5
      ∷ procedure kind.Let (x 11 ∷ x 12 ∷ []) nothing 5 ∷ [];
  types = [];
  enums = [];
  defaults = [];
}

-- Main, Take and the first part of Q aren't inward, the parameter of Inc is changed
abbrev F : Known
F = record { outward = is_in (0 ∷ 1 ∷ 5 ∷ []); touched = is_in (0 ∷ 3 ∷ 6 ∷ []); resized = is_in []; unplain = is_in [] }

the_inward : inward_flags F.outward D.procs ≡ false ∷ false ∷ true ∷ true ∷ true ∷ false ∷ true ∷ []
the_inward = refl

-- a value parameter is never quiet
the_quiet : quiet_flags (is_quiet D F) D.procs ≡ [] ∷ [] ∷ (false ∷ []) ∷ (true ∷ []) ∷ (true ∷ false ∷ []) ∷ (false ∷ []) ∷ (true ∷ false ∷ []) ∷ []
the_quiet = refl

-- ---- heads: both of Q, since the index of its first part isn't quiet; not that of P

abbrev head_breaks : Procedure → Bool
head_breaks q = breaks_head (is_open_property D (is_quiet D F)) q

first_part : head_breaks (procedure kind.Get (x 10 ∷ []) long 5) ≡ true
first_part = refl

second_part : head_breaks (procedure kind.Let (x 11 ∷ x 12 ∷ []) nothing 5) ≡ true
second_part = refl

quiet_index : head_breaks (procedure kind.Get (x 8 ∷ x 9 ∷ []) long 4) ≡ false
quiet_index = refl

-- a Sub with such a parameter is no property
no_property : head_breaks (procedure kind.Sub (x 6 ∷ []) nothing 2) ≡ false
no_property = refl

-- ---- lines

abbrev at : Form → List Expr → Line
at form es = record { source = record { place = record { file = 1; line = 1 }; text = []; form = form }; bindings = record { exprs = es; rules = none; mentions = [] } }

abbrev line_breaks : Line → ℕ → Bool
line_breaks l rule = breaks D (is_quiet D F) (stirs D F) l rule

abbrev read : ℕ → Ty → Expr
read n ty = typed ty (variable (x n) false)

abbrev k : Expr
k = read 3 long

abbrev short : Expr
short = read 4 integer

abbrev o : Expr
o = read 5 (class 0)

abbrev five : Expr
five = typed long (constant (v.Long (pos 5)) Literal)

abbrev as_long : Expr → Expr
as_long e = typed long (convert long e)

abbrev field_of : Expr → Expr
field_of e = typed long (field e 0)

abbrev one : ℕ → Ty → Argument → Expr
one q ty a = typed ty (call (p q) false no_object (next_passed a no_passed))

abbrev two : ℕ → Argument → Argument → Expr
two q a b = typed long (call (p q) false no_object (next_passed a (next_passed b no_passed)))

abbrev take_one : Expr
take_one = typed long (call (p 1) false no_object no_passed)

-- an expression without a type
abbrev floating : Expr
floating = typed unknown (loose me none)

-- ---- arguments

abbrev given : Expr → Bool
given e = line_breaks (at (invoke me no_args) (e ∷ [])) 8

-- Inc k, Inc short, Peek(short)
a_variable : given (one 2 nothing (by_reference k)) ≡ false
a_variable = refl

of_another_type : given (one 2 nothing (by_reference (as_long short))) ≡ true
of_another_type = refl

to_a_quiet_one : given (one 3 long (by_reference (as_long short))) ≡ false
to_a_quiet_one = refl

in_parentheses : given (one 2 nothing (by_value (as_long short))) ≡ false
in_parentheses = refl

-- Inc o.n, Inc o.u.x, Inc o.t(5), Peek(o.n)
a_field_of_an_object : given (one 2 nothing (by_reference (field_of o))) ≡ true
a_field_of_an_object = refl

a_field_of_a_field : given (one 2 nothing (by_reference (field_of (typed (user 0) (field o 1))))) ≡ true
a_field_of_a_field = refl

an_element_in_an_object : given (one 2 nothing (by_reference (typed long (element (typed (array long 1) (field o 2)) (next_expr five no_exprs))))) ≡ false
an_element_in_an_object = refl

a_field_to_a_quiet_one : given (one 3 long (by_reference (field_of o))) ≡ false
a_field_to_a_quiet_one = refl

-- Inc .n in a With over an object, and over a user type
a_field_in_a_with : given (one 2 nothing (by_reference (field_of (typed (class 0) (with_object at_root.Object))))) ≡ true
a_field_in_a_with = refl

a_part_of_a_kept_type : given (one 2 nothing (by_reference (field_of (typed (user 0) (with_object at_root.Object))))) ≡ false
a_part_of_a_kept_type = refl

-- within an argument that is given by value
within_an_argument : given (one 3 long (by_value (one 2 long (by_reference (as_long short))))) ≡ true
within_an_argument = refl

-- P(k, Take()), P(k, 5), P((k), Take()); of a Function the order doesn't count
before_a_stirring_one : given (two 4 (by_reference k) (by_value take_one)) ≡ true
before_a_stirring_one = refl

before_a_calm_one : given (two 4 (by_reference k) (by_value five)) ≡ false
before_a_calm_one = refl

a_value_before_a_stirring_one : given (two 4 (by_value k) (by_value take_one)) ≡ false
a_value_before_a_stirring_one = refl

behind_a_stirring_one : given (two 4 (by_value take_one) (by_reference k)) ≡ false
behind_a_stirring_one = refl

of_a_function : given (two 3 (by_reference k) (by_value take_one)) ≡ false
of_a_function = refl

-- a call with an argument without a type has none itself
of_no_type : given floating ≡ false
of_no_type = refl

-- ---- order: a is a fixed array of the module, g a dynamic one

abbrev a_at : Expr → Expr
a_at i = typed long (element (read 1 (array long 1)) (next_expr i no_exprs))

abbrev g_at : Expr → Expr
g_at i = typed long (element (read 2 (array long 0)) (next_expr i no_exprs))

abbrev stored : Expr → Expr → Bool
stored to e = line_breaks (at (assign me me) (to ∷ e ∷ [])) 26

-- a(k) = Take(), k = Take(), a(5) = Take(), g(5) = Take()
index_and_call : stored (a_at k) take_one ≡ true
index_and_call = refl

plain_variable : stored k take_one ≡ false
plain_variable = refl

constant_index : stored (a_at five) take_one ≡ false
constant_index = refl

array_that_moves : stored (g_at five) take_one ≡ true
array_that_moves = refl

-- a(Take()) = k, a(Take()) = 5, a(Take()) = what has no type
call_in_an_index : stored (a_at take_one) k ≡ true
call_in_an_index = refl

call_and_constant : stored (a_at take_one) five ≡ false
call_and_constant = refl

right_side_of_no_type : stored (a_at take_one) floating ≡ false
right_side_of_no_type = refl

target_of_no_type : stored floating take_one ≡ false
target_of_no_type = refl

-- Me.n = Take(), .n = Take(), o.n = Take()
field_of_me : stored (field_of (typed (class 0) tree.me)) take_one ≡ false
field_of_me = refl

field_in_a_with : stored (field_of (typed (class 0) (with_object at_root.Object))) take_one ≡ false
field_in_a_with = refl

field_of_an_object : stored (field_of o) take_one ≡ true
field_of_an_object = refl

-- Q(k + 5) = k \ 5, Q(k) = k \ 5, a(k + 5) = k \ 5: a Put function keeps the order of the last
abbrev sum : Expr
sum = typed long (binary op.Add k five)

abbrev quotient : Expr
quotient = typed long (binary op.IntDiv k five)

property_with_a_sum : stored (one 6 long (by_value sum)) quotient ≡ true
property_with_a_sum = refl

property_with_a_variable : stored (one 6 long (by_value k)) quotient ≡ false
property_with_a_variable = refl

element_with_a_sum : stored (a_at sum) quotient ≡ false
element_with_a_sum = refl

-- Set o = New C, whose class has no initializer; the target itself isn't used
abbrev set_object : Bool
set_object = line_breaks (at (set me me) (o ∷ typed (class 0) (new_object (record { 0 = 0 })) ∷ [])) 26

new_object_to_a_variable : set_object ≡ false
new_object_to_a_variable = refl

-- ReDim Preserve g(Take()), ReDim Preserve g(5 To Take()), ReDim g(Take())
abbrev upper : Bounds
upper = record { lower = None; upper = me }

abbrev both : Bounds
both = record { lower = Some me; upper = me }

abbrev made_anew : (preserve : Bool) → List Bounds → List Expr → Bool
made_anew preserve bounds es = line_breaks (at (vb.redim preserve (record { array = me; bounds = bounds; ty = None } ∷ [])) (read 2 (array long 0) ∷ es)) 26

stirring_bound : made_anew true (upper ∷ []) (take_one ∷ []) ≡ true
stirring_bound = refl

stirring_upper_bound : made_anew true (both ∷ []) (five ∷ take_one ∷ []) ≡ true
stirring_upper_bound = refl

calm_bound : made_anew true (upper ∷ []) (k ∷ []) ≡ false
calm_bound = refl

without_preserve : made_anew false (upper ∷ []) (take_one ∷ []) ≡ false
without_preserve = refl

-- ---- both rules at once: a(k) = P(k, Take())

both_rules : line_breaks (at (assign me me) (a_at k ∷ two 4 (by_reference k) (by_value take_one) ∷ [])) 8 ≡ true
both_rules = refl

the_head_set : head_rules (λ n. false) (procedure kind.Sub [] nothing 0) ≡ none
the_head_set = refl
