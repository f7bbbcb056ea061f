-- Assignments to elements, to variables of objects and to properties that are covered, and some that aren't.
use Rattle.std.proofs.Common.{◌≡◌, refl, ℕ, pos, true, false, not, ◌&&◌, nat_eq, None, Some}
use Rattle.std.specs.Prelude.{nat_lt}
use Rattle.vb_tree.specs.BoundTree as types
use Rattle.vb_tree.specs.BoundTree.{Ty}
use Rattle.vb_tree.specs.declared.expression.BinOp.TheVariants as b
use Rattle.vb_tree.specs.declared.value.Value6.TheVariants as v
use Rattle.bound_tree.specs.declared.expression.Origin.TheVariants.{Literal}
use Rattle.bound_tree.specs.Tree.{Expr, typed, constant, variable, field, element, call, binary, convert, me, Object, no_object, of_object, Argument, by_value, by_reference, no_passed, next_passed, no_exprs, next_expr}
use Rattle.bound_facts.specs.Locks.{is_same_type}
use Rattle.run_matches.specs.CoveredExprs.{Uses}
use Rattle.run_matches.specs.CoveredLines.{covers_property, is_member_ordered, is_ordered}

-- all variables are Longs or arrays of Longs, the variable 7 is an As New one, the variable 8 a quiet parameter, and the procedure 0 is inward
-- and the procedure 2 a Let of a Long
abbrev uses : Uses
uses = record {
  scalar = λ w. true;
  array = λ w e. true;
  group = λ w ty. is_same_type ty (types.class 0);
  auto = λ w ty. nat_eq w.0 7 && is_same_type ty (types.class 0);
  field_type = λ t k. None;
  member_type = λ k i. None;
  me = Some 0;
  made = λ c. false;
  named = λ w qualified. true;
  given = λ ty. false;
  is_of = λ w ty. is_same_type ty types.long;
  gives = λ q. not (nat_eq q 2);
  takes = λ q n ty. nat_eq q 2 && (nat_lt n 2 && is_same_type ty types.long);
  results = λ q ty. false;
  inward = λ q. nat_eq q 0;
  exact = λ w. not (nat_eq w.0 8);
  relied = λ w. true;
}

abbrev long_variable : ℕ → Expr
long_variable k = typed types.long (variable (record { 0 = k }) false)

abbrev one : Expr
one = typed types.long (constant (v.Long (pos 1)) Literal)

abbrev plus_one : Expr → Expr
plus_one e = typed types.long (binary b.Add e one)

abbrev call_of : ℕ → Expr
call_of q = typed types.long (call (record { 0 = q }) false no_object no_passed)

-- an element of a dynamic array
abbrev at : Expr → Expr
at i = typed types.long (element (typed (types.array types.long 0) (variable (record { 0 = 9 }) false)) (next_expr i no_exprs))

-- a(i) = x + 1
calm_index : is_ordered uses (at (long_variable 0)) (plus_one (long_variable 1)) ≡ true
calm_index = refl

-- a(i) = a(i) + 1
same_element : is_ordered uses (at (long_variable 0)) (plus_one (at (long_variable 0))) ≡ true
same_element = refl

-- a(i + 1) = x + 1, by a Put function
both_can_raise : is_ordered uses (at (plus_one (long_variable 0))) (plus_one (long_variable 1)) ≡ true
both_can_raise = refl

-- a(i + 1) = x
calm_value : is_ordered uses (at (plus_one (long_variable 0))) (long_variable 1) ≡ true
calm_value = refl

-- a(i) = f(), where f is inward
inward_value : is_ordered uses (at (long_variable 0)) (call_of 0) ≡ true
inward_value = refl

-- a(g()) = 1, where g isn't
constant_value : is_ordered uses (at (call_of 1)) one ≡ true
constant_value = refl

-- a(i) = g(), which could change i
outward_value : is_ordered uses (at (long_variable 0)) (call_of 1) ≡ false
outward_value = refl

-- a(q) = x + 1, where q is a quiet parameter: that it stays what it is isn't seen yet
quiet_index : is_ordered uses (at (long_variable 8)) (plus_one (long_variable 1)) ≡ false
quiet_index = refl

-- a(q) = x
quiet_before_value : is_ordered uses (at (long_variable 8)) (long_variable 1) ≡ true
quiet_before_value = refl

-- ---- variables of objects

abbrev object : ℕ → Expr
object k = typed (types.class 0) (variable (record { 0 = k }) false)

abbrev self : Expr
self = typed (types.class 0) me

-- a Long and an object that each object has
abbrev count_of : Expr → Expr
count_of e = typed types.long (field e 0)

abbrev next_of : Expr → Expr
next_of e = typed (types.class 0) (field e 1)

-- o.Count = o.Count + 1
calm_object : is_member_ordered uses (count_of (object 0)) (plus_one (count_of (object 0))) ≡ true
calm_object = refl

-- d.Count = x + 1, where the use of d may make an object
no_calm_auto : is_member_ordered uses (count_of (object 7)) (plus_one (long_variable 1)) ≡ false
no_calm_auto = refl

-- o.Count = d.Count
no_still_auto : is_member_ordered uses (count_of (object 0)) (count_of (object 7)) ≡ false
no_still_auto = refl

-- d.Count = 1
constant_of_auto : is_member_ordered uses (count_of (object 7)) one ≡ true
constant_of_auto = refl

-- Me.Count = Me.Count + 1
calm_me : is_member_ordered uses (count_of self) (plus_one (count_of self)) ≡ true
calm_me = refl

-- Me.Count = o.f(), where f is inward
inward_for_object : is_member_ordered uses (count_of self) (typed types.long (call (record { 0 = 0 }) false (of_object (object 0)) no_passed)) ≡ true
inward_for_object = refl

-- o.Count = f(), where f is inward
inward_behind_object : is_member_ordered uses (count_of (object 0)) (call_of 0) ≡ true
inward_behind_object = refl

-- o.NextOne.Count = x
calm_behind_object : is_member_ordered uses (count_of (next_of (object 0))) (long_variable 1) ≡ true
calm_behind_object = refl

-- Set o.NextOne.NextOne = Nothing
nothing_behind_object : is_member_ordered uses (next_of (next_of (object 0))) (typed (types.class 0) (convert (types.class 0) (typed types.nothing (constant v.Nothing Literal)))) ≡ true
nothing_behind_object = refl

-- o.Count = g(), which could set o
outward_behind_object : is_member_ordered uses (count_of (object 0)) (call_of 1) ≡ false
outward_behind_object = refl

-- o.NextOne.Count = x + 1, by a Put function: both can raise
both_raise_behind_object : is_member_ordered uses (count_of (next_of (object 0))) (plus_one (long_variable 1)) ≡ false
both_raise_behind_object = refl

-- q.Count = x + 1, where q is a quiet parameter
quiet_object : is_member_ordered uses (count_of (object 8)) (plus_one (long_variable 1)) ≡ false
quiet_object = refl

-- ---- properties

abbrev property : Ty → Object → Expr
property ty of = typed ty (call (record { 0 = 2 }) false of no_passed)

abbrev total : Object → Expr
total of = property types.long of

-- Total = g()
for_none : covers_property uses (total no_object) (call_of 1) ≡ true
for_none = refl

-- o.Total = x + 1
for_calm_object : covers_property uses (total (of_object (object 0))) (plus_one (long_variable 1)) ≡ true
for_calm_object = refl

-- o.Total = g(), which could set o
outward_for_object : covers_property uses (total (of_object (object 0))) (call_of 1) ≡ false
outward_for_object = refl

-- ---- properties with an index

abbrev total_at : Object → Argument → Expr
total_at of a = typed types.long (call (record { 0 = 2 }) false of (next_passed a no_passed))

-- o.Total(i) = x + 1
for_calm_index : covers_property uses (total_at (of_object (object 0)) (by_reference (long_variable 0))) (plus_one (long_variable 1)) ≡ true
for_calm_index = refl

-- Total(i + 1) = 1
for_constant : covers_property uses (total_at no_object (by_value (plus_one (long_variable 0)))) one ≡ true
for_constant = refl

-- o.Total(f()) = x, where f is inward
for_still_index : covers_property uses (total_at (of_object (object 0)) (by_value (call_of 0))) (long_variable 1) ≡ true
for_still_index = refl

-- o.Total(g()) = x, where g could change x
outward_in_index : covers_property uses (total_at (of_object (object 0)) (by_value (call_of 1))) (long_variable 1) ≡ false
outward_in_index = refl

-- Total(i) = g(), which could change i
outward_behind_index : covers_property uses (total_at no_object (by_value (long_variable 0))) (call_of 1) ≡ false
outward_behind_index = refl

-- Total(i + 1) = x + 1: both can raise
both_raise_behind_index : covers_property uses (total_at no_object (by_value (plus_one (long_variable 0)))) (plus_one (long_variable 1)) ≡ false
both_raise_behind_index = refl

-- no property has another type than its value, which is written in the form of that type
in_another_form : covers_property uses (property (types.fixed 3) no_object) one ≡ false
in_another_form = refl
