-- What parameters are given by arguments, worked out by hand.
use Rattle.std.proofs.Common.{◌≡◌, ℕ, true, false, List, [], ◌∷◌, refl, pos}
use Rattle.vb_tree.specs.BoundTree.{Ty, integer, long, str, class, nothing, array}
use Rattle.vb_tree.specs.declared.value.Value6.TheVariants as v
use Rattle.bound_tree.specs.declared.body.Mention.TheVariants as mention
use Rattle.bound_tree.specs.declared.expression.Origin.TheVariants.{Literal}
use Rattle.bound_tree.specs.declared.expression.Root.TheVariants as root
use Rattle.bound_tree.specs.Tree.{Expr, typed, constant, variable, field, element, call, convert, with_object, no_object, no_exprs, Argument, by_value, by_reference, no_passed, next_passed}
use Rattle.expression_words.specs.Flaws as flaws
use Rattle.expression_words.specs.Flaws.{Typed, breaks, lacks, no_flaw, together}
use Rattle.expression_words.specs.Passing.{Supplied, left_out, given, called, is_place}
use Rattle.expression_words.proofs.Sample.{D, p, x}

abbrev of : Ty → Expr
of ty = typed ty (variable (x 9) false)

abbrev number : ℕ → Expr
number n = typed long (constant (v.Long (pos n)) Literal)

abbrev arg : Expr → Supplied
arg e = record { named = false; marked = false; parenthesised = false; value = given (flaws.known e) }

abbrev in_parentheses : Expr → Supplied
in_parentheses e = record { named = false; marked = false; parenthesised = true; value = given (flaws.known e) }

abbrev named : Expr → Supplied
named e = record { named = true; marked = false; parenthesised = false; value = given (flaws.known e) }

abbrev nothing_there : Supplied
nothing_there = record { named = false; marked = false; parenthesised = false; value = left_out }

-- the Sub with the parameters n As Long, ByVal m As Integer and Optional k As Long = 7
abbrev calls : List Supplied → Typed
calls args = called D 6 false no_object args

abbrev is_given : Argument → Argument → Argument → Typed
is_given n m k = flaws.known (typed nothing (call (p 6) false no_object (next_passed n (next_passed m (next_passed k no_passed)))))

abbrev two : Argument
two = by_value (typed integer (convert integer (number 2)))

abbrev seven : Argument
seven = by_value (number 7)

-- ---- by reference

same_type : calls (arg (of long) ∷ arg (number 2) ∷ arg (of long) ∷ []) ≡ is_given (by_reference (of long)) two (by_reference (of long))
same_type = refl

other_type : calls (arg (of integer) ∷ arg (number 2) ∷ []) ≡ is_given (by_reference (typed long (convert long (of integer)))) two seven
other_type = refl

parenthesised : calls (in_parentheses (of long) ∷ arg (number 2) ∷ []) ≡ is_given (by_value (of long)) two seven
parenthesised = refl

other_type_in_parentheses : calls (in_parentheses (of integer) ∷ arg (number 2) ∷ []) ≡ is_given (by_value (typed long (convert long (of integer)))) two seven
other_type_in_parentheses = refl

a_value : calls (arg (number 1) ∷ arg (number 2) ∷ []) ≡ is_given (by_value (number 1)) two seven
a_value = refl

a_text : calls (arg (of str) ∷ arg (number 2) ∷ []) ≡ flaws.unknown (together (together (together no_flaw (breaks 21)) no_flaw) no_flaw)
a_text = refl

-- ---- places

an_element : is_place (typed long (element (of (array long 0)) no_exprs)) ≡ true
an_element = refl

a_field_of_a_call : is_place (typed long (field (typed nothing (call (p 8) false no_object no_passed)) 0)) ≡ false
a_field_of_a_call = refl

a_field_of_an_object : is_place (typed long (field (typed (class 0) (call (p 8) false no_object no_passed)) 0)) ≡ true
a_field_of_an_object = refl

a_field_of_what_is_kept : is_place (typed long (field (typed nothing (with_object root.Object)) 0)) ≡ true
a_field_of_what_is_kept = refl

a_field_of_a_temporary : is_place (typed long (field (typed nothing (with_object root.Temporary)) 0)) ≡ false
a_field_of_a_temporary = refl

what_is_kept : is_place (typed (class 0) (with_object root.Object)) ≡ false
what_is_kept = refl

-- ---- arrays

an_array : called D 7 false no_object (arg (of (array long 0)) ∷ []) ≡ flaws.known (typed nothing (call (p 7) false no_object (next_passed (by_reference (of (array long 0))) no_passed)))
an_array = refl

array_in_parentheses : called D 7 false no_object (in_parentheses (of (array long 0)) ∷ []) ≡ flaws.unknown (together no_flaw (breaks 21))
array_in_parentheses = refl

array_of_another_type : called D 7 false no_object (arg (of (array integer 0)) ∷ []) ≡ flaws.unknown (together no_flaw (breaks 21))
array_of_another_type = refl

no_array : called D 7 false no_object (arg (of long) ∷ []) ≡ flaws.unknown (together no_flaw (breaks 21))
no_array = refl

-- ---- left out

with_a_preset : calls (arg (of long) ∷ arg (number 2) ∷ nothing_there ∷ []) ≡ is_given (by_reference (of long)) two seven
with_a_preset = refl

without_a_preset : calls (nothing_there ∷ arg (number 2) ∷ []) ≡ flaws.unknown (together (together (together no_flaw (breaks 18)) no_flaw) no_flaw)
without_a_preset = refl

-- ---- wrong counts

too_few : calls (arg (of long) ∷ []) ≡ flaws.unknown (together (together (together no_flaw no_flaw) (breaks 18)) no_flaw)
too_few = refl

too_many : calls (arg (of long) ∷ arg (number 2) ∷ arg (of long) ∷ arg (number 4) ∷ []) ≡ flaws.unknown (together (together (together (together no_flaw no_flaw) no_flaw) no_flaw) (together (breaks 18) no_flaw))
too_many = refl

by_name : called D 7 false no_object (named (of (array long 0)) ∷ []) ≡ flaws.unknown (together no_flaw (together (breaks 18) no_flaw))
by_name = refl

-- ---- without a type

no_result_type : called D 8 false no_object [] ≡ flaws.unknown (lacks (mention.Proc (p 8)))
no_result_type = refl

no_parameter_type : called D 9 false no_object (arg (of str) ∷ []) ≡ flaws.known (typed nothing (call (p 9) false no_object (next_passed (by_reference (of str)) no_passed)))
no_parameter_type = refl

no_argument_type : called D 9 false no_object (record { named = false; marked = false; parenthesised = false; value = given (flaws.unknown (breaks 3)) } ∷ []) ≡ flaws.unknown (together no_flaw (breaks 3))
no_argument_type = refl

cannot_be_read : called D 4 false no_object [] ≡ flaws.unknown (breaks 3)
cannot_be_read = refl
