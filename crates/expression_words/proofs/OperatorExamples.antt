-- Worked examples of literals and operators.
use Rattle.std.proofs.Common.{◌≡◌, false, true, refl, codes, pos, replicate}
use Rattle.vb_tree.specs.BoundTree.{integer, long, boolean, str, nothing}
use Rattle.vb_tree.specs.declared.expression.BinOp.TheVariants as b
use Rattle.vb_tree.specs.declared.expression.UnOp.TheVariants as u
use Rattle.vb_tree.specs.declared.token.Literal6.TheVariants as literal
use Rattle.vb_tree.specs.declared.value.Value6.TheVariants as v
use Rattle.bound_tree.specs.declared.expression.Origin.TheVariants.{Literal, Hexadecimal}
use Rattle.bound_tree.specs.Tree.{Expr, typed, constant, convert, unary, binary, is_same, call, of_object, no_passed}
use Rattle.expression_words.specs.Flaws.{known, unknown, no_flaw, breaks, together}
use Rattle.expression_words.specs.Operators.{literal_of, is_too_long, binary_over, unary_over}
use Rattle.expression_words.proofs.SampleProject.{D, p, n, item, number, long_number, lost}

-- ---- literals

hexadecimal : literal_of (literal.Int (pos 16) true) ≡ known (typed integer (constant (v.Int (pos 16)) Hexadecimal))
hexadecimal = refl

-- 1.5 and a date have no form
with_decimals : literal_of literal.Floating ≡ unknown (breaks 1)
with_decimals = refl

a_date : literal_of literal.Date ≡ unknown (breaks 1)
a_date = refl

short_text : literal_of (literal.Str (codes "ab")) ≡ known (typed str (constant (v.Str (codes "ab")) Literal))
short_text = refl

-- up to 200 units that are written one by one
ends_of_lines : is_too_long (replicate 200 13) ≡ false
ends_of_lines = refl

too_many : literal_of (literal.Str (replicate 201 13)) ≡ unknown (breaks 25)
too_many = refl

-- ---- operators

abbrev nought : Expr
nought = typed integer (constant (v.Int (pos 0)) Literal)

abbrev text : Expr
text = typed str (constant (v.Str (codes "ab")) Literal)

-- 1 + n: the Integer is converted
a_sum : binary_over D b.Add (known number) (known n) ≡ known (typed long (binary b.Add long_number n))
a_sum = refl

-- 1 + 1 is a constant with a value, and 32767 + 1 has none, since it raises
a_constant : binary_over D b.Add (known number) (known number) ≡ known (typed integer (binary b.Add number number))
a_constant = refl

no_value : binary_over D b.Add (known (typed integer (constant (v.Int (pos 32767)) Literal))) (known number) ≡ unknown (breaks 25)
no_value = refl

-- 1 \ 0 raises too, and n \ 0 is no constant
by_zero : binary_over D b.IntDiv (known number) (known nought) ≡ unknown (breaks 25)
by_zero = refl

no_constant : binary_over D b.IntDiv (known n) (known nought) ≡ known (typed long (binary b.IntDiv n (typed long (convert long nought))))
no_constant = refl

-- a number by a text
no_form : binary_over D b.Mul (known n) (known text) ≡ unknown (breaks 22)
no_form = refl

-- an operand without a type hides what the row would break
hidden : binary_over D b.Mul (unknown lost) (known text) ≡ unknown (together lost no_flaw)
hidden = refl

hidden_behind : binary_over D b.Mul (known text) (unknown lost) ≡ unknown lost
hidden_behind = refl

-- `^` is not translated whatever its operands are
untranslated : binary_over D b.Pow (known n) (unknown lost) ≡ unknown (together (breaks 2) (together no_flaw lost))
untranslated = refl

-- item + 1 takes the default member of item
by_default : binary_over D b.Add (known item) (known number) ≡ known (typed long (binary b.Add (typed long (call (p 0) false (of_object item) no_passed)) long_number))
by_default = refl

-- item Is item compares the objects
same_objects : binary_over D b.Is (known item) (known item) ≡ known (typed boolean (is_same item item))
same_objects = refl

not_objects : binary_over D b.Is (known n) (known item) ≡ unknown (breaks 22)
not_objects = refl

minus : unary_over D u.Neg (known n) ≡ known (typed long (unary u.Neg n))
minus = refl

minus_of_default : unary_over D u.Neg (known item) ≡ known (typed long (unary u.Neg (typed long (call (p 0) false (of_object item) no_passed))))
minus_of_default = refl

minus_of_nothing : unary_over D u.Neg (known (typed nothing (constant v.Nothing Literal))) ≡ unknown (breaks 22)
minus_of_nothing = refl

minus_hidden : unary_over D u.Neg (unknown lost) ≡ unknown lost
minus_hidden = refl
