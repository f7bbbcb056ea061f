-- What is written for expressions, worked out by hand.
use Rattle.std.proofs.Common.{◌≡◌, ℕ, pos, negsuc, true, false, List, [], ◌∷◌, codes, Some, None, refl}
use Rattle.std.specs.Fmt.{digits}
use Rattle.vb_tree.specs.BoundTree.{boolean, byte, integer, long, currency, str, fixed, user, class, variant, nothing}
use Rattle.vb_tree.specs.declared.bound.LibCall.TheVariants as lib
use Rattle.vb_tree.specs.declared.expression.BinOp.TheVariants as b
use Rattle.vb_tree.specs.declared.expression.UnOp.TheVariants as u
use Rattle.vb_tree.specs.declared.token.Literal6.TheVariants as literal
use Rattle.vb_tree.specs.declared.token.Suffix.TheVariants.{Absent}
use Rattle.vb_tree.specs.declared.value.Value6.TheVariants as v
use Rattle.vb_tree.specs.Tree as source
use Rattle.bound_tree.specs.declared.expression.Origin.TheVariants.{Literal, Hexadecimal}
use Rattle.bound_tree.specs.declared.expression.Root.TheVariants as root
use Rattle.bound_tree.specs.Tree.{Expr, typed, constant, variable, field, element, call, library, unary, binary, with_object, no_object, of_object, next_expr, by_value, by_reference, no_passed, next_passed}
use Rattle.net_tree.specs.Expressions.{exp_text, type_text}
use Rattle.net_tree.specs.Spelling.{is_bracketed}
use Rattle.written_trees.specs.Literals.{constant_exp}
use Rattle.written_trees.specs.Types.{written_type}
use Rattle.written_trees.specs.LooseExprs.{loose_exp}
use Rattle.written_trees.specs.Exprs.{exp_of, target_exp}
use Rattle.written_trees.proofs.Sample.{here, var, var_id, proc_id, the_n, the_total, the_i, the_array, the_node, the_fixed, the_basket, the_variant, int, text, as_type, one_expr, the_element, the_field, the_inner_field, the_items}

-- the text of what is written for an expression in Main
abbrev written : Expr → List ℕ
written e = exp_text (exp_of here e)

-- ---- names and types

own_variable : written the_n ≡ codes "n"
unfolding is_bracketed
own_variable = refl

variable_of_another_module : written the_total ≡ codes "Other.total"
unfolding is_bracketed
variable_of_another_module = refl

qualified_variable : written (typed long (variable (var_id 0) true)) ≡ codes "Main1.n"
unfolding is_bracketed
qualified_variable = refl

type_of_integer : type_text (written_type here integer) ≡ codes "Short"
type_of_integer = refl

type_of_a_class : type_text (written_type here (class 0)) ≡ codes "Node"
unfolding is_bracketed
type_of_a_class = refl

type_of_another_module : type_text (written_type (record here { file = 3 }) (user 0)) ≡ codes "Main1.Basket"
unfolding is_bracketed
type_of_another_module = refl

-- ---- literals

negative_integer : exp_text (constant_exp false (v.Int (negsuc 4))) ≡ codes "&HFFFBS"
unfolding digits
negative_integer = refl

byte_constant : exp_text (constant_exp false (v.Byte 7)) ≡ codes "CByte(7S)"
unfolding digits
byte_constant = refl

negative_currency : exp_text (constant_exp false (v.Cur (negsuc 14999))) ≡ codes "(-1.5D)"
unfolding digits
negative_currency = refl

-- "a", a line end, "b"
text_with_units : exp_text (constant_exp false (v.Str (97 ∷ 13 ∷ 10 ∷ 98 ∷ []))) ≡ codes "(((\"a\" & Microsoft.VisualBasic.Strings.ChrW(13)) & Microsoft.VisualBasic.Strings.ChrW(10)) & \"b\")"
unfolding digits is_bracketed package.lib.Utf8.encode
text_with_units = refl

text_of_a_unit : exp_text (constant_exp false (v.Str (13 ∷ []))) ≡ codes "(\"\" & Microsoft.VisualBasic.Strings.ChrW(13))"
unfolding digits is_bracketed
text_of_a_unit = refl

-- ---- conversions

integer_to_long : written (as_type long the_i) ≡ codes "CInt(i)"
unfolding is_bracketed
integer_to_long = refl

literal_to_long : written (as_type long (int (pos 5))) ≡ codes "5"
unfolding digits
literal_to_long = refl

hexadecimal_to_long : written (as_type long (typed integer (constant (v.Int (pos 255)) Hexadecimal))) ≡ codes "&HFFI"
unfolding digits
hexadecimal_to_long = refl

literal_to_currency : written (as_type currency (int (negsuc 4))) ≡ codes "(-5D)"
unfolding digits
literal_to_currency = refl

-- a constant of type Variant is none of type Integer
variant_constant_to_long : written (as_type long (typed variant (constant (v.Int (pos 5)) Literal))) ≡ codes "UpgradeSupport.VarInt(5S)"
unfolding digits is_bracketed
variant_constant_to_long = refl

literal_to_byte : written (as_type byte (int (pos 5))) ≡ codes "CByte(5S)"
unfolding digits
literal_to_byte = refl

currency_to_text : written (as_type str the_total) ≡ codes "UpgradeSupport.CurText(Other.total)"
unfolding is_bracketed
currency_to_text = refl

fixed_to_text : written (as_type str the_fixed) ≡ codes "f"
unfolding is_bracketed
fixed_to_text = refl

text_to_variant : written (as_type variant the_fixed) ≡ codes "CObj((\"\" & f))"
unfolding is_bracketed
text_to_variant = refl

variant_to_integer : written (as_type integer the_variant) ≡ codes "UpgradeSupport.VarShort(v)"
unfolding is_bracketed
variant_to_integer = refl

to_fixed : written (as_type (fixed 2) (as_type str the_i)) ≡ codes "UpgradeSupport.Fix(CStr(i), 2)"
unfolding digits is_bracketed
to_fixed = refl

-- ---- operators

sum_of_longs : written (typed long (binary b.Add the_n (as_type long the_i))) ≡ codes "(n + CInt(i))"
unfolding is_bracketed
sum_of_longs = refl

sum_of_currencies : written (typed currency (binary b.Sub the_total (as_type currency (int (pos 1))))) ≡ codes "UpgradeSupport.Cur((Other.total - 1D))"
unfolding digits is_bracketed
sum_of_currencies = refl

product_in_currency : written (typed currency (binary b.Mul the_total the_n)) ≡ codes "UpgradeSupport.Cur((Other.total * CDec(n)))"
unfolding is_bracketed
product_in_currency = refl

sum_of_texts : written (typed str (binary b.Add the_fixed (text (codes "b")))) ≡ codes "(f & \"b\")"
unfolding is_bracketed package.lib.Utf8.encode
sum_of_texts = refl

implication : written (typed long (binary b.Imp the_n the_n)) ≡ codes "((Not n) Or n)"
unfolding is_bracketed
implication = refl

comparison_of_variants : written (typed boolean (binary b.LessEqual the_variant (as_type variant the_n))) ≡ codes "(UpgradeSupport.VarComp(v, CObj(n)) <= 0)"
unfolding digits is_bracketed
comparison_of_variants = refl

implication_of_variants : written (typed variant (binary b.Imp the_variant the_variant)) ≡ codes "UpgradeSupport.VarOr(UpgradeSupport.VarNot(v), v)"
unfolding is_bracketed
implication_of_variants = refl

minus_of_currency : written (typed currency (unary u.Neg the_total)) ≡ codes "UpgradeSupport.Cur((-Other.total))"
unfolding is_bracketed
minus_of_currency = refl

-- ---- the library

length_of_text : written (typed long (library lib.Len (one_expr (text (codes "b"))))) ≡ codes "Microsoft.VisualBasic.Strings.Len(\"b\")"
unfolding is_bracketed package.lib.Utf8.encode
length_of_text = refl

first_unit : written (typed integer (library lib.Asc (one_expr (text (codes "b"))))) ≡ codes "CShort(Microsoft.VisualBasic.Strings.Asc(\"b\"))"
unfolding is_bracketed package.lib.Utf8.encode
first_unit = refl

absolute_currency : written (typed currency (library lib.Abs (one_expr the_total))) ≡ codes "UpgradeSupport.Cur(System.Math.Abs(Other.total))"
unfolding is_bracketed
absolute_currency = refl

conversion_of_a_literal : written (typed long (library lib.CLng (one_expr (int (pos 5))))) ≡ codes "5"
unfolding digits
conversion_of_a_literal = refl

upper_bound : written (typed long (library lib.UBound (one_expr the_array))) ≡ codes "UpgradeSupport.Hi(a, 0, 1)"
unfolding digits is_bracketed
upper_bound = refl

upper_bound_of_a_dimension : written (typed long (library lib.UBound (next_expr the_array (one_expr (int (pos 2)))))) ≡ codes "UpgradeSupport.Hi(a, 1, 0)"
unfolding digits is_bracketed
upper_bound_of_a_dimension = refl

lower_bound : written (typed long (library lib.LBound (one_expr the_array))) ≡ codes "UpgradeSupport.Lo(a, 1)"
unfolding digits is_bracketed
lower_bound = refl

is_empty : written (typed boolean (library lib.IsEmpty (one_expr the_variant))) ≡ codes "(v Is Nothing)"
unfolding is_bracketed
is_empty = refl

-- ---- variables, elements and members

element_with_a_lower_bound : written the_element ≡ codes "a(UpgradeSupport.At(CInt(i), 1))"
unfolding digits is_bracketed
element_with_a_lower_bound = refl

element_from_zero : written (typed long (element the_items (one_expr the_n))) ≡ codes "p.Items(n)"
unfolding is_bracketed
element_from_zero = refl

made_when_used : written the_inner_field ≡ codes "UpgradeSupport.Auto_Node(c).Child.k"
unfolding is_bracketed
made_when_used = refl

not_made_as_a_target : exp_text (target_exp here the_node) ≡ codes "c"
unfolding is_bracketed
not_made_as_a_target = refl

member_of_with : written (typed long (field (typed (class 0) (with_object root.Object)) 0)) ≡ codes ".k"
unfolding is_bracketed
member_of_with = refl

-- ---- calls

property_without_arguments : written (typed long (call (proc_id 1) false no_object no_passed)) ≡ codes "Prop"
unfolding is_bracketed
property_without_arguments = refl

-- inside its own Get it is called with parentheses
property_that_reads_itself : exp_text (exp_of (record here { procedure = Some 1 }) (typed long (call (proc_id 1) false no_object no_passed))) ≡ codes "Prop()"
unfolding is_bracketed
property_that_reads_itself = refl

-- a later part has the spelling of the first
property_as_a_target : written (typed long (call (proc_id 2) true no_object no_passed)) ≡ codes "Main1.Prop"
unfolding is_bracketed
property_as_a_target = refl

function_of_an_object : written (typed (class 0) (call (proc_id 3) false (of_object the_node) no_passed)) ≡ codes "UpgradeSupport.Auto_Node(c).Give()"
unfolding is_bracketed
function_of_an_object = refl

-- ---- arguments of `Show(s As String, ByVal m As Long)`

abbrev shown : Expr → List ℕ
shown e = written (typed nothing (call (proc_id 4) false no_object (next_passed (by_value e) (next_passed (by_value (int (pos 1))) no_passed))))

given_by_reference : written (typed nothing (call (proc_id 4) false no_object (next_passed (by_reference (var 10 str)) (next_passed (by_value the_n) no_passed)))) ≡ codes "Other.Show(s, n)"
unfolding is_bracketed
given_by_reference = refl

given_in_parentheses : shown (var 10 str) ≡ codes "Other.Show((s), 1S)"
unfolding digits is_bracketed
given_in_parentheses = refl

-- a conversion that writes nothing keeps the parentheses, one that is written needs none
fixed_string_given : shown (as_type str the_fixed) ≡ codes "Other.Show((f), 1S)"
unfolding digits is_bracketed
fixed_string_given = refl

conversion_call_given : shown (typed str (library lib.CStr (one_expr the_fixed))) ≡ codes "Other.Show((f), 1S)"
unfolding digits is_bracketed
conversion_call_given = refl

number_given : shown (as_type str the_n) ≡ codes "Other.Show(CStr(n), 1S)"
unfolding digits is_bracketed
number_given = refl

object_field_given : written (typed nothing (call (proc_id 4) false no_object (next_passed (by_reference the_field) no_passed))) ≡ codes "Other.Show((UpgradeSupport.Auto_Node(c).k))"
unfolding is_bracketed
object_field_given = refl

property_given : shown (typed long (call (proc_id 1) false no_object no_passed)) ≡ codes "Other.Show((Prop), 1S)"
unfolding digits is_bracketed
property_given = refl

-- a user type that holds an array is copied as a value
basket_given : shown the_basket ≡ codes "Other.Show(UpgradeSupport.Copy1(p), 1S)"
unfolding digits is_bracketed
basket_given = refl

-- ---- expressions without a type

-- `d Eqv (Left(s, 1) + Empty)`
loose_expression : exp_text (loose_exp (source.binary b.Eqv (source.bracketed (codes "d") Absent) (source.paren (source.binary b.Add (source.index (source.word (codes "Left") Absent) (source.next_arg None false (source.given (source.bracketed (codes "s") Absent)) (source.next_arg None false (source.given (source.lit (literal.Int (pos 1) false))) source.no_args))) (source.word (codes "EMPTY") Absent))))) ≡ codes "(Not (d Xor (Left(s, 1S) + Nothing)))"
unfolding digits is_bracketed
loose_expression = refl

-- `Other.Item.P Is New Node`
loose_members : exp_text (loose_exp (source.binary b.Is (source.member (source.member (source.bracketed (codes "Other") Absent) (codes "Item")) (codes "P")) (source.new_object (codes "Node")))) ≡ codes "(Other.Item.P Is New Node())"
unfolding is_bracketed
loose_members = refl
