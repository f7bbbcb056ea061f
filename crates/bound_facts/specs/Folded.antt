-- The values of constant expressions.
use Rattle.std.specs.Prelude.{cond, ◌||◌, Option, Some, None}
use Rattle.vb_tree.specs.BoundTree.{Ty}
use Rattle.vb_tree.specs.declared.bound.Op6.{Op6}
use Rattle.vb_tree.specs.declared.bound.Op6.TheVariants.{Typed, Variant, TypedUn, VariantUn}
use Rattle.vb_tree.specs.declared.expression.BinOp.{BinOp}
use Rattle.vb_tree.specs.declared.expression.UnOp.{UnOp}
use Rattle.vb_tree.specs.declared.value.Value6.{Value6}
use Rattle.vb6_meaning.specs.Answers.{Answer, gives, raises, outside}
use Rattle.vb6_meaning.specs.Values.{coerce, operate}
use Rattle.bound_tree.specs.Tree.{Expr, typed, Term, constant, unary, binary, convert}
use Rattle.bound_facts.specs.Node.{type_at, is_variant}

-- the row of an operator by the types of its operands: that of Variants where one of them is one
abbrev pub binary_row : Ty → Ty → BinOp → Op6
binary_row s t op = cond (is_variant s || is_variant t) (Variant op) (Typed op)

abbrev pub unary_row : Ty → UnOp → Op6
unary_row s op = cond (is_variant s) (VariantUn op) (TypedUn op)

-- the value that an answer gives; none where it raises or lies outside
abbrev pub given_value : Answer Value6 → Option Value6
given_value (gives x) = Some x
given_value (raises number) = None
given_value outside = None

-- the same on the values of operands, where they have one
abbrev pub unary_value : Op6 → Option Value6 → Option Value6
unary_value op None = None
unary_value op (Some x) = given_value (operate op x x)

abbrev pub binary_value : Op6 → Option Value6 → Option Value6 → Option Value6
binary_value op None b = None
binary_value op (Some x) None = None
binary_value op (Some x) (Some y) = given_value (operate op x y)

abbrev pub converted_value : Ty → Option Value6 → Option Value6
converted_value to None = None
converted_value to (Some x) = given_value (coerce x to)

-- The value of an expression of constants, operators and conversions; none where it has another part, and where one of its
-- operators or conversions raises or lies outside.
abbrev mutual
  pub folded : Expr → Option Value6
  folded (typed ty term) = folded_term term

  pub folded_term : Term → Option Value6
  folded_term (constant x origin) = Some x
  folded_term (unary op e) = unary_value (unary_row (type_at e) op) (folded e)
  folded_term (binary op e f) = binary_value (binary_row (type_at e) (type_at f) op) (folded e) (folded f)
  folded_term (convert to e) = converted_value to (folded e)
  folded_term _ = None
