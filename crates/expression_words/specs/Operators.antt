-- Literals and operators over bound operands.
use Rattle.std.specs.Prelude.{ℕ, Bool, true, false, cond, ◌||◌, ◌&&◌, not, nat_lt, nat_le, is_some, List, length, filter}
use Rattle.std.specs.List.{list_all}
use Rattle.vb_tree.specs.BoundTree.{integer, long, currency, str}
use Rattle.vb_tree.specs.declared.expression.BinOp.{BinOp}
use Rattle.vb_tree.specs.declared.expression.BinOp.TheVariants as b
use Rattle.vb_tree.specs.declared.expression.UnOp.{UnOp}
use Rattle.vb_tree.specs.declared.token.Literal6.{Literal6}
use Rattle.vb_tree.specs.declared.token.Literal6.TheVariants as literal
use Rattle.vb_tree.specs.declared.value.Value6.TheVariants as v
use Rattle.bound_tree.specs.declared.expression.Origin.{Origin}
use Rattle.bound_tree.specs.declared.expression.Origin.TheVariants.{Literal, Hexadecimal}
use Rattle.bound_tree.specs.Tree.{Declarations, Expr, typed, Term, constant, unary, binary, convert, is_same}
use Rattle.bound_facts.specs.Folded.{folded}
use Rattle.bound_facts.specs.Node.{type_at}
use Rattle.bound_facts.specs.Nodes.{nodes}
use Rattle.typing_rows.specs.declared.operators.Row.{Row}
use Rattle.typing_rows.specs.declared.operators.Row.TheVariants.{Both, Own, ByDefault, OverUnknown, NoForm, Untranslated}
use Rattle.typing_rows.specs.declared.simple_types.SimpleType.{SimpleType}
use Rattle.typing_rows.specs.Types.{is_type, ty_of}
use Rattle.typing_rows.specs.Typing.{binary_row, unary_row}
use Rattle.expression_words.specs.Flaws.{Typed, known, unknown, no_flaw, breaks, flaw_of, together, on_known, on_both}
use Rattle.expression_words.specs.Converting.{converted, plain}

-- ---- literals

abbrev pub origin_of : Bool → Origin
origin_of hexadecimal = cond hexadecimal Hexadecimal Literal

abbrev pub is_printable : ℕ → Bool
is_printable u = nat_le 32 u && nat_le u 126

abbrev pub is_other : ℕ → Bool
is_other u = not (is_printable u)

-- whether a text is too long to be written, or has too many units that are written one by one
abbrev pub is_too_long : List ℕ → Bool
is_too_long text = nat_lt 16384 (length text) || nat_lt 200 (length (filter is_other text))

abbrev pub text_literal : List ℕ → Typed
text_literal text = cond (is_too_long text) (unknown (breaks 25)) (known (typed str (constant (v.Str text) Literal)))

-- a literal; one with decimals, without a type or of a floating type has none
abbrev pub literal_of : Literal6 → Typed
literal_of (literal.Int z hexadecimal) = known (typed integer (constant (v.Int z) (origin_of hexadecimal)))
literal_of (literal.Long z hexadecimal) = known (typed long (constant (v.Long z) (origin_of hexadecimal)))
literal_of (literal.Cur z) = known (typed currency (constant (v.Cur z) Literal))
literal_of (literal.Plain z) = unknown (breaks 1)
literal_of literal.Floating = unknown (breaks 1)
literal_of literal.Date = unknown (breaks 1)
literal_of (literal.Str text) = text_literal text

-- ---- operators

-- an operand as one of a type
abbrev pub as_operand : SimpleType → Expr → Typed
as_operand t e = cond (is_type t (type_at e)) (known e) (converted (ty_of t) e)

-- a node that a constant expression may have
abbrev pub is_constant_part_in : Term → Bool
is_constant_part_in (constant x origin) = true
is_constant_part_in (unary op e) = true
is_constant_part_in (binary op e f) = true
is_constant_part_in (convert ty e) = true
is_constant_part_in _ = false

abbrev pub is_constant_part : Expr → Bool
is_constant_part (typed ty t) = is_constant_part_in t

abbrev pub is_constant_expression : Expr → Bool
is_constant_expression e = list_all is_constant_part (nodes e)

abbrev pub folds : Expr → Typed
folds e = cond (is_some (folded e)) (known e) (unknown (breaks 25))

-- an operator over constants has a value: it neither raises nor lies outside of the language's meaning
abbrev pub with_value : Expr → Typed
with_value e = cond (is_constant_expression e) (folds e) (known e)

abbrev pub is_comparison_of_objects : BinOp → Bool
is_comparison_of_objects b.Is = true
is_comparison_of_objects _ = false

-- operands that stay as they are
abbrev pub own_term : BinOp → Expr → Expr → Term
own_term op x y = cond (is_comparison_of_objects op) (is_same x y) (binary op x y)

-- the row of two operands that aren't objects, or that stay objects
abbrev pub by_row : BinOp → Expr → Expr → Row → Typed
by_row op x y (Both t gives) = on_both (λ (p q : Expr). with_value (typed (ty_of gives) (binary op p q))) (as_operand t x) (as_operand t y)
by_row op x y (Own gives) = with_value (typed (ty_of gives) (own_term op x y))
by_row op x y ByDefault = unknown (breaks 6)
by_row op x y OverUnknown = unknown no_flaw
by_row op x y NoForm = unknown (breaks 22)
by_row op x y Untranslated = unknown (breaks 2)

abbrev pub by_own_row : BinOp → Expr → Expr → Typed
by_own_row op x y = by_row op x y (binary_row op (type_at x) (type_at y))

abbrev pub is_default : Row → Bool
is_default ByDefault = true
is_default _ = false

-- operands that are objects give way to their default members where their row asks for it
abbrev pub by_any_row : Declarations → BinOp → Expr → Expr → Typed
by_any_row D op x y =
    cond (is_default (binary_row op (type_at x) (type_at y))) (on_both (by_own_row op) (plain D x) (plain D y)) (by_own_row op x y)

abbrev pub is_untranslated : BinOp → Bool
is_untranslated b.Pow = true
is_untranslated b.Div = true
is_untranslated b.Like = true
is_untranslated _ = false

abbrev pub combined : Declarations → BinOp → Typed → Typed → Typed
combined D op s t = on_both (by_any_row D op) s t

-- an operator between two operands; one that isn't translated leaves the whole without a type, whatever its operands are
abbrev pub binary_over : Declarations → BinOp → Typed → Typed → Typed
binary_over D op s t = cond (is_untranslated op) (unknown (together (breaks 2) (together (flaw_of s) (flaw_of t)))) (combined D op s t)

abbrev pub by_unary_row : UnOp → Expr → Row → Typed
by_unary_row op x (Both t gives) = on_known (λ (p : Expr). with_value (typed (ty_of gives) (unary op p))) (as_operand t x)
by_unary_row op x (Own gives) = with_value (typed (ty_of gives) (unary op x))
by_unary_row op x ByDefault = unknown (breaks 6)
by_unary_row op x OverUnknown = unknown no_flaw
by_unary_row op x NoForm = unknown (breaks 22)
by_unary_row op x Untranslated = unknown (breaks 2)

abbrev pub by_own_unary_row : UnOp → Expr → Typed
by_own_unary_row op x = by_unary_row op x (unary_row op (type_at x))

abbrev pub by_any_unary_row : Declarations → UnOp → Expr → Typed
by_any_unary_row D op x =
    cond (is_default (unary_row op (type_at x))) (on_known (by_own_unary_row op) (plain D x)) (by_own_unary_row op x)

-- an operator before an operand
abbrev pub unary_over : Declarations → UnOp → Typed → Typed
unary_over D op t = on_known (by_any_unary_row D op) t
