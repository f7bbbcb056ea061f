-- The laws: what is written for an operator, a conversion, a constant, a printed item or a call of the library computes the .NET row of
-- it, in any scope in which the functions' names aren't captured, from any memory.
use Rattle.std.specs.Prelude.{◌≡◌, ℕ, ℤ, pos, Bool, true, ◌||◌, List, [], ◌∷◌, map, codes, IfSome, Some, None}
use Rattle.vb_tree.specs.BoundTree as vb
use Rattle.vb_tree.specs.BoundTree.{Ty}
use Rattle.vb_tree.specs.declared.bound.LibCall.{LibCall}
use Rattle.vb_tree.specs.declared.expression.BinOp.{BinOp}
use Rattle.vb_tree.specs.declared.expression.BinOp.TheVariants as b
use Rattle.vb_tree.specs.declared.expression.UnOp.{UnOp}
use Rattle.vb_tree.specs.declared.value.Value6.{Value6}
use Rattle.vb6_meaning.specs.Answers.{Answer}
use Rattle.vb6_meaning.specs.Kinds.{fits}
use Rattle.vb6_meaning.specs.declared.number.NumberKind.TheVariants as kinds
use Rattle.bound_tree.specs.Tree.{Expr, typed, Term, Exprs}
use Rattle.bound_facts.specs.Node.{type_at, is_variant}
use Rattle.net_tree.specs.Tree.{Exp, no_exps}
use Rattle.net_meaning.specs.declared.value.ValueN.{ValueN}
use Rattle.net_meaning.specs.declared.value.ValueN.TheVariants as n
use Rattle.net_meaning.specs.Library as library
use Rattle.net_meaning.specs.SameValues.{is_typed}
use Rattle.net_meaning.specs.Support.{var_not, var_or}
use Rattle.net_meaning.specs.ValueMatch.{Matches}
use Rattle.net_meaning.specs.WrittenLiterals.{is_within, type_of_constant}
use Rattle.net_meaning.specs.WrittenRows.{Written, evaluate, write_operator, write_unary, write_conversion, write_from_variant}
use Rattle.run_base.specs.Outcomes.{boxed, gives, then, answered}
use Rattle.written_trees.specs.Conversions.{one, two, three, support_call, conversion, applied, converted}
use Rattle.written_trees.specs.Exprs.{exp_of, index_from}
use Rattle.written_trees.specs.Library.{library_call, text_call, low_exp}
use Rattle.written_trees.specs.Lines.{printed, printed_item, items_exp, print_name}
use Rattle.written_trees.specs.Literals.{literal_as, constant_exp}
use Rattle.written_trees.specs.Names as written
use Rattle.written_trees.specs.Operators.{binary_exp, unary_exp, variant_operator}
use Rattle.net_run.specs.Expressions.{address_of, value_of}
use Rattle.net_run.specs.Functions.{raised_from}
use Rattle.net_run.specs.Making.{Jobs}
use Rattle.net_run.specs.Names.{Scope}
use Rattle.net_run.specs.Store.{Memory, Does, nowhere}
use Rattle.row_laws.specs.Uncaptured.{IsUncaptured, IsTextUncaptured, IsMathUncaptured}
use Rattle.row_laws.specs.Follows.{single_value, on_value, on_values, on_three_values, Any, GivesOnly, Computes, RowOfOne, RowOfTwo}
use Rattle.row_laws.specs.Rows.{operand_of, is_direct, is_ready, IsOf, Fits}
use Rattle.row_laws.specs.Constants.{is_literal, IsHeld, Literal}
use Rattle.row_laws.specs.Functions.{index_row, extent_row, answer_to}
use Rattle.row_laws.specs.Items.{printed_row, is_made_text, text_in, GivesText, AllGiveText, texts_of, print_output}
use Rattle.row_laws.specs.Library.{variant_row, variant_unary_row, library_row}

-- ---- conversions

abbrev pub ConversionIsRow : (from to : Ty) → Type 0
ConversionIsRow from to =
    (S : Scope) (oracle : Jobs) → IsUncaptured S → (a : Exp) (y : ValueN)
    → IfSome (write_conversion from to) (λ r. RowOfOne S oracle Any (applied (conversion from to) a) a (λ x. evaluate r x y))

abbrev pub FromVariantIsRow : (to : Ty) → Type 0
FromVariantIsRow to =
    (S : Scope) (oracle : Jobs) → IsUncaptured S → (a : Exp) (y : ValueN)
    → IfSome (write_from_variant to) (λ r. RowOfOne S oracle Any (applied (conversion vb.variant to) a) a (λ x. evaluate r x y))

-- so it is where no literal stands in its place
abbrev pub ConvertedIsRow : (to : Ty) → Type 0
ConvertedIsRow to =
    (S : Scope) (oracle : Jobs) → IsUncaptured S → (e : Expr) (a : Exp) (y : ValueN) → literal_as to e ≡ None
    → IfSome (write_conversion (type_at e) to) (λ r. RowOfOne S oracle Any (converted to e a) a (λ x. evaluate r x y))

abbrev pub ConvertedVariantIsRow : (to : Ty) → Type 0
ConvertedVariantIsRow to =
    (S : Scope) (oracle : Jobs) → IsUncaptured S → (t : Term) (a : Exp) (y : ValueN)
    → IfSome (write_from_variant to) (λ r. RowOfOne S oracle Any (converted to (typed vb.variant t) a) a (λ x. evaluate r x y))

-- where a literal stands in the place of a conversion, it is the constant that the conversion gives
abbrev pub LiteralIsConstant : (to : Ty) → Type 0
LiteralIsConstant to = (from : Ty) (t : Term) (l : Exp) → literal_as to (typed from t) ≡ Some l → Literal to t l

-- a factor of a product in Currency that stands as a literal is what its conversion gives
abbrev pub LiteralFits : Expr → Type 0
LiteralFits e = (S : Scope) (oracle : Jobs) (T : written.Scope) → IsHeld e → Fits S oracle (operand_of e (exp_of T e))

-- ---- operators

-- on operands of declared types, which are those of the row but for factors of a product in Currency
abbrev pub OperatorIsRow : BinOp → Type 0
OperatorIsRow o =
    (S : Scope) (oracle : Jobs) → IsUncaptured S → (are_same : ℕ → ℕ → Bool) (e f : Expr) (a c : Exp) → is_typed (type_at e) ≡ true → is_typed (type_at f) ≡ true
    → IfSome (write_operator o (type_at e) (type_at f)) (λ (w : Written).
    is_ready o w ≡ true → Fits S oracle (operand_of e a) → Fits S oracle (operand_of f c)
    → RowOfTwo S oracle (IsOf are_same (type_at e)) (binary_exp o w.ty e f a c) a c (evaluate w.row))

abbrev pub UnaryIsRow : UnOp → Type 0
UnaryIsRow o =
    (S : Scope) (oracle : Jobs) → IsUncaptured S → (e : Expr) (a : Exp) (y : ValueN) → is_typed (type_at e) ≡ true
    → IfSome (write_unary o (type_at e)) (λ (w : Written). is_direct w.row ≡ true → RowOfOne S oracle Any (unary_exp o w.ty e a) a (λ x. evaluate w.row x y))

abbrev pub VariantIsRow : BinOp → Type 0
VariantIsRow o =
    (S : Scope) (oracle : Jobs) → IsUncaptured S → (ty : Ty) (e f : Expr) (a c : Exp) → is_variant (type_at e) || is_variant (type_at f) ≡ true
    → IfSome (variant_row o) (RowOfTwo S oracle Any (binary_exp o ty e f a c) a c)

-- Imp takes Not of its first operand before its second is evaluated
abbrev pub VariantImp : Type 0
VariantImp =
    (S : Scope) (oracle : Jobs) → IsUncaptured S → (a c : Exp) (w : Memory)
    → value_of S oracle (variant_operator b.Imp a c) w
    ≡ then (value_of S oracle a w) (λ u w. then (on_value var_not u w) (λ v w. then (value_of S oracle c w) (on_values var_or v)))

abbrev pub VariantUnaryIsRow : UnOp → Type 0
VariantUnaryIsRow o =
    (S : Scope) (oracle : Jobs) → IsUncaptured S → (ty : Ty) (e : Expr) (a : Exp) → is_variant (type_at e) ≡ true
    → RowOfOne S oracle Any (unary_exp o ty e a) a (variant_unary_row o)

-- ---- operands that give single values

abbrev pub RowOfOneComputes : (P : ValueN → Type 0) → Type 0
RowOfOneComputes P =
    (S : Scope) (oracle : Jobs) (whole a : Exp) (row : ValueN → Answer ValueN) (x : Does ValueN)
    → RowOfOne S oracle P whole a row → Computes S oracle a x → ((w : Memory) → GivesOnly P (x w))
    → Computes S oracle whole (λ w. then (x w) (λ u w. answered (row u) w))

abbrev pub RowOfTwoComputes : (P : ValueN → Type 0) → Type 0
RowOfTwoComputes P =
    (S : Scope) (oracle : Jobs) (whole a c : Exp) (row : ValueN → ValueN → Answer ValueN) (x y : Does ValueN)
    → RowOfTwo S oracle P whole a c row → Computes S oracle a x → Computes S oracle c y → ((w : Memory) → GivesOnly P (x w))
    → Computes S oracle whole (λ w. then (x w) (λ u w. then (y w) (λ v w. answered (row u v) w)))

-- ---- constants

abbrev pub ConstantIsGiven : Value6 → Type 0
ConstantIsGiven x =
    (S : Scope) (oracle : Jobs) → IsTextUncaptured S → (are_same : ℕ → ℕ → Bool) (hexadecimal : Bool) → is_within x ≡ true → is_literal x ≡ true
    → (y : ValueN) × ((w : Memory) → value_of S oracle (constant_exp hexadecimal x) w ≡ single_value y w) × Matches are_same (type_of_constant x) x y

-- ---- what is printed

abbrev pub ItemIsRow : Ty → Type 0
ItemIsRow ty = (S : Scope) (oracle : Jobs) → IsUncaptured S → (a : Exp) → RowOfOne S oracle Any (printed ty a) a (printed_row ty)

-- an item of such a type gives a String
abbrev pub ItemGivesText : Ty → Type 0
ItemGivesText ty = (S : Scope) (oracle : Jobs) → IsUncaptured S → is_made_text ty ≡ true → (a : Exp) → GivesText S oracle (printed ty a)

abbrev pub ItemsAreJoined : List Expr → Type 0
ItemsAreJoined es =
    (S : Scope) (oracle : Jobs) (T : written.Scope) → AllGiveText S oracle (map (printed_item T) es) → (w : Memory)
    → then (value_of S oracle (items_exp T es) w) text_in ≡ texts_of S oracle (map (printed_item T) es) w

abbrev pub TextIsPut : (ended : Bool) → Type 0
TextIsPut ended =
    (S : Scope) (oracle : Jobs) → IsUncaptured S → (e : Exp) (w : Memory)
    → address_of S oracle (support_call (print_name ended) (one e)) w
    ≡ then (then (value_of S oracle e w) text_in) (λ units w. gives (print_output ended units ∷ []) nowhere w)

-- ---- the library

abbrev pub LibraryIsRow : LibCall → Type 0
LibraryIsRow f =
    (S : Scope) (oracle : Jobs) → IsUncaptured S → IsTextUncaptured S → IsMathUncaptured S → (T : written.Scope) (ty : Ty) (e : Expr) (rest : Exprs) (a : Exp)
    → IfSome (library_row f ty) (RowOfOne S oracle Any (library_call T f ty e rest a (one a)) a)

-- a call of two values
abbrev pub TextCallIsRow : (name : List ℕ) → (ValueN → ValueN → Answer ValueN) → Type 0
TextCallIsRow name row = (S : Scope) (oracle : Jobs) → IsTextUncaptured S → (a c : Exp) → RowOfTwo S oracle Any (text_call name (two a c)) a c row

-- `Mid` with three values
abbrev pub MiddleIsRow : Type 0
MiddleIsRow =
    (S : Scope) (oracle : Jobs) → IsTextUncaptured S → (a c d : Exp) (w : Memory)
    → value_of S oracle (text_call (codes "Mid") (three a c d)) w
    ≡ then (value_of S oracle a w) (λ s w. then (value_of S oracle c w) (λ u w. then (value_of S oracle d w) (on_three_values library.mid s u)))

-- ---- indexes, inputs and boxes, and the Err number

abbrev pub IndexIsRow : (low : ℤ) → Type 0
IndexIsRow low =
    (S : Scope) (oracle : Jobs) → IsUncaptured S → fits kinds.Long low ≡ true → (a : Exp) → RowOfOne S oracle Any (index_from low a) a (index_row low)

abbrev pub ExtentIsRow : (low : ℤ) → Type 0
ExtentIsRow low =
    (S : Scope) (oracle : Jobs) → IsUncaptured S → fits kinds.Long low ≡ true → (a : Exp)
    → RowOfOne S oracle Any (support_call (codes "Top") (two a (low_exp low))) a (extent_row low)

abbrev pub QuestionIsAnswered : Type 0
QuestionIsAnswered =
    (S : Scope) (oracle : Jobs) → IsUncaptured S → (a : Exp) (w : Memory)
    → value_of S oracle (support_call (codes "Ask") (one a)) w ≡ then (then (value_of S oracle a w) text_in) answer_to

abbrev pub BoxIsPut : Type 0
BoxIsPut =
    (S : Scope) (oracle : Jobs) → IsUncaptured S → (a : Exp) (w : Memory)
    → address_of S oracle (support_call (codes "Box") (one a)) w ≡ then (then (value_of S oracle a w) text_in) (λ units w. gives (boxed units ∷ []) nowhere w)

abbrev pub ErrNumberIsGiven : Type 0
ErrNumberIsGiven =
    (S : Scope) (oracle : Jobs) → IsUncaptured S → (w : Memory)
    → value_of S oracle (support_call (codes "ErrNumber") no_exps) w ≡ single_value (n.Integer (pos w.err)) w

-- `Raise` raises its number, and `NotUpgraded` that of a rule behind 1000
abbrev pub RaiseIsRow : (name : List ℕ) → (added : ℕ) → Type 0
RaiseIsRow name added = (S : Scope) (oracle : Jobs) → IsUncaptured S → (a : Exp) → RowOfOne S oracle Any (support_call name (one a)) a (raised_from added)
