-- The laws.
use Rattle.std.proofs.Common.{ℕ, ℤ, Bool, List, codes}
use Rattle.vb_tree.specs.BoundTree.{Ty}
use Rattle.vb_tree.specs.declared.bound.LibCall.{LibCall}
use Rattle.vb_tree.specs.declared.expression.BinOp.{BinOp}
use Rattle.vb_tree.specs.declared.expression.UnOp.{UnOp}
use Rattle.vb_tree.specs.declared.value.Value6.{Value6}
use Rattle.bound_tree.specs.Tree.{Expr}
use Rattle.net_meaning.specs.Library.{left, right, mid_on, place}
use Rattle.row_laws.specs.Follows.{Any}
use Rattle.row_laws.specs.Laws as law
use Rattle.row_laws.specs.Rows.{IsOf}
use Rattle.row_laws.proofs.Computing.{one_computes, two_compute}
use Rattle.row_laws.proofs.Conversions.{conversion_gives, from_variant_gives, converted_gives, converted_variant_gives}
use Rattle.row_laws.proofs.Functions.{index_gives, extent_gives, question_gives, box_puts, err_number_gives, raise_gives, not_upgraded_gives}
use Rattle.row_laws.proofs.ItemTexts.{made_gives_text}
use Rattle.row_laws.proofs.Items.{items_text, print_puts}
use Rattle.row_laws.proofs.Library as library
use Rattle.row_laws.proofs.Literals.{constant_given}
use Rattle.row_laws.proofs.Operators.{binary_row, unary_row_gives}
use Rattle.row_laws.proofs.Written.{expression_fits, literal_stands}

pub conversion_is_row : (from to : Ty) → law.ConversionIsRow from to
conversion_is_row from to S oracle free a y = conversion_gives S oracle free from to a y

pub from_variant_is_row : (to : Ty) → law.FromVariantIsRow to
from_variant_is_row to S oracle free a y = from_variant_gives S oracle free to a y

pub literal_is_constant : (to : Ty) → law.LiteralIsConstant to
literal_is_constant to from t l h = literal_stands to from t l h

pub literal_fits : (e : Expr) → law.LiteralFits e
literal_fits e S oracle T held = expression_fits S oracle T e held

pub operator_is_row : (o : BinOp) → law.OperatorIsRow o
operator_is_row o S oracle free same e f a c h k = binary_row S oracle free same o e f a c h k

pub unary_is_row : (o : UnOp) → law.UnaryIsRow o
unary_is_row o S oracle free e a y h = unary_row_gives S oracle free o e a y h

pub variant_is_row : (o : BinOp) → law.VariantIsRow o
variant_is_row o S oracle free ty e f a c h = library.binary_of_variants S oracle free o ty e f a c h

pub variant_imp : law.VariantImp
variant_imp S oracle free a c w = library.variant_imp S oracle free a c w

pub variant_unary_is_row : (o : UnOp) → law.VariantUnaryIsRow o
variant_unary_is_row o S oracle free ty e a h = library.unary_of_variant S oracle free o ty e a h

pub row_of_one_computes : law.RowOfOneComputes Any
row_of_one_computes S oracle whole a row x h e p = one_computes S oracle Any whole a row x h e p

pub row_of_two_computes : law.RowOfTwoComputes Any
row_of_two_computes S oracle whole a c row x y h e f p = two_compute S oracle Any whole a c row x y h e f p

pub typed_row_computes : (are_same : ℕ → ℕ → Bool) (s : Ty) → law.RowOfTwoComputes (IsOf are_same s)
typed_row_computes are_same s S oracle whole a c row x y h e f p = two_compute S oracle (IsOf are_same s) whole a c row x y h e f p

pub constant_is_given : (x : Value6) → law.ConstantIsGiven x
constant_is_given x S oracle free same h e f = constant_given S oracle free same h x e f

pub item_is_row : (ty : Ty) → law.ItemIsRow ty
item_is_row ty S oracle free a = library.printed_gives S oracle free ty a

pub items_are_joined : (es : List Expr) → law.ItemsAreJoined es
items_are_joined es S oracle T all w = items_text S oracle T es all w

pub text_is_put : (ended : Bool) → law.TextIsPut ended
text_is_put ended S oracle free e w = print_puts S oracle free ended e w

pub library_is_row : (f : LibCall) → law.LibraryIsRow f
library_is_row f S oracle free texts math T ty e rest a = library.library_gives S oracle free texts math T f ty e rest a

pub left_is_row : law.TextCallIsRow (codes "Left") left
left_is_row S oracle texts a c = library.left_gives S oracle texts a c

pub right_is_row : law.TextCallIsRow (codes "Right") right
right_is_row S oracle texts a c = library.right_gives S oracle texts a c

pub mid_is_row : law.TextCallIsRow (codes "Mid") mid_on
mid_is_row S oracle texts a c = library.rest_gives S oracle texts a c

pub instr_is_row : law.TextCallIsRow (codes "InStr") place
instr_is_row S oracle texts a c = library.place_gives S oracle texts a c

pub middle_is_row : law.MiddleIsRow
middle_is_row S oracle texts a c d w = library.middle_gives S oracle texts a c d w

pub converted_is_row : (to : Ty) → law.ConvertedIsRow to
converted_is_row to S oracle free e a y none = converted_gives S oracle free to e a y none

pub converted_variant_is_row : (to : Ty) → law.ConvertedVariantIsRow to
converted_variant_is_row to S oracle free t a y = converted_variant_gives S oracle free to t a y

pub item_gives_text : (ty : Ty) → law.ItemGivesText ty
item_gives_text ty S oracle free e a = made_gives_text S oracle free ty e a

pub index_is_row : (low : ℤ) → law.IndexIsRow low
index_is_row low S oracle free e a = index_gives S oracle free low e a

pub extent_is_row : (low : ℤ) → law.ExtentIsRow low
extent_is_row low S oracle free e a = extent_gives S oracle free low e a

pub question_is_answered : law.QuestionIsAnswered
question_is_answered S oracle free a w = question_gives S oracle free a w

pub box_is_put : law.BoxIsPut
box_is_put S oracle free a w = box_puts S oracle free a w

pub err_number_is_given : law.ErrNumberIsGiven
err_number_is_given S oracle free w = err_number_gives S oracle free w

pub raise_is_row : law.RaiseIsRow (codes "Raise") 0
raise_is_row S oracle free a = raise_gives S oracle free a

pub not_upgraded_is_row : law.RaiseIsRow (codes "NotUpgraded") 1000
not_upgraded_is_row S oracle free a = not_upgraded_gives S oracle free a
