-- What is written gives the same value as what it stands for.
use Rattle.std.specs.Prelude.{◌≡◌, ℕ, Bool, true, false, Option, Some, None}
use Rattle.vb_tree.specs.BoundTree as types
use Rattle.vb_tree.specs.BoundTree.{Ty}
use Rattle.vb_tree.specs.declared.bound.Op6.TheVariants.{Typed, TypedUn}
use Rattle.vb_tree.specs.declared.expression.BinOp.{BinOp}
use Rattle.vb_tree.specs.declared.expression.UnOp.{UnOp}
use Rattle.vb_tree.specs.declared.value.Value6.{Value6}
use Rattle.vb6_meaning.specs.Answers.{Answer, gives, raises, outside}
use Rattle.vb6_meaning.specs.Values.{coerce, operate}
use Rattle.net_meaning.specs.declared.value.ValueN.{ValueN}
use Rattle.net_meaning.specs.ValueMatch.{Matches}
use Rattle.net_meaning.specs.WrittenRows.{Row, Written, evaluate, write_operator, write_unary, write_conversion, write_from_variant}

-- where the first answer is a value the second is one that stands to it so, and where it raises a number so does the second
abbrev pub Agrees : {A B : Type 0} → (A → B → Type 0) → Answer A → Answer B → Type 0
Agrees {A} {B} R (gives v) b = (w : B) × (b ≡ gives w) × R v w
Agrees R (raises n) b = b ≡ raises n
Agrees R outside b = Unit {0}

-- what is written gives what matches; where nothing is written, there is nothing to give
abbrev pub IsSame : (ℕ → ℕ → Bool) → Answer Value6 → Option Written → ValueN → ValueN → Type 0
IsSame are_same a None x y = a ≡ outside
IsSame are_same a (Some w) x y = Agrees (Matches are_same w.ty) a (evaluate w.row x y)

-- no object is the same as two
abbrev pub IsOneToOne : (ℕ → ℕ → Bool) → Type 0
IsOneToOne are_same =
    ((i j k : ℕ) → are_same i j ≡ true → are_same i k ≡ true → j ≡ k) × ((i j k : ℕ) → are_same i k ≡ true → are_same j k ≡ true → i ≡ j)

-- a type other than Variant
abbrev pub is_typed : Ty → Bool
is_typed types.variant = false
is_typed _ = true

-- a binary operator on operands that match, neither of which is a Variant
abbrev pub IsSameOperator : (ℕ → ℕ → Bool) → BinOp → Type 0
IsSameOperator are_same op =
    (s t : Ty) (a b : Value6) (x y : ValueN) → is_typed s ≡ true → is_typed t ≡ true → Matches are_same s a x → Matches are_same t b y
    → IsSame are_same (operate (Typed op) a b) (write_operator op s t) x y

-- a unary operator in the same way; whatever its second operand is
abbrev pub IsSameUnary : (ℕ → ℕ → Bool) → UnOp → Type 0
IsSameUnary are_same op =
    (s : Ty) (a b : Value6) (x y : ValueN) → is_typed s ≡ true → Matches are_same s a x
    → IsSame are_same (operate (TypedUn op) a b) (write_unary op s) x y

-- what is written for a conversion to a type, where something is
abbrev pub IsGiven : (ℕ → ℕ → Bool) → Ty → Answer Value6 → Option Row → ValueN → ValueN → Type 0
IsGiven are_same t a None x y = Unit {0}
IsGiven are_same t a (Some row) x y = Agrees (Matches are_same t) a (evaluate row x y)

-- the conversion of an operand that matches and isn't a Variant; there is no second operand, so y may be anything
abbrev pub IsSameConversion : (ℕ → ℕ → Bool) → Ty → Type 0
IsSameConversion are_same t =
    (s : Ty) (a : Value6) (x y : ValueN) → is_typed s ≡ true → Matches are_same s a x → IsGiven are_same t (coerce a t) (write_conversion s t) x y

-- the conversion of a Variant
abbrev pub IsSameFromVariant : (ℕ → ℕ → Bool) → Ty → Type 0
IsSameFromVariant are_same t =
    (a : Value6) (x y : ValueN) → Matches are_same types.variant a x → IsGiven are_same t (coerce a t) (write_from_variant t) x y
