-- The rows of Variants and of calls of the library, on values.
use Rattle.std.specs.Prelude.{ℕ, Bool, [], ◌∷◌, Option, IfSome, Some, None, pos}
use Rattle.vb_tree.specs.BoundTree as vb
use Rattle.vb_tree.specs.BoundTree.{Ty}
use Rattle.vb_tree.specs.declared.bound.LibCall.{LibCall}
use Rattle.vb_tree.specs.declared.bound.Op6.TheVariants.{Variant, VariantUn}
use Rattle.vb_tree.specs.declared.bound.LibCall.TheVariants as lib
use Rattle.vb_tree.specs.declared.expression.BinOp.{BinOp}
use Rattle.vb_tree.specs.declared.expression.BinOp.TheVariants as b
use Rattle.vb_tree.specs.declared.expression.UnOp.{UnOp}
use Rattle.vb_tree.specs.declared.expression.UnOp.TheVariants as u
use Rattle.vb_tree.specs.declared.value.Value6.{Value6}
use Rattle.vb6_meaning.specs.Answers.{Answer, then_answer}
use Rattle.vb6_meaning.specs.Library.{call}
use Rattle.vb6_meaning.specs.Values.{operate}
use Rattle.net_tree.specs.declared.expression.NetBin.{NetBin}
use Rattle.net_tree.specs.declared.expression.NetBin.TheVariants as op
use Rattle.net_tree.specs.declared.expression.OpN.TheVariants.{Bin}
use Rattle.net_tree.specs.Types as t
use Rattle.net_meaning.specs.declared.value.ValueN.{ValueN}
use Rattle.net_meaning.specs.declared.value.ValueN.TheVariants as n
use Rattle.net_meaning.specs.Conversions.{coerce_net}
use Rattle.net_meaning.specs.Library.{len, mid, trim, left_trim, right_trim, upper, lower, space, character, character_number, absolute}
use Rattle.net_meaning.specs.Operators.{operate_net}
use Rattle.net_meaning.specs.SameValues.{Agrees}
use Rattle.net_meaning.specs.Support.{cur, var_add, var_sub, var_mul, var_div, var_mod, var_and, var_or, var_xor, var_neg, var_not, var_comp}
use Rattle.net_meaning.specs.ValueMatch.{Matches}

-- ---- Variants

-- a comparison tests the number that the comparison of the two gives
abbrev pub compared_row : NetBin → ValueN → ValueN → Answer ValueN
compared_row o x y = then_answer (var_comp x y) (λ v. operate_net (Bin o) v (n.Integer (pos 0)))

-- Imp, which takes Not of its first operand before its second, has a law of its own
abbrev pub variant_row : BinOp → Option (ValueN → ValueN → Answer ValueN)
variant_row b.Add = Some var_add
variant_row b.Sub = Some var_sub
variant_row b.Mul = Some var_mul
variant_row b.IntDiv = Some var_div
variant_row b.Mod = Some var_mod
variant_row b.Equal = Some (compared_row op.Equal)
variant_row b.NotEqual = Some (compared_row op.NotEqual)
variant_row b.Less = Some (compared_row op.Less)
variant_row b.Greater = Some (compared_row op.Greater)
variant_row b.LessEqual = Some (compared_row op.LessEqual)
variant_row b.GreaterEqual = Some (compared_row op.GreaterEqual)
variant_row b.And = Some var_and
variant_row b.Or = Some var_or
variant_row b.Xor = Some var_xor
variant_row b.Eqv = Some (λ x y. then_answer (var_xor x y) var_not)
variant_row _ = None

abbrev pub variant_unary_row : UnOp → ValueN → Answer ValueN
variant_unary_row u.Neg = var_neg
variant_unary_row u.Not = var_not

-- ---- calls of the library

-- an absolute Currency is checked
abbrev pub absolute_row : (result : Ty) → ValueN → Answer ValueN
absolute_row vb.currency x = then_answer (absolute x) cur
absolute_row _ x = absolute x

-- those of one value
abbrev pub library_row : LibCall → (result : Ty) → Option (ValueN → Answer ValueN)
library_row lib.Len result = Some len
library_row lib.Trim result = Some trim
library_row lib.LTrim result = Some left_trim
library_row lib.RTrim result = Some right_trim
library_row lib.UCase result = Some upper
library_row lib.LCase result = Some lower
library_row lib.Space result = Some space
library_row lib.Chr result = Some (λ x. then_answer (character x) (λ v. coerce_net v t.str))
library_row lib.Asc result = Some (λ x. then_answer (character_number x) (λ v. coerce_net v t.short))
library_row lib.Abs result = Some (absolute_row result)
library_row lib.IsEmpty result = Some (λ x. operate_net (Bin op.Is) x n.Nothing)
library_row _ result = None

-- ---- that the rows give the same as the calls of Visual Basic 6

-- the types of what a call of one value takes and gives
abbrev pub library_types : LibCall → Option (Ty × Ty)
library_types lib.Len = Some (vb.str, vb.long)
library_types lib.Trim = Some (vb.str, vb.str)
library_types lib.LTrim = Some (vb.str, vb.str)
library_types lib.RTrim = Some (vb.str, vb.str)
library_types lib.UCase = Some (vb.str, vb.str)
library_types lib.LCase = Some (vb.str, vb.str)
library_types lib.Space = Some (vb.long, vb.str)
library_types lib.Chr = Some (vb.long, vb.str)
library_types lib.Asc = Some (vb.str, vb.integer)
library_types lib.IsEmpty = Some (vb.variant, vb.boolean)
library_types _ = None

-- a row of one value
abbrev pub OneSame : (are_same : ℕ → ℕ → Bool) → (s t : Ty) → (Value6 → Answer Value6) → (ValueN → Answer ValueN) → Type 0
OneSame are_same s t six row = (a : Value6) (x : ValueN) → Matches are_same s a x → Agrees (Matches are_same t) (six a) (row x)

abbrev pub SameLibrary : LibCall → Type 0
SameLibrary f =
    (are_same : ℕ → ℕ → Bool)
    → IfSome (library_types f) (λ (p : Ty × Ty). IfSome (library_row f p.1) (OneSame are_same p.0 p.1 (λ a. call f (a ∷ []))))

-- `Abs` at a type
abbrev pub SameAbsolute : Ty → Type 0
SameAbsolute ty = (are_same : ℕ → ℕ → Bool) → OneSame are_same ty ty (λ a. call lib.Abs (a ∷ [])) (absolute_row ty)

-- calls of two values and of three
abbrev pub SameOfTwo : LibCall → (s u t : Ty) → (ValueN → ValueN → Answer ValueN) → Type 0
SameOfTwo f s u t row =
    (are_same : ℕ → ℕ → Bool) (a c : Value6) (x y : ValueN) → Matches are_same s a x → Matches are_same u c y → Agrees (Matches are_same t) (call f (a ∷ c ∷ [])) (row x y)

abbrev pub SameMiddle : Type 0
SameMiddle =
    (are_same : ℕ → ℕ → Bool) (a c d : Value6) (x y z : ValueN) → Matches are_same vb.str a x → Matches are_same vb.long c y → Matches are_same vb.long d z
    → Agrees (Matches are_same vb.str) (call lib.Mid (a ∷ c ∷ d ∷ [])) (mid x y z)

-- ---- that the rows of Variants give the same as the operators of Visual Basic 6

-- where the row of an operator gives values of a type
abbrev pub VariantGives : BinOp → (ty : Ty) → (ValueN → ValueN → Answer ValueN) → Type 0
VariantGives o ty row =
    (are_same : ℕ → ℕ → Bool) (a c : Value6) (x y : ValueN) → Matches are_same vb.variant a x → Matches are_same vb.variant c y
    → Agrees (Matches are_same ty) (operate (Variant o) a c) (row x y)

-- comparisons give Booleans, and the others Variants
abbrev pub SameOfVariants : BinOp → Type 0
SameOfVariants b.Equal = VariantGives b.Equal vb.boolean (compared_row op.Equal)
SameOfVariants b.NotEqual = VariantGives b.NotEqual vb.boolean (compared_row op.NotEqual)
SameOfVariants b.Less = VariantGives b.Less vb.boolean (compared_row op.Less)
SameOfVariants b.Greater = VariantGives b.Greater vb.boolean (compared_row op.Greater)
SameOfVariants b.LessEqual = VariantGives b.LessEqual vb.boolean (compared_row op.LessEqual)
SameOfVariants b.GreaterEqual = VariantGives b.GreaterEqual vb.boolean (compared_row op.GreaterEqual)
SameOfVariants b.Add = VariantGives b.Add vb.variant var_add
SameOfVariants b.Sub = VariantGives b.Sub vb.variant var_sub
SameOfVariants b.Mul = VariantGives b.Mul vb.variant var_mul
SameOfVariants b.And = VariantGives b.And vb.variant var_and
SameOfVariants b.Or = VariantGives b.Or vb.variant var_or
SameOfVariants b.Xor = VariantGives b.Xor vb.variant var_xor
SameOfVariants b.Eqv = VariantGives b.Eqv vb.variant (λ x y. then_answer (var_xor x y) var_not)
SameOfVariants b.IntDiv = VariantGives b.IntDiv vb.variant var_div
SameOfVariants b.Mod = VariantGives b.Mod vb.variant var_mod
SameOfVariants _ = Unit {0}

abbrev pub SameNotOfVariant : Type 0
SameNotOfVariant =
    (are_same : ℕ → ℕ → Bool) (a : Value6) (x : ValueN) → Matches are_same vb.variant a x → Agrees (Matches are_same vb.variant) (operate (VariantUn u.Not) a a) (var_not x)

abbrev pub SameNegativeOfVariant : Type 0
SameNegativeOfVariant =
    (are_same : ℕ → ℕ → Bool) (a : Value6) (x : ValueN) → Matches are_same vb.variant a x → Agrees (Matches are_same vb.variant) (operate (VariantUn u.Neg) a a) (var_neg x)
