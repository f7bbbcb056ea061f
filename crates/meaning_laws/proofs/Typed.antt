-- Operands of typed rows: numbers, or none.
use Rattle.std.proofs.Common.{◌≡◌, ℕ, refl, ap₂, Bool, true, false, ◌⊎◌, inl, inr, Option, Some, None, pos, negsuc}
use Rattle.std.specs.Prelude.{nat_le}
use Rattle.vb_tree.specs.BoundTree.{Ty}
use Rattle.vb_tree.specs.declared.value.Value6.{Value6}
use Rattle.vb6_meaning.specs.Answers.{Answer, outside, then_answer}
use Rattle.vb6_meaning.specs.declared.number.Number.{Number}
use Rattle.vb6_meaning.specs.declared.number.NumberKind.{NumberKind}
use Rattle.vb6_meaning.specs.declared.number.NumberKind.TheVariants as kinds
use Rattle.vb6_meaning.specs.Kinds.{rank, wider}
use Rattle.vb6_meaning.specs.Numbers.{of_kind, number_of}
use Rattle.vb6_meaning.specs.Values as six
use Rattle.net_tree.specs.declared.expression.NetBin.{NetBin}
use Rattle.net_tree.specs.declared.expression.OpN.TheVariants.{Bin}
use Rattle.net_meaning.specs.declared.value.ValueN.{ValueN}
use Rattle.net_meaning.specs.Operators.{operate_net}
use Rattle.net_meaning.specs.Support.{cur}
use Rattle.net_meaning.specs.ValueMatch.{Matches, booleans, bytes, integers, longs, currencies, texts, empty_text, fixed_texts, no_object, no_object_of, nothing, objects, objects_of, in_variant_empty, in_variant_boolean, in_variant_byte, in_variant_integer, in_variant_long, in_variant_currency, in_variant_text}
use Rattle.net_meaning.specs.WrittenRows.{Row, Written, evaluate, operand_a, operand_b, kind_of, both_as, checked, on_kinds, on_numbers}
use Rattle.net_meaning.specs.SameValues.{IsSame, is_typed}
use Rattle.meaning_laws.proofs.Operands.{Operand, false_operand, true_operand, byte_operand, integer_operand, long_operand, currency_operand, as_value, as_kind_value}

-- an operand that is a number
pub record IsNumeric (s : Ty) (a : Value6) (x : ValueN) : Type 0 where
  pub number : Number
  pub of_type : kind_of s ≡ Some number.kind
  pub of_value : number_of a ≡ Some number
  pub operand : Operand s number x

pub record IsNoNumber (s : Ty) (a : Value6) : Type 0 where
  pub of_type : kind_of s ≡ None
  pub of_value : number_of a ≡ None

pub numeric : (are_same : ℕ → ℕ → Bool) (s : Ty) (a : Value6) (x : ValueN) → is_typed s ≡ true → Matches are_same s a x → IsNumeric s a x ⊎ IsNoNumber s a
numeric are_same _ _ _ h (booleans true) = inl (record { number = of_kind kinds.Integer (negsuc 0); of_type = refl; of_value = refl; operand = true_operand })
numeric are_same _ _ _ h (booleans false) = inl (record { number = of_kind kinds.Integer (pos 0); of_type = refl; of_value = refl; operand = false_operand })
numeric are_same _ _ _ h (bytes m e) = inl (record { number = of_kind kinds.Byte (pos m); of_type = refl; of_value = refl; operand = byte_operand m e })
numeric are_same _ _ _ h (integers z e) = inl (record { number = of_kind kinds.Integer z; of_type = refl; of_value = refl; operand = integer_operand z e })
numeric are_same _ _ _ h (longs z e) = inl (record { number = of_kind kinds.Long z; of_type = refl; of_value = refl; operand = long_operand z e })
numeric are_same _ _ _ h (currencies z m s e d) = inl (record { number = of_kind kinds.Currency z; of_type = refl; of_value = refl; operand = currency_operand z m s e d })
numeric are_same _ _ _ h (texts units) = inr (record { of_type = refl; of_value = refl })
numeric are_same _ _ _ h empty_text = inr (record { of_type = refl; of_value = refl })
numeric are_same _ _ _ h (fixed_texts units) = inr (record { of_type = refl; of_value = refl })
numeric are_same _ _ _ h no_object = inr (record { of_type = refl; of_value = refl })
numeric are_same _ _ _ h (no_object_of k) = inr (record { of_type = refl; of_value = refl })
numeric are_same _ _ _ h nothing = inr (record { of_type = refl; of_value = refl })
numeric are_same _ _ _ h (objects i j e) = inr (record { of_type = refl; of_value = refl })
numeric are_same _ _ _ h (objects_of k i j e) = inr (record { of_type = refl; of_value = refl })
numeric are_same _ _ _ h in_variant_empty = cc
numeric are_same _ _ _ h (in_variant_boolean b) = cc
numeric are_same _ _ _ h (in_variant_byte m e) = cc
numeric are_same _ _ _ h (in_variant_integer z e) = cc
numeric are_same _ _ _ h (in_variant_long z e) = cc
numeric are_same _ _ _ h (in_variant_currency z m s e d) = cc
numeric are_same _ _ _ h (in_variant_text units) = cc

-- what is written for what has no row may be anything
pub outside_same : (are_same : ℕ → ℕ → Bool) (w : Option Written) (x y : ValueN) → IsSame are_same outside w x y
outside_same are_same None x y = refl
outside_same are_same (Some w) x y = tt

-- a row on two numbers, by its case on two numbers

both_numbers : (are_same : ℕ → ℕ → Bool) (f : Number → Number → Answer Value6) (g : NumberKind → NumberKind → Option Written) (p q : Option Number) (i j : Option NumberKind)
    (M N : Number) (x y : ValueN) → p ≡ Some M → q ≡ Some N → i ≡ Some M.kind → j ≡ Some N.kind
    → IsSame are_same (f M N) (g M.kind N.kind) x y → IsSame are_same (six.on_numbers f p q) (on_kinds g i j) x y
both_numbers are_same f g p q i j M N x y d e k l h = simp (d, e, k, l) h

left_alone : (are_same : ℕ → ℕ → Bool) (f : Number → Number → Answer Value6) (w : Option Written) (p q : Option Number)
    (M : Number) (x y : ValueN) → p ≡ Some M → q ≡ None → IsSame are_same (six.on_numbers f p q) w x y
left_alone are_same f w p q M x y d e = simp (d, e) (outside_same are_same w x y)

no_left : (are_same : ℕ → ℕ → Bool) (f : Number → Number → Answer Value6) (w : Option Written) (p q : Option Number)
    (x y : ValueN) → p ≡ None → IsSame are_same (six.on_numbers f p q) w x y
no_left are_same f w p q x y e = simp e (outside_same are_same w x y)

pub numbers_same : (are_same : ℕ → ℕ → Bool) (f : Number → Number → Answer Value6) (g : Ty → Ty → NumberKind → NumberKind → Option Written)
    (s t : Ty) (a b : Value6) (x y : ValueN) → is_typed s ≡ true → is_typed t ≡ true → Matches are_same s a x → Matches are_same t b y
    → ((M N : Number) → Operand s M x → Operand t N y → IsSame are_same (f M N) (g s t M.kind N.kind) x y)
    → IsSame are_same (six.on_numbers f (number_of a) (number_of b)) (on_numbers g s t) x y
numbers_same are_same f g s t a b x y hs ht ma mb core = elim (numeric are_same s a x hs ma) [
  | inl p ↦ elim (numeric are_same t b y ht mb) [
    | inl q ↦ both_numbers are_same f (g s t) (number_of a) (number_of b) (kind_of s) (kind_of t) p.number q.number x y
        p.of_value q.of_value p.of_type q.of_type (core p.number q.number p.operand q.operand)
    | inr q ↦ left_alone are_same f (on_numbers g s t) (number_of a) (number_of b) p.number x y p.of_value q.of_value
  ]
  | inr p ↦ no_left are_same f (on_numbers g s t) (number_of a) (number_of b) x y p.of_value
]

-- the wider of two kinds

pub wide_left : (k l : NumberKind) → nat_le (rank k) (rank (wider k l)) ≡ true
wide_left kinds.Byte kinds.Byte = refl
wide_left kinds.Byte kinds.Integer = refl
wide_left kinds.Byte kinds.Long = refl
wide_left kinds.Byte kinds.Currency = refl
wide_left kinds.Integer kinds.Byte = refl
wide_left kinds.Integer kinds.Integer = refl
wide_left kinds.Integer kinds.Long = refl
wide_left kinds.Integer kinds.Currency = refl
wide_left kinds.Long kinds.Byte = refl
wide_left kinds.Long kinds.Integer = refl
wide_left kinds.Long kinds.Long = refl
wide_left kinds.Long kinds.Currency = refl
wide_left kinds.Currency kinds.Byte = refl
wide_left kinds.Currency kinds.Integer = refl
wide_left kinds.Currency kinds.Long = refl
wide_left kinds.Currency kinds.Currency = refl

pub wide_right : (k l : NumberKind) → nat_le (rank l) (rank (wider k l)) ≡ true
wide_right kinds.Byte kinds.Byte = refl
wide_right kinds.Byte kinds.Integer = refl
wide_right kinds.Byte kinds.Long = refl
wide_right kinds.Byte kinds.Currency = refl
wide_right kinds.Integer kinds.Byte = refl
wide_right kinds.Integer kinds.Integer = refl
wide_right kinds.Integer kinds.Long = refl
wide_right kinds.Integer kinds.Currency = refl
wide_right kinds.Long kinds.Byte = refl
wide_right kinds.Long kinds.Integer = refl
wide_right kinds.Long kinds.Long = refl
wide_right kinds.Long kinds.Currency = refl
wide_right kinds.Currency kinds.Byte = refl
wide_right kinds.Currency kinds.Integer = refl
wide_right kinds.Currency kinds.Long = refl
wide_right kinds.Currency kinds.Currency = refl

-- rows over both operands

-- a Currency is checked after arithmetic
abbrev pub finished : NumberKind → Answer ValueN → Answer ValueN
finished kinds.Byte a = a
finished kinds.Integer a = a
finished kinds.Long a = a
finished kinds.Currency a = then_answer a cur

pub finished_value : (k : NumberKind) (r : Row) (x y : ValueN) → evaluate (checked k r) x y ≡ finished k (evaluate r x y)
finished_value kinds.Byte r x y = refl
finished_value kinds.Integer r x y = refl
finished_value kinds.Long r x y = refl
finished_value kinds.Currency r x y = refl

-- both operands converted, then the operator
abbrev pub both_values : NumberKind → NetBin → Ty → Ty → ValueN → ValueN → Answer ValueN
both_values k op s t x y = then_answer (as_value k s x) (λ v. then_answer (as_value k t y) (λ w. operate_net (Bin op) v w))

pub both_as_values : (k : NumberKind) (op : NetBin) (s t : Ty) (x y : ValueN) → evaluate (both_as k op s t) x y ≡ both_values k op s t x y
both_as_values k op s t x y =
    ap₂ (λ p q. then_answer p (λ v. then_answer q (λ w. operate_net (Bin op) v w)))
    (as_kind_value k s operand_a x y x refl) (as_kind_value k t operand_b x y y refl)
