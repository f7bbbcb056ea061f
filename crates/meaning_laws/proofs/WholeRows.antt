-- Rows on whole numbers: both operands are converted to the wider kind, where a Currency counts as a Long.
use Rattle.std.proofs.Common.{◌≡◌, refl, true, ℤ}
use Rattle.vb_tree.specs.BoundTree.{Ty}
use Rattle.vb_tree.specs.declared.value.Value6.{Value6}
use Rattle.vb6_meaning.specs.Answers.{Answer, then_answer}
use Rattle.vb6_meaning.specs.declared.number.Number.{Number}
use Rattle.vb6_meaning.specs.declared.number.NumberKind.{NumberKind}
use Rattle.vb6_meaning.specs.declared.number.NumberKind.TheVariants as kinds
use Rattle.vb6_meaning.specs.Kinds as limits
use Rattle.vb6_meaning.specs.Kinds.{fits, is_byte, least, rank, wider, whole, value}
use Rattle.vb6_meaning.specs.Numbers.{amount_in}
use Rattle.vb6_meaning.specs.Values as six
use Rattle.net_meaning.specs.declared.value.ValueN.{ValueN}
use Rattle.net_meaning.specs.SameValues.{Agrees}
use Rattle.meaning_laws.proofs.NetNumbers.{NetNumber, agrees_then}
use Rattle.meaning_laws.proofs.Operands.{Operand, operand_as, as_value}

-- where the result is a Byte both operands are

pub narrow_left : (k l : NumberKind) → is_byte (whole (wider k l)) ≡ true → is_byte k ≡ true
narrow_left kinds.Byte kinds.Byte h = refl
narrow_left kinds.Byte kinds.Integer h = cc
narrow_left kinds.Byte kinds.Long h = cc
narrow_left kinds.Byte kinds.Currency h = cc
narrow_left kinds.Integer kinds.Byte h = cc
narrow_left kinds.Integer kinds.Integer h = cc
narrow_left kinds.Integer kinds.Long h = cc
narrow_left kinds.Integer kinds.Currency h = cc
narrow_left kinds.Long kinds.Byte h = cc
narrow_left kinds.Long kinds.Integer h = cc
narrow_left kinds.Long kinds.Long h = cc
narrow_left kinds.Long kinds.Currency h = cc
narrow_left kinds.Currency kinds.Byte h = cc
narrow_left kinds.Currency kinds.Integer h = cc
narrow_left kinds.Currency kinds.Long h = cc
narrow_left kinds.Currency kinds.Currency h = cc

pub narrow_right : (k l : NumberKind) → is_byte (whole (wider k l)) ≡ true → is_byte l ≡ true
narrow_right kinds.Byte kinds.Byte h = refl
narrow_right kinds.Byte kinds.Integer h = cc
narrow_right kinds.Byte kinds.Long h = cc
narrow_right kinds.Byte kinds.Currency h = cc
narrow_right kinds.Integer kinds.Byte h = cc
narrow_right kinds.Integer kinds.Integer h = cc
narrow_right kinds.Integer kinds.Long h = cc
narrow_right kinds.Integer kinds.Currency h = cc
narrow_right kinds.Long kinds.Byte h = cc
narrow_right kinds.Long kinds.Integer h = cc
narrow_right kinds.Long kinds.Long h = cc
narrow_right kinds.Long kinds.Currency h = cc
narrow_right kinds.Currency kinds.Byte h = cc
narrow_right kinds.Currency kinds.Integer h = cc
narrow_right kinds.Currency kinds.Long h = cc
narrow_right kinds.Currency kinds.Currency h = cc

-- what two converted operands give
pub converted_same : {B : Type 0} (R : Value6 → B → Type 0) (k : NumberKind) (s t : Ty) (M N : Number) (x y : ValueN)
    (next : ℤ → ℤ → Answer Value6) (go : ValueN → ValueN → Answer B)
    → Operand s M x → Operand t N y → (is_byte k ≡ true → is_byte M.kind ≡ true) → (is_byte k ≡ true → is_byte N.kind ≡ true)
    → ((p q : ℤ) (v u : ValueN) → NetNumber k p v → NetNumber k q u → Agrees R (next p q) (go v u))
    → Agrees R (six.converted k M N next) (then_answer (as_value k s x) (λ v. then_answer (as_value k t y) (λ u. go v u)))
converted_same R k s t M N x y next go o p g h at =
    agrees_then (NetNumber k) R (limits.checked k (amount_in k M)) (as_value k s x)
    (λ p. then_answer (limits.checked k (amount_in k N)) (λ q. next p q)) (λ v. then_answer (as_value k t y) (λ u. go v u))
    (operand_as k s M x o g)
    (λ z v zv. agrees_then (NetNumber k) R (limits.checked k (amount_in k N)) (as_value k t y) (λ q. next z q) (λ u. go v u)
    (operand_as k t N y p h) (λ w u wu. at z w v u zv wu))
