-- Quotients and remainders.
use Rattle.std.proofs.Common.{◌≡◌, ℕ, ◌/◌, ◌%◌, unsigned_abs, refl, sym, ◌∙◌, subst, Bool, true, false, cond, ◌&&◌, ℤ, pos, negsuc}
use Rattle.std.specs.Prelude.{if◌then◌else◌, int_div, int_rem}
use Rattle.std.specs.Ordering.{int_eq}
use Rattle.vb_tree.specs.BoundTree.{Ty}
use Rattle.vb6_meaning.specs.Answers.{gives, raises, outside}
use Rattle.vb6_meaning.specs.declared.number.Number.{Number}
use Rattle.vb6_meaning.specs.declared.number.NumberKind.{NumberKind}
use Rattle.vb6_meaning.specs.declared.number.NumberKind.TheVariants as kinds
use Rattle.vb6_meaning.specs.Kinds.{least, wider, whole, value}
use Rattle.vb6_meaning.specs.Values as six
use Rattle.net_tree.specs.declared.expression.NetBin.TheVariants as op
use Rattle.net_tree.specs.declared.expression.OpN.TheVariants.{Bin}
use Rattle.net_meaning.specs.declared.value.ValueN.{ValueN}
use Rattle.net_meaning.specs.declared.value.ValueN.TheVariants as n
use Rattle.net_meaning.specs.declared.whole.WholeKind.TheVariants.{Byte, Short, Integer}
use Rattle.net_meaning.specs.Operators.{operate_net}
use Rattle.net_meaning.specs.ValueMatch.{Matches, bytes, integers, longs}
use Rattle.net_meaning.specs.Whole.{is_whole}
use Rattle.net_meaning.specs.WrittenRows.{division, type_of_kind}
use Rattle.net_meaning.specs.SameValues.{Agrees, IsSame}
use Rattle.meaning_laws.proofs.NetNumbers.{NetNumber, byte_number, short_number, integer_number, decimal_number, byte_limits, short_limits, integer_limits}
use Rattle.meaning_laws.proofs.Operands.{Operand}
use Rattle.meaning_laws.proofs.Typed.{both_as_values}
use Rattle.meaning_laws.proofs.WholeRows.{narrow_left, narrow_right, converted_same}
use Rattle.vb6_meaning.proofs.Limits.{quotient_fits, remainder_fits}

-- a quotient that is within the limits unless the divisor is zero, or -1 with the least value
quotient_test : {A B : Type 0} (R : A → B → Type 0) (zero least fit : Bool) (v : A) (u : B) → (least ≡ false → fit ≡ true) → (least ≡ false → R v u)
    → Agrees R (cond zero (raises 11) (cond least outside (gives v))) (if zero then raises 11 else (if fit then gives u else raises 6))
quotient_test R true least fit v u g h = refl
quotient_test R false true fit v u g h = tt
quotient_test R false false true v u g h = (u, refl, h refl)
quotient_test R false false false v u g h = let e = g refl in cc

remainder_test : {A B : Type 0} (R : A → B → Type 0) (zero least fit own : Bool) (v : A) (u : B) → (least ≡ false → fit ≡ true) → own ≡ true → R v u
    → Agrees R (cond zero (raises 11) (cond least outside (gives v))) (if zero then raises 11 else (if fit then (if own then gives u else raises 6) else outside))
remainder_test R true least fit own v u g e h = refl
remainder_test R false true fit own v u g e h = tt
remainder_test R false false true true v u g e h = (u, refl, h)
remainder_test R false false true false v u g e h = cc
remainder_test R false false false own v u g e h = let f = g refl in cc

quotient_at : (are_same : ℕ → ℕ → Bool) (k : NumberKind) → whole k ≡ k → (p q : ℤ) (v u : ValueN) → NetNumber k p v → NetNumber k q u
    → Agrees (Matches are_same (type_of_kind k)) (six.divided int_div k p q) (operate_net (Bin op.IntDiv) v u)
quotient_at are_same _ c _ _ _ _ (byte_number m e) (byte_number l h) =
    quotient_test (Matches are_same (type_of_kind kinds.Byte)) (int_eq (pos l) (pos 0)) (int_eq (pos l) (negsuc 0) && int_eq (pos m) (least kinds.Byte)) (is_whole Byte (int_div (pos m) (pos l)))
    (value kinds.Byte (int_div (pos m) (pos l))) (n.Byte (m / l)) (λ f. sym (byte_limits (int_div (pos m) (pos l))) ∙ quotient_fits kinds.Byte (pos m) (pos l) e h f)
    (λ f. bytes (m / l) (quotient_fits kinds.Byte (pos m) (pos l) e h f))
quotient_at are_same _ c _ _ _ _ (short_number z e) (short_number w h) =
    quotient_test (Matches are_same (type_of_kind kinds.Integer)) (int_eq w (pos 0)) (int_eq w (negsuc 0) && int_eq z (least kinds.Integer)) (is_whole Short (int_div z w))
    (value kinds.Integer (int_div z w)) (n.Short (int_div z w)) (λ f. sym (short_limits (int_div z w)) ∙ quotient_fits kinds.Integer z w e h f)
    (λ f. integers (int_div z w) (quotient_fits kinds.Integer z w e h f))
quotient_at are_same _ c _ _ _ _ (integer_number z e) (integer_number w h) =
    quotient_test (Matches are_same (type_of_kind kinds.Long)) (int_eq w (pos 0)) (int_eq w (negsuc 0) && int_eq z (least kinds.Long)) (is_whole Integer (int_div z w))
    (value kinds.Long (int_div z w)) (n.Integer (int_div z w)) (λ f. sym (integer_limits (int_div z w)) ∙ quotient_fits kinds.Long z w e h f)
    (λ f. longs (int_div z w) (quotient_fits kinds.Long z w e h f))
quotient_at are_same _ c _ _ _ _ (decimal_number z m s e d) (decimal_number w l t h g) = absurd (cc)

remainder_at : (are_same : ℕ → ℕ → Bool) (k : NumberKind) → whole k ≡ k → (p q : ℤ) (v u : ValueN) → NetNumber k p v → NetNumber k q u
    → Agrees (Matches are_same (type_of_kind k)) (six.divided int_rem k p q) (operate_net (Bin op.Mod) v u)
remainder_at are_same _ c _ _ _ _ (byte_number m e) (byte_number l h) =
    remainder_test (Matches are_same (type_of_kind kinds.Byte)) (int_eq (pos l) (pos 0)) (int_eq (pos l) (negsuc 0) && int_eq (pos m) (least kinds.Byte)) (is_whole Byte (int_div (pos m) (pos l))) (is_whole Byte (int_rem (pos m) (pos l)))
    (value kinds.Byte (int_rem (pos m) (pos l))) (n.Byte (m % unsigned_abs (pos l))) (λ f. sym (byte_limits (int_div (pos m) (pos l))) ∙ quotient_fits kinds.Byte (pos m) (pos l) e h f)
    (sym (byte_limits (int_rem (pos m) (pos l))) ∙ remainder_fits kinds.Byte (pos m) (pos l) e) (bytes (m % unsigned_abs (pos l)) (remainder_fits kinds.Byte (pos m) (pos l) e))
remainder_at are_same _ c _ _ _ _ (short_number z e) (short_number w h) =
    remainder_test (Matches are_same (type_of_kind kinds.Integer)) (int_eq w (pos 0)) (int_eq w (negsuc 0) && int_eq z (least kinds.Integer)) (is_whole Short (int_div z w)) (is_whole Short (int_rem z w))
    (value kinds.Integer (int_rem z w)) (n.Short (int_rem z w)) (λ f. sym (short_limits (int_div z w)) ∙ quotient_fits kinds.Integer z w e h f)
    (sym (short_limits (int_rem z w)) ∙ remainder_fits kinds.Integer z w e) (integers (int_rem z w) (remainder_fits kinds.Integer z w e))
remainder_at are_same _ c _ _ _ _ (integer_number z e) (integer_number w h) =
    remainder_test (Matches are_same (type_of_kind kinds.Long)) (int_eq w (pos 0)) (int_eq w (negsuc 0) && int_eq z (least kinds.Long)) (is_whole Integer (int_div z w)) (is_whole Integer (int_rem z w))
    (value kinds.Long (int_rem z w)) (n.Integer (int_rem z w)) (λ f. sym (integer_limits (int_div z w)) ∙ quotient_fits kinds.Long z w e h f)
    (sym (integer_limits (int_rem z w)) ∙ remainder_fits kinds.Long z w e) (longs (int_rem z w) (remainder_fits kinds.Long z w e))
remainder_at are_same _ c _ _ _ _ (decimal_number z m s e d) (decimal_number w l t h g) = absurd (cc)

pub whole_twice : (k : NumberKind) → whole (whole k) ≡ whole k
whole_twice kinds.Byte = refl
whole_twice kinds.Integer = refl
whole_twice kinds.Long = refl
whole_twice kinds.Currency = refl

pub quotient_same : (are_same : ℕ → ℕ → Bool) (s t : Ty) (x y : ValueN) (M N : Number) → Operand s M x → Operand t N y
    → IsSame are_same (six.quotient M N) (division op.IntDiv s t M.kind N.kind) x y
quotient_same are_same s t x y M N o p =
    let k = whole (wider M.kind N.kind) in
    subst (λ a. Agrees (Matches are_same (type_of_kind k)) (six.quotient M N) a) (sym (both_as_values k op.IntDiv s t x y))
    (converted_same (Matches are_same (type_of_kind k)) k s t M N x y (six.divided int_div k) (λ v u. operate_net (Bin op.IntDiv) v u) o p
    (narrow_left M.kind N.kind) (narrow_right M.kind N.kind) (quotient_at are_same k (whole_twice (wider M.kind N.kind))))

pub remainder_same : (are_same : ℕ → ℕ → Bool) (s t : Ty) (x y : ValueN) (M N : Number) → Operand s M x → Operand t N y
    → IsSame are_same (six.remainder M N) (division op.Mod s t M.kind N.kind) x y
remainder_same are_same s t x y M N o p =
    let k = whole (wider M.kind N.kind) in
    subst (λ a. Agrees (Matches are_same (type_of_kind k)) (six.remainder M N) a) (sym (both_as_values k op.Mod s t x y))
    (converted_same (Matches are_same (type_of_kind k)) k s t M N x y (six.divided int_rem k) (λ v u. operate_net (Bin op.Mod) v u) o p
    (narrow_left M.kind N.kind) (narrow_right M.kind N.kind) (remainder_at are_same k (whole_twice (wider M.kind N.kind))))
