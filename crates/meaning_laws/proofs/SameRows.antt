-- The laws, operator by operator.
use Rattle.std.proofs.Common.{ℕ, Bool, refl}
use Rattle.std.specs.Ordering.{is_eq, is_ne, is_lt, is_gt, is_le, is_ge}
use Rattle.vb_tree.specs.declared.expression.BinOp.TheVariants as b
use Rattle.vb6_meaning.specs.Kinds.{checked_value}
use Rattle.vb6_meaning.specs.Values as six
use Rattle.net_tree.specs.declared.expression.NetBin.TheVariants as op
use Rattle.net_meaning.specs.WrittenRows as rows
use Rattle.net_meaning.specs.SameValues.{IsSameOperator, IsOneToOne}
use Rattle.meaning_laws.proofs.Typed.{numbers_same}
use Rattle.meaning_laws.proofs.Arithmetic.{difference_same, product_same}
use Rattle.meaning_laws.proofs.Division.{quotient_same, remainder_same}
use Rattle.meaning_laws.proofs.Comparison.{compared_same, equal_tests, not_equal_tests, less_tests, greater_tests, less_equal_tests, greater_equal_tests}
use Rattle.meaning_laws.proofs.BitRows.{and_numbers, or_numbers, xor_numbers, eqv_numbers, imp_numbers, logical_same}
use Rattle.meaning_laws.proofs.TextRows.{added_same, joined_same, same_object_same}

pub pow : (are_same : ℕ → ℕ → Bool) → IsSameOperator are_same b.Pow
pow are_same s t a c x y hs ht ma mc = refl

pub div : (are_same : ℕ → ℕ → Bool) → IsSameOperator are_same b.Div
div are_same s t a c x y hs ht ma mc = refl

pub like : (are_same : ℕ → ℕ → Bool) → IsSameOperator are_same b.Like
like are_same s t a c x y hs ht ma mc = refl

pub add : (are_same : ℕ → ℕ → Bool) → IsSameOperator are_same b.Add
add are_same s t a c x y hs ht ma mc = added_same are_same s t a c x y hs ht ma mc

pub subtract : (are_same : ℕ → ℕ → Bool) → IsSameOperator are_same b.Sub
subtract are_same s t a c x y hs ht ma mc = numbers_same are_same (six.difference checked_value) (rows.arithmetic op.Sub) s t a c x y hs ht ma mc (difference_same are_same s t x y)

pub multiply : (are_same : ℕ → ℕ → Bool) → IsSameOperator are_same b.Mul
multiply are_same s t a c x y hs ht ma mc = numbers_same are_same (six.product checked_value) rows.product s t a c x y hs ht ma mc (product_same are_same s t x y)

pub divide : (are_same : ℕ → ℕ → Bool) → IsSameOperator are_same b.IntDiv
divide are_same s t a c x y hs ht ma mc = numbers_same are_same six.quotient (rows.division op.IntDiv) s t a c x y hs ht ma mc (quotient_same are_same s t x y)

pub modulo : (are_same : ℕ → ℕ → Bool) → IsSameOperator are_same b.Mod
modulo are_same s t a c x y hs ht ma mc = numbers_same are_same six.remainder (rows.division op.Mod) s t a c x y hs ht ma mc (remainder_same are_same s t x y)

pub concatenate : (are_same : ℕ → ℕ → Bool) → IsSameOperator are_same b.Concat
concatenate are_same s t a c x y hs ht ma mc = joined_same are_same s t a c x y hs ht ma mc

pub equal : (are_same : ℕ → ℕ → Bool) → IsSameOperator are_same b.Equal
equal are_same s t a c x y hs ht ma mc = compared_same are_same op.Equal is_eq equal_tests s t a c x y hs ht ma mc

pub not_equal : (are_same : ℕ → ℕ → Bool) → IsSameOperator are_same b.NotEqual
not_equal are_same s t a c x y hs ht ma mc = compared_same are_same op.NotEqual is_ne not_equal_tests s t a c x y hs ht ma mc

pub less : (are_same : ℕ → ℕ → Bool) → IsSameOperator are_same b.Less
less are_same s t a c x y hs ht ma mc = compared_same are_same op.Less is_lt less_tests s t a c x y hs ht ma mc

pub greater : (are_same : ℕ → ℕ → Bool) → IsSameOperator are_same b.Greater
greater are_same s t a c x y hs ht ma mc = compared_same are_same op.Greater is_gt greater_tests s t a c x y hs ht ma mc

pub less_equal : (are_same : ℕ → ℕ → Bool) → IsSameOperator are_same b.LessEqual
less_equal are_same s t a c x y hs ht ma mc = compared_same are_same op.LessEqual is_le less_equal_tests s t a c x y hs ht ma mc

pub greater_equal : (are_same : ℕ → ℕ → Bool) → IsSameOperator are_same b.GreaterEqual
greater_equal are_same s t a c x y hs ht ma mc = compared_same are_same op.GreaterEqual is_ge greater_equal_tests s t a c x y hs ht ma mc

pub both : (are_same : ℕ → ℕ → Bool) → IsSameOperator are_same b.And
both are_same s t a c x y hs ht ma mc = logical_same are_same six.both rows.and_row (six.bits six.both) (rows.bits rows.and_row) (λ p q. refl) (λ s t x y M N o p. and_numbers are_same s t x y M N o p) s t a c x y hs ht ma mc

pub either : (are_same : ℕ → ℕ → Bool) → IsSameOperator are_same b.Or
either are_same s t a c x y hs ht ma mc = logical_same are_same six.either rows.or_row (six.bits six.either) (rows.bits rows.or_row) (λ p q. refl) (λ s t x y M N o p. or_numbers are_same s t x y M N o p) s t a c x y hs ht ma mc

pub one_alone : (are_same : ℕ → ℕ → Bool) → IsSameOperator are_same b.Xor
one_alone are_same s t a c x y hs ht ma mc = logical_same are_same six.one_alone rows.xor_row (six.bits six.one_alone) (rows.bits rows.xor_row) (λ p q. refl) (λ s t x y M N o p. xor_numbers are_same s t x y M N o p) s t a c x y hs ht ma mc

pub alike : (are_same : ℕ → ℕ → Bool) → IsSameOperator are_same b.Eqv
alike are_same s t a c x y hs ht ma mc = logical_same are_same six.alike rows.eqv_row (six.signed_bits six.alike) (rows.signed_bits rows.eqv_row) (λ p q. refl) (λ s t x y M N o p. eqv_numbers are_same s t x y M N o p) s t a c x y hs ht ma mc

pub implies : (are_same : ℕ → ℕ → Bool) → IsSameOperator are_same b.Imp
implies are_same s t a c x y hs ht ma mc = logical_same are_same six.implies rows.imp_row (six.signed_bits six.implies) (rows.signed_bits rows.imp_row) (λ p q. refl) (λ s t x y M N o p. imp_numbers are_same s t x y M N o p) s t a c x y hs ht ma mc

pub is_same_object : (are_same : ℕ → ℕ → Bool) → IsOneToOne are_same → IsSameOperator are_same b.Is
is_same_object are_same one s t a c x y hs ht ma mc = same_object_same are_same one s t a c x y hs ht ma mc
