-- The rows of operators on Variants give the same values as those of Visual Basic 6.
use Rattle.vb_tree.specs.declared.expression.BinOp.{BinOp}
use Rattle.vb_tree.specs.declared.expression.BinOp.TheVariants as b
use Rattle.row_laws.specs.Library.{SameOfVariants}
use Rattle.row_laws.proofs.VariantNumbers.{and_same, or_same, xor_same, eqv_same, quotient_same, remainder_same}
use Rattle.row_laws.proofs.VariantSums.{add_same, subtract_same, multiply_same}
use Rattle.row_laws.proofs.VariantValues.{equal_same, not_equal_same, less_same, greater_same, less_equal_same, greater_equal_same}

pub same_of_variants : (o : BinOp) → SameOfVariants o
same_of_variants b.Equal = equal_same
same_of_variants b.NotEqual = not_equal_same
same_of_variants b.Less = less_same
same_of_variants b.Greater = greater_same
same_of_variants b.LessEqual = less_equal_same
same_of_variants b.GreaterEqual = greater_equal_same
same_of_variants b.Add = add_same
same_of_variants b.Sub = subtract_same
same_of_variants b.Mul = multiply_same
same_of_variants b.And = and_same
same_of_variants b.Or = or_same
same_of_variants b.Xor = xor_same
same_of_variants b.Eqv = eqv_same
same_of_variants b.IntDiv = quotient_same
same_of_variants b.Mod = remainder_same
same_of_variants _ = tt
