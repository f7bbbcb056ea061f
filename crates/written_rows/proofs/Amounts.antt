-- Amounts by their sign.
use Rattle.std.proofs.Common.{◌≡◌, ◌<ℤ◌, ◌≤ℤ◌, ℤ, pos, negsuc, refl, arith}
use Rattle.std.proofs.lemmas.Int.{ints}
use Rattle.std.specs.Prelude.{neg_ℤ}
use Rattle.net_tree.specs.declared.expression.NetUn.TheVariants as un
use Rattle.net_tree.specs.Tree as net
use Rattle.written_trees.specs.Literals.{currency_exp}

pub negative_amount : (z : ℤ) → z <ℤ pos 0 → currency_exp z ≡ net.unary un.Neg (net.lit (net.decimal (neg_ℤ z)))
negative_amount (pos k) e = absurd (omega (arith, ints))
negative_amount (negsuc k) e = refl

pub other_amount : (z : ℤ) → pos 0 ≤ℤ z → currency_exp z ≡ net.lit (net.decimal z)
other_amount (pos k) e = refl
other_amount (negsuc k) e = absurd (omega (arith, ints))
