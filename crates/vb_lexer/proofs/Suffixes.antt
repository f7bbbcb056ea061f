-- A suffix is one unit of those that follow.
use Rattle.std.proofs.Common.{ℕ, ◌≤◌, List, [], ◌∷◌, length, arith}
use Rattle.vb_tree.specs.declared.token.Suffix.{Suffix}
use Rattle.vb_tree.specs.declared.token.Suffix.TheVariants as suffix
use Rattle.vb_tree.specs.Tokens.{name_suffix, suffix_units}

pub suffix_few : (s : Suffix) → suffix_units s ≤ 1
suffix_few suffix.Absent = omega arith
suffix_few suffix.Integer = omega arith
suffix_few suffix.Long = omega arith
suffix_few suffix.Currency = omega arith
suffix_few suffix.Str = omega arith
suffix_few suffix.Single = omega arith
suffix_few suffix.Double = omega arith

pub suffix_within : (after : List ℕ) → suffix_units (name_suffix after) ≤ length after
suffix_within [] = omega arith
suffix_within (c ∷ after) = let few : suffix_units (name_suffix (c ∷ after)) ≤ 1 = suffix_few (name_suffix (c ∷ after)) in omega arith
