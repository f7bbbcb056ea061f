-- What references point to.
use Rattle.std.specs.Prelude.{ℕ, List, Option, option_map}
use Rattle.std.specs.Borrow.{Bor}
use Rattle.vb_tree.specs.declared.token.Suffix.{Suffix}
use Rattle.vb_tree.specs.declared.token.Token.{Token}

abbrev pub both_now : Option (Bor (List Token) × Bor (List Token)) → Option (List Token × List Token)
both_now found = option_map (λ f. (f.0.now, f.1.now)) found

abbrev pub name_now : Option (Bor (List ℕ) × Suffix) → Option (List ℕ × Suffix)
name_now found = option_map (λ f. (f.0.now, f.1)) found

abbrev pub now_of : Option (Bor (List ℕ)) → Option (List ℕ)
now_of found = option_map (λ f. f.now) found
