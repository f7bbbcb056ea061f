-- A clean line has no fault.
use Rattle.std.proofs.Common.{◌≡◌, ℕ, ◌+◌, ◌==◌, true, false, Option, Some, None, List, [], ◌∷◌, arith, refl, ◌∙◌}
use Rattle.std.proofs.lemmas.Bool.Decides.{nat_tests}
use Rattle.std.specs.List.{list_all}
use Rattle.vb_tree.specs.LogicalLines.{is_control, fault_at, first_fault_from, joint}
use Rattle.vb_lexer.specs.Clean.{is_plain, is_clean}
use Rattle.vb_lexer.proofs.Runs.{both_true}

no_control : (c : ℕ) → is_plain c ≡ true → is_control c ≡ false
no_control c h = grind (arith, nat_tests)

no_return : (c : ℕ) → is_plain c ≡ true → (c == 13) ≡ false
no_return c h = grind (arith, nat_tests)

no_feed : (c : ℕ) → is_plain c ≡ true → (c == 10) ≡ false
no_feed c h = grind (arith, nat_tests)

no_fault : (joints at c : ℕ) → is_plain c ≡ true → fault_at None None joints at c ≡ None
unfolding fault_at
no_fault joints at c h = rw (no_control c h, no_return c h, no_feed c h) refl

next_unit : (file line joints at c : ℕ) (cs : List ℕ) → fault_at None None joints at c ≡ None
    → first_fault_from None None file line joints at (c ∷ cs) ≡ first_fault_from None None file line (joints + joint c) (at + 1) cs
next_unit file line joints at c cs e = rw (e, first_fault_from) refl

plain_line : (file line joints at : ℕ) (units : List ℕ) → list_all is_plain units ≡ true → first_fault_from None None file line joints at units ≡ None
plain_line file line joints at [] h = refl
plain_line file line joints at (c ∷ cs) h =
    let both = both_true (is_plain c) (list_all is_plain cs) h in
    next_unit file line joints at c cs (no_fault joints at c both.0) ∙ plain_line file line (joints + joint c) (at + 1) cs both.1

pub clean_line : (directive stop : Option ℕ) (file line : ℕ) (units : List ℕ) → is_clean directive stop units ≡ true
    → first_fault_from directive stop file line 0 0 units ≡ None
clean_line (Some place) stop file line units h = absurd cc
clean_line None (Some place) file line units h = absurd cc
clean_line None None file line units h = plain_line file line 0 0 units h
