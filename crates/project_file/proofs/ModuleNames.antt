-- The names of modules are names.
use Rattle.std.proofs.Common.{◌≡◌, ℕ, suc, true, ◌&&◌, List, [], ◌∷◌, length, refl, nat_le, arith}
use Rattle.std.specs.List.{list_all}
use Rattle.std.proofs.lemmas.Bool.Decides.{nat_tests}
use Rattle.up_base.specs.Names.{is_name, is_printable}
use Rattle.vb_tree.specs.ProjectLines.{is_letter, is_name_unit, is_module_name}
use Rattle.up_base.proofs.Tests.{both_true, and_true}

printable_letter : (c : ℕ) → is_letter c ≡ true → is_printable c ≡ true
printable_letter c h = grind (arith, nat_tests)

printable_unit : (c : ℕ) → is_name_unit c ≡ true → is_printable c ≡ true
printable_unit c h = grind (arith, nat_tests)

printable_units : (cs : List ℕ) → list_all is_name_unit cs ≡ true → list_all is_printable cs ≡ true
printable_units [] h = refl
printable_units (c ∷ cs) h = let p = both_true (is_name_unit c) (list_all is_name_unit cs) h in and_true _ _ (printable_unit c p.0) (printable_units cs p.1)

length_fits : (n : ℕ) → nat_le n 254 ≡ true → (nat_le 1 (suc n) && nat_le (suc n) 512) ≡ true
length_fits n h = grind (arith, nat_tests)

pub module_is_name : (name : List ℕ) → is_module_name name ≡ true → is_name name ≡ true
module_is_name [] h = cc
module_is_name (c ∷ cs) h =
    let p = both_true (is_letter c && nat_le (length cs) 254) (list_all is_name_unit cs) h in
    let q = both_true (is_letter c) (nat_le (length cs) 254) p.0 in
    and_true _ _ (length_fits (length cs) q.1) (and_true _ _ (printable_letter c q.0) (printable_units cs p.1))
